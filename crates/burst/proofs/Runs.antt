-- A run with bursts among its calls is a run of single calls, so that the theorem over runs holds of it.
use mathlib.Core.Path.{◌≡◌, refl, sym, ap, subst, ◌∙◌}
use mathlib.Core.Bool.{Bool, true, false, cond}
use mathlib.Core.List.{List, [], ◌∷◌, ◌++◌, map, append-nil, append_assoc}
use Prim.Native.Nat.{ℕ}
use native.Mathlib.Omega.{arith}
use lib.Dec.{eqb}
use lib.ListN.{length, take}
use lib.Seq.{take-length}
use borrow.Author.Tests.{eqb-false, ne_eqb}
use Rattle.words.proofs.Over.{take-over}
use Rattle.model.specs.declared.Config.{Config}
use Rattle.model.specs.Rules.{waits}
use Rattle.model.specs.Push.{media_entry_of, media_place}
use Rattle.model.specs.Storage.{Stored, parse}
use Rattle.model.specs.Calls.{Call, media, queued, dropped, placed_answer, answered}
use Rattle.model.specs.Table.{refusal}
use Rattle.model.specs.Did.{did, accepted, turned_back}
use Rattle.book.specs.Book as B
use Rattle.book.specs.Book.{Book, enter}
use Rattle.book.specs.Claim.{hear, given, Run}
use Rattle.book.specs.Code.{Made, opening, further}
use Rattle.book.proofs.Theorem.{every_run}
use Rattle.burst.specs.Burst.{datagrams, pushed, answer_number, is_accepted, answer_numbers, burst_refusal, BurstDone, did_burst}
use Rattle.burst.specs.Runs as R
use Rattle.burst.specs.Runs.{heard, enter_each, MadeWith, EveryRunWithBursts}
use Rattle.burst.proofs.Steps.{small-refusal}
use Rattle.burst.proofs.Fold.{length-parts, length-numbers}

-- ---- what the book hears of one datagram

module _ (now : ℕ) (d : List ℕ) (m : Stored) where
  -- of the answer and of its number the same; and a media call hands nothing out
  abbrev AsTold : Type 0
  AsTold = (hear (did (media now d) m).answer ≡ heard (answer_number (did (media now d) m).answer)) × (given (did (media now d) m).answer ≡ [])

  placed : (t : Bool) → (hear (cond t queued dropped) ≡ heard (answer_number (cond t queued dropped))) × (given (cond t queued dropped) ≡ [])
  unfolding hear heard is_accepted given answer_number
  placed true = (refl, refl)
  placed false = (refl, refl)

  as_told : AsTold
  unfolding did accepted turned_back answered placed_answer hear heard is_accepted given answer_number
  as_told = go (eqb (refusal (media now d) m) 0) refl
    where
      go : (t : Bool) → eqb (refusal (media now d) m) 0 ≡ t
          → (hear (cond t (accepted (media now d) (parse m)) (turned_back (refusal (media now d) m) (media now d) m)).answer ≡ heard (answer_number (cond t (accepted (media now d) (parse m)) (turned_back (refusal (media now d) m) (media now d) m)).answer))
          × (given (cond t (accepted (media now d) (parse m)) (turned_back (refusal (media now d) m) (media now d) m)).answer ≡ [])
      go true z = placed (waits (media_place (parse m) (media_entry_of now d (parse m).queue).number))
      go false z =
          let other : eqb (refusal (media now d) m) 255 ≡ false = ne_eqb (refusal (media now d) m) 255 (λ e. omega (arith, small-refusal now d m, e)) in
          (rw (z, other), refl)

-- ---- a burst is its media calls

module _ (c : Config) (now : ℕ) where
  made_each : (ds : List (List ℕ)) {ks : List Call} {x : Run} → Made c ks x
      → Made c (ks ++ map (media now) ds) (record { stored = pushed now ds x.stored; book = enter_each c now ds (answer_numbers now ds x.stored) x.book; returned = x.returned })
  unfolding pushed answer_numbers enter_each
  made_each [] {ks} h = rw append-nil h
  made_each (d ∷ ds) {ks} {x} h =
      let k = media now d in
      let y = did k x.stored in
      let told = as_told now d x.stored in
      let one : Made c (ks ++ (k ∷ [])) (record { stored = y.stored; book = enter c k (hear y.answer) x.book; returned = x.returned ++ given y.answer }) = further k h refl in
      let book : enter c k (hear y.answer) x.book ≡ enter c k (heard (answer_number y.answer)) x.book = ap (λ (e : B.Heard). enter c k e x.book) told.0 in
      let returned : x.returned ++ given y.answer ≡ x.returned = ap (λ (l : List ℕ). x.returned ++ l) told.1 ∙ append-nil x.returned in
      let step : Made c (ks ++ (k ∷ [])) (record { stored = y.stored; book = enter c k (heard (answer_number y.answer)) x.book; returned = x.returned }) = rw (book, returned) at one in
      subst (λ (l : List Call). Made c l (record { stored = pushed now ds y.stored; book = enter_each c now ds (answer_numbers now ds y.stored) (enter c k (heard (answer_number y.answer)) x.book); returned = x.returned }))
      (append_assoc ks (k ∷ []) (map (media now) ds)) (made_each ds step)

-- what an accepted burst leaves and tells, and what a refused one does
module _ (now : ℕ) (buffer ends lent : List ℕ) (m : Stored) (b : BurstDone) (e : did_burst now buffer ends lent m ≡ b) where
  pub accepted-burst : b.refusal ≡ 0 → (b.stored ≡ pushed now (datagrams buffer ends) m) × (take b.count b.output ≡ answer_numbers now (datagrams buffer ends) m)
  unfolding did_burst
  accepted-burst z = go (eqb (burst_refusal (length buffer) ends (length lent)) 0) refl
    where
      go : (t : Bool) → eqb (burst_refusal (length buffer) ends (length lent)) 0 ≡ t → (b.stored ≡ pushed now (datagrams buffer ends) m) × (take b.count b.output ≡ answer_numbers now (datagrams buffer ends) m)
      go true y =
          let f = rw y at e in
          let ds = datagrams buffer ends in
          let q = answer_numbers now ds m in
          let n : length q ≡ length ends = length-numbers now ds m ∙ length-parts 0 buffer ends in (
            sym (ap (λ (x : BurstDone). x.stored) f),
            sym (ap (λ (x : BurstDone). take x.count x.output) f) ∙ rw (← n) (take-over (length q) q lent (omega arith) ∙ take-length q),
          )
      go false y = absurd (eqb-false _ _ y (ap (λ (x : BurstDone). x.refusal) (rw y at e) ∙ z))

  refused-burst : (b.refusal ≡ 0 → ⊥) → b.stored ≡ m
  unfolding did_burst
  refused-burst h = go (eqb (burst_refusal (length buffer) ends (length lent)) 0) refl
    where
      go : (t : Bool) → eqb (burst_refusal (length buffer) ends (length lent)) 0 ≡ t → b.stored ≡ m
      go true y = absurd (h (sym (ap (λ (x : BurstDone). x.refusal) (rw y at e))))
      go false y = sym (ap (λ (x : BurstDone). x.stored) (rw y at e))

-- ---- the run

made : {c : Config} {ks : List Call} {x : Run} → MadeWith c ks x → Made c ks x
made (R.opening t o) = opening t o
made (R.single k h e) = further k (made h) e
made {c} (R.burst {ks = ks} {x = x} now buffer ends lent {n = n} {y = y} {output = output} h e) =
    let r = accepted-burst now buffer ends lent x.stored _ e refl in
    let f = made_each c now (datagrams buffer ends) (made h) in
    subst (λ (z : Stored). Made c (ks ++ map (media now) (datagrams buffer ends)) (record { stored = z; book = enter_each c now (datagrams buffer ends) (take n output) x.book; returned = x.returned })) (sym r.0)
    (subst (λ (q : List ℕ). Made c (ks ++ map (media now) (datagrams buffer ends)) (record { stored = pushed now (datagrams buffer ends) x.stored; book = enter_each c now (datagrams buffer ends) q x.book; returned = x.returned })) (sym r.1) f)
made {c} (R.refused_burst {ks = ks} {x = x} now buffer ends lent h k e) =
    subst (λ (z : Stored). Made c ks (record { stored = z; book = x.book; returned = x.returned })) (sym (refused-burst now buffer ends lent x.stored _ e k)) (made h)

pub every_run_with_bursts : EveryRunWithBursts
every_run_with_bursts c ks x h = every_run c ks x (made h)
