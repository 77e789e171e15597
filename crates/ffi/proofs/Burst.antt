-- A burst through the boundary: what the exported call gives, and that it is the exported media calls one after the other.
use mathlib.Core.Path.{◌≡◌, refl, sym, ap, subst, ◌∙◌}
use mathlib.Core.Bool.{Bool, true, false, cond, ◌||◌}
use mathlib.Core.List.{List, [], ◌∷◌, ◌++◌, map, append-nil, append_assoc}
use Prim.Native.Nat.{ℕ}
use native.Mathlib.Omega.{arith}
use lib.Dec.{eqb}
use lib.ListN.{length, take}
use borrow.Author.Tests.{ne_eqb}
use Rattle.std.proofs.lemmas.Bool.{or_parts}
use Rattle.std.specs.Prelude.{Result, Ok, Err}
use Rattle.std.specs.Result.{result_unwrap_or}
use Rattle.refusals.specs.declared.Refusal.{Refusal}
use Rattle.refusals.specs.Refusals.{refusal_of}
use Rattle.model.specs.declared.Session.{Session}
use Rattle.model.specs.Lists.{some?}
use Rattle.model.specs.Rules.{waits}
use Rattle.model.specs.Push.{media_entry_of, media_place}
use Rattle.model.specs.Storage.{Storage, Stored, parse}
use Rattle.model.specs.Calls.{Call, Answer, media, queued, dropped, placed_answer, answered, output_of, output_after}
use Rattle.model.specs.Table.{refusal}
use Rattle.model.specs.Did.{Done, did, accepted, turned_back}
use Rattle.book.specs.Book.{enter}
use Rattle.book.specs.Claim.{Run}
use Rattle.burst.specs.Burst.{datagrams, pushed, answer_number, is_accepted, answer_numbers, burst_refusal, BurstDone, written, did_burst}
use Rattle.burst.specs.Runs.{heard, enter_each}
use Rattle.burst.proofs.Steps.{small-refusal}
use Rattle.burst.proofs.Runs.{accepted-burst}
use Rattle.ffi_words.specs.declared.ConfigWords.{ConfigWords}
use Rattle.ffi_words.specs.declared.SessionWords.{SessionWords}
use Rattle.ffi_words.specs.declared.answers.PushedBurst.{PushedBurst}
use Rattle.ffi_words.specs.declared.answers.Pushed.{Pushed}
use Rattle.ffi_words.specs.Words.{config_of, words_of}
use Rattle.ffi_words.specs.Told as Told
use Rattle.ffi_words.specs.Told.{refusal_in, opt_words, value_of, session_after, burst_told}
use Rattle.ffi.specs.Exported.{stands_for, Given, told, called}
use Rattle.ffi.specs.Follows.{heard_in, ExportedCall, push}
use Rattle.ffi.specs.Runs.{next_run, MadeInWords, further}
use Rattle.ffi.specs.Burst.{session_in, told_burst, called_burst, BurstFollows}
use Rattle.ffi.proofs.Follows.{follows}
use Rattle.ffi.proofs.Runs.{stands}

-- ---- what the exported call gives

module _ (now : ℕ) (buffer ends lent : List ℕ) (w : SessionWords) (t : Storage) where
  pub burst-given : {s left : Session} (done : Result ℕ Refusal) {after : Storage} {out : List ℕ} {b : Bool} {r : PushedBurst} → s ≡ session_in w
      → did_burst now buffer ends lent (record { session = s; storage = t }) ≡ record { refusal = refusal_of done; count = written done; stored = record { session = left; storage = after }; output = out }
      → b ≡ some? is_accepted (take (result_unwrap_or done 0) out) → r ≡ burst_told (refusal_of done) (result_unwrap_or done 0) b w left → called_burst now buffer ends lent w t ≡ record { value = r; storage = after; output = out }
  unfolding called_burst told_burst
  burst-given (Ok n) e d a g = rw (← e, d, g, a)
  burst-given (Err k) e d a g = rw (← e, d, g, a)

-- ---- one exported media call, by its answer number

module _ (now : ℕ) (d : List ℕ) (m : Stored) where
  abbrev done : Done
  done = did (media now d) m

  abbrev number : ℕ
  number = answer_number done.answer

  -- the words that come back, and what is heard
  abbrev AsTold : Answer → SessionWords → Session → Type 0
  AsTold a w s = (session_after (refusal_in a) w s ≡ cond (is_accepted (answer_number a)) (words_of s) w) × (heard_in (value_of (refusal_in a)) 0 ≡ heard (answer_number a))

  placed_told : (t : Bool) (w : SessionWords) (s : Session) → AsTold (cond t queued dropped) w s
  unfolding session_after refusal_in is_accepted answer_number heard_in heard opt_words
  placed_told true w s = (refl, refl)
  placed_told false w s = (refl, refl)

  as_told : (w : SessionWords) (s : Session) → AsTold done.answer w s
  unfolding did accepted turned_back answered placed_answer session_after refusal_in is_accepted answer_number heard_in heard opt_words
  as_told w s = go (eqb (refusal (media now d) m) 0) refl
    where
      go : (t : Bool) → eqb (refusal (media now d) m) 0 ≡ t → AsTold (cond t (accepted (media now d) (parse m)) (turned_back (refusal (media now d) m) (media now d) m)).answer w s
      go true z = placed_told (waits (media_place (parse m) (media_entry_of now d (parse m).queue).number)) w s
      go false z =
          let other : eqb (refusal (media now d) m) 255 ≡ false = ne_eqb (refusal (media now d) m) 255 (λ e. omega (arith, small-refusal now d m, e)) in
          (rw (z, other), rw (z, other))

  no_output : done.output ≡ []
  unfolding did accepted turned_back output_of output_after
  no_output = go (eqb (refusal (media now d) m) 0)
    where
      go : (t : Bool) → (cond t (accepted (media now d) (parse m)) (turned_back (refusal (media now d) m) (media now d) m)).output ≡ []
      go true = refl
      go false = refl

  -- a number that is a refusal leaves all as it was
  kept : is_accepted number ≡ false → done.stored ≡ m
  unfolding did accepted turned_back answered placed_answer is_accepted answer_number
  kept = go (eqb (refusal (media now d) m) 0)
    where
      none : (t : Bool) → is_accepted (answer_number (cond t queued dropped)) ≡ false → ⊥
      none true e = let z : ◌≡◌ {A = ℕ} 0 1 = cc in omega arith
      none false e = let z : ◌≡◌ {A = ℕ} 0 1 = cc in omega arith

      go : (t : Bool) → is_accepted (answer_number (cond t (accepted (media now d) (parse m)) (turned_back (refusal (media now d) m) (media now d) m)).answer) ≡ false
          → (cond t (accepted (media now d) (parse m)) (turned_back (refusal (media now d) m) (media now d) m)).stored ≡ m
      go true e = absurd (none (waits (media_place (parse m) (media_entry_of now d (parse m).queue).number)) e)
      go false e = refl

none-accepted : (now : ℕ) (ds : List (List ℕ)) (m : Stored) → some? is_accepted (answer_numbers now ds m) ≡ false → pushed now ds m ≡ m
unfolding some? answer_numbers pushed
none-accepted now [] m e = refl
none-accepted now (d ∷ ds) m e =
    let o = or_parts (is_accepted (number now d m)) (some? is_accepted (answer_numbers now ds (did (media now d) m).stored)) e in
    none-accepted now ds (did (media now d) m).stored o.1 ∙ kept now d m o.0

-- the words that the caller has after the datagrams
abbrev words_after : ℕ → List (List ℕ) → SessionWords → Stored → SessionWords
words_after now ds w m = cond (some? is_accepted (answer_numbers now ds m)) (words_of (pushed now ds m).session) w

module _ (now : ℕ) (d : List ℕ) (ds : List (List ℕ)) (w : SessionWords) (m : Stored) where
  words_next : words_after now ds (cond (is_accepted (number now d m)) (words_of (did (media now d) m).stored.session) w) (did (media now d) m).stored ≡ words_after now (d ∷ ds) w m
  unfolding some? answer_numbers pushed
  words_next = go (is_accepted (number now d m)) (some? is_accepted (answer_numbers now ds (did (media now d) m).stored)) refl
    where
      go : (a b : Bool) → some? is_accepted (answer_numbers now ds (did (media now d) m).stored) ≡ b
          → cond b (words_of (pushed now ds (did (media now d) m).stored).session) (cond a (words_of (did (media now d) m).stored.session) w) ≡ cond (a || b) (words_of (pushed now ds (did (media now d) m).stored).session) w
      go true true e = refl
      go false true e = refl
      go true false e = ap (λ (x : Stored). words_of x.session) (sym (none-accepted now ds (did (media now d) m).stored e))
      go false false e = refl

-- ---- a run of exported calls

module _ (c : ConfigWords) (now : ℕ) where
  module _ {ks : List Call} {w : SessionWords} {x : Run} (h : MadeInWords c ks w x) (d : List ℕ) where
    abbrev y : Done
    y = did (media now d) x.stored

    abbrev g : Given Pushed
    g = called Told.pushed (media now d) w x.stored.storage

    is-told : g ≡ told Told.pushed w y
    unfolding called
    is-told = rw (stands h).readable-words (ap (λ (m : Stored). told Told.pushed w (did (media now d) m)) (sym (stands h).stored_is))

    gives : g ≡ record { value = g.value; storage = g.storage; output = [] }
    unfolding told
    gives = ap (λ (o : List ℕ). record { value = g.value; storage = g.storage; output = o }) (ap (λ (z : Given Pushed). z.output) is-told ∙ no_output now d x.stored)

    abbrev exported : ExportedCall w x.stored.storage (media now d) g.value.session g.storage (heard_in g.value.refusal 0) []
    exported = push gives

    words_are : g.value.session ≡ cond (is_accepted (number now d x.stored)) (words_of y.stored.session) w
    unfolding told Told.pushed
    words_are = ap (λ (z : Given Pushed). z.value.session) is-told ∙ (as_told now d x.stored w y.stored.session).0

    heard-is : heard_in g.value.refusal 0 ≡ heard (number now d x.stored)
    unfolding told Told.pushed
    heard-is = ap (λ (z : Given Pushed). heard_in z.value.refusal 0) is-told ∙ (as_told now d x.stored w y.stored.session).1

    stored_is : stands_for g.value.session g.storage ≡ y.stored
    stored_is = (follows.at_call (stands h).readable-words exported).1 ∙ ap (λ (m : Stored). (did (media now d) m).stored) (sym (stands h).stored_is)

    one_more : MadeInWords c (ks ++ (media now d ∷ [])) (cond (is_accepted (number now d x.stored)) (words_of y.stored.session) w)
        (record { stored = y.stored; book = enter (config_of c) (media now d) (heard (number now d x.stored)) x.book; returned = x.returned })
    one_more =
        let f = further (media now d) h exported in
        let run : next_run (config_of c) x (media now d) g.value.session g.storage (heard_in g.value.refusal 0) [] ≡ record { stored = y.stored; book = enter (config_of c) (media now d) (heard (number now d x.stored)) x.book; returned = x.returned } = rw (stored_is, heard-is, append-nil) in
        subst (λ (v : SessionWords). MadeInWords c (ks ++ (media now d ∷ [])) v (record { stored = y.stored; book = enter (config_of c) (media now d) (heard (number now d x.stored)) x.book; returned = x.returned })) words_are
        (subst (MadeInWords c (ks ++ (media now d ∷ [])) g.value.session) run f)

  each_more : (ds : List (List ℕ)) {ks : List Call} {w : SessionWords} {x : Run} → MadeInWords c ks w x
      → MadeInWords c (ks ++ map (media now) ds) (words_after now ds w x.stored) (record { stored = pushed now ds x.stored; book = enter_each (config_of c) now ds (answer_numbers now ds x.stored) x.book; returned = x.returned })
  unfolding some? answer_numbers pushed enter_each
  each_more [] h = rw append-nil h
  each_more (d ∷ ds) {ks} {w} {x} h =
      let m = (did (media now d) x.stored).stored in
      let run : Run = record { stored = pushed now ds m; book = enter_each (config_of c) now ds (answer_numbers now ds m) (enter (config_of c) (media now d) (heard (number now d x.stored)) x.book); returned = x.returned } in
      subst (λ (v : SessionWords). MadeInWords c (ks ++ map (media now) (d ∷ ds)) v run) (words_next now d ds w x.stored)
      (subst (λ (l : List Call). MadeInWords c l (words_after now ds (cond (is_accepted (number now d x.stored)) (words_of m.session) w) m) run) (append_assoc ks (media now d ∷ []) (map (media now) ds)) (each_more ds (one_more h d)))

-- ---- the burst

module _ (now : ℕ) (buffer ends lent : List ℕ) where
  abbrev burst_on : Stored → BurstDone
  burst_on m = did_burst now buffer ends lent m

  counts : {c : ConfigWords} {ks : List Call} {w : SessionWords} {x : Run} {r : PushedBurst} {u : Storage} {output : List ℕ} → MadeInWords c ks w x
      → called_burst now buffer ends lent w x.stored.storage ≡ record { value = r; storage = u; output = output } → r.refusal ≡ 0
      → MadeInWords c (ks ++ map (media now) (datagrams buffer ends)) r.session
      (record { stored = stands_for r.session u; book = enter_each (config_of c) now (datagrams buffer ends) (take r.answers output) x.book; returned = x.returned })
  unfolding called_burst told_burst burst_told session_in
  counts {c} {ks} {w} {x} {r} {u} {output} h e z =
      let s = stands h in
      let b = burst_on x.stored in
      let at : record { session = session_in w; storage = x.stored.storage } ≡ x.stored = rw s.readable-words (sym s.stored_is) in
      let f : told_burst w b ≡ record { value = r; storage = u; output = output } = ap (λ (m : Stored). told_burst w (burst_on m)) (sym at) ∙ e in
      let a = accepted-burst now buffer ends lent x.stored b refl (ap (λ (g : Given PushedBurst). g.value.refusal) f ∙ z) in
      let numbers : take r.answers output ≡ answer_numbers now (datagrams buffer ends) x.stored = sym (ap (λ (g : Given PushedBurst). take g.value.answers g.output) f) ∙ a.1 in
      let words : r.session ≡ words_after now (datagrams buffer ends) w x.stored = sym (ap (λ (g : Given PushedBurst). g.value.session) f) ∙ rw (a.1, a.0) in
      let store : u ≡ (pushed now (datagrams buffer ends) x.stored).storage = sym (ap (λ (g : Given PushedBurst). g.storage) f) ∙ ap (λ (m : Stored). m.storage) a.0 in
      let made = each_more c now (datagrams buffer ends) h in
      let stood : stands_for r.session u ≡ pushed now (datagrams buffer ends) x.stored = rw (words, store) (sym (stands made).stored_is) in
      subst (λ (v : SessionWords). MadeInWords c (ks ++ map (media now) (datagrams buffer ends)) v (record { stored = stands_for r.session u; book = enter_each (config_of c) now (datagrams buffer ends) (take r.answers output) x.book; returned = x.returned })) (sym words)
      (rw (stood, numbers) made)

  refused-whole : {w : SessionWords} {t u : Storage} {r : PushedBurst} {output : List ℕ} → called_burst now buffer ends lent w t ≡ record { value = r; storage = u; output = output } → (r.refusal ≡ 0 → ⊥)
      → (r.answers ≡ 0) × (r.session ≡ w) × (u ≡ t) × (output ≡ lent)
  unfolding called_burst told_burst burst_told did_burst some?
  refused-whole {w} {t} {u} {r} {output} e h = go (eqb (burst_refusal (length buffer) ends (length lent)) 0) refl
    where
      go : (b : Bool) → eqb (burst_refusal (length buffer) ends (length lent)) 0 ≡ b → (r.answers ≡ 0) × (r.session ≡ w) × (u ≡ t) × (output ≡ lent)
      go true y = absurd (h (sym (ap (λ (g : Given PushedBurst). g.value.refusal) (rw y at e))))
      go false y =
          let f = rw y at e in
          (sym (ap (λ (g : Given PushedBurst). g.value.answers) f), sym (ap (λ (g : Given PushedBurst). g.value.session) f), sym (ap (λ (g : Given PushedBurst). g.storage) f), sym (ap (λ (g : Given PushedBurst). g.output) f))

pub burst_follows : BurstFollows
burst_follows = record { counts = λ now buffer ends lent h e z. counts now buffer ends lent h e z; refused = λ now buffer ends lent e h. refused-whole now buffer ends lent e h }
