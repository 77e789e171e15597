-- The call on the wire beside `poll_nack`: the due gaps of a session that check 16 passes ascend, so their entries read back as their numbers.
use mathlib.Core.Path.{◌≡◌, refl, sym, ap, ◌∙◌}
use mathlib.Core.Bool.{Bool, true, false, cond}
use mathlib.Core.List.{List, map, map-map}
use Prim.Native.Nat.{ℕ, zero, suc, ◌*◌, ◌/◌}
use native.Mathlib.Omega.{arith}
use lib.Dec.{ltb, eqb}
use lib.ListN.{length, take, length-map}
use lib.Seq.{take_all}
use lib.Ieee.Bits.{is_true}
use borrow.Author.Tests.{eq-eqb, eqb-true, lt-ltb, le-ltb, ltb-true, ltb-false}
use Rattle.words.specs.Words.{over}
use Rattle.words.specs.Order.{ascends}
use Rattle.words.proofs.Over.{take-over}
use Rattle.rtp.specs.Numbers.{low_bits}
use Rattle.refusals.specs.Refusals.{OUTPUT, refuse_if}
use Rattle.nack_pairs.specs.Pairs.{pairs}
use Rattle.nack_pairs.specs.Wire.{entries}
use Rattle.nack_pairs.proofs.Unmasking.{entries-taken}
use Rattle.nack_pairs.proofs.Writing.{length-wire}
use Rattle.model.specs.Records.{Gap, State, gap_numbers}
use Rattle.model.specs.Rules.{due, truncated}
use Rattle.model.specs.Poll.{timings_of, due_gaps, nack_numbers, nack_entries_of}
use Rattle.model.specs.Storage.{Stored, parse}
use Rattle.model.specs.Calls.{Call, refused, wire, poll_nack, nack_wire, nack_answer, taken, answered, output_after}
use Rattle.model.specs.Table.{refusal, call_refusal, output_refusal, poll_nack_refusal}
use Rattle.model.specs.Did.{did, accepted, turned_back}
use Rattle.model.specs.OnTheWire.{SameRefusal, SameEffect, ReadsBack, Beside, OnTheWire}
use Rattle.model.proofs.Lists.{rising_keep, ascends_of_rising}
use Rattle.model.proofs.Sound.{Sound}
use Rattle.model.proofs.SoundPoll.{rising_not-given-up}
use Rattle.model.proofs.SoundCalls.{accepted-sound, did-taken}

pub due-ascend : (now : ℕ) (s : State) → Sound s → ascends (gap_numbers (due_gaps now s.queue s.gaps)) ≡ true
unfolding due_gaps
due-ascend now s h =
    let set = s.queue.config.settings in
    is_true _ (ascends_of_rising (λ (g : Gap). g.number) _ (rising_keep _ (due (timings_of s.queue) now) (rising_not-given-up set set.mode h.lists_in.gaps_rise)))

-- ---- 15: four bytes are a place

pub wire-places : (needed n : ℕ) → output_refusal (4 * needed) n ≡ output_refusal needed (n / 4)
unfolding output_refusal
wire-places needed n = ap (λ (t : Bool). refuse_if t OUTPUT) (go (ltb (n / 4) needed) refl)
  where
    go : (t : Bool) → ltb (n / 4) needed ≡ t → ltb n (4 * needed) ≡ ltb (n / 4) needed
    go true e = lt-ltb n (4 * needed) (let h = ltb-true (n / 4) needed e in omega arith) ∙ sym e
    go false e = le-ltb n (4 * needed) (let h = ltb-false (n / 4) needed e in omega arith) ∙ sym e

-- ---- an answer that is no refusal

nack-same : (a b : ℕ) → nack_answer a ≡ nack_answer b → a ≡ b
unfolding nack_answer
nack-same zero zero e = refl
nack-same zero (suc b) e = let z : ◌≡◌ {A = ℕ} 0 1 = cc in absurd (omega arith)
nack-same (suc a) zero e = let z : ◌≡◌ {A = ℕ} 0 1 = cc in absurd (omega arith)
nack-same (suc a) (suc b) e = cc

never_nack : (j k : ℕ) → refused j ≡ nack_answer k → ⊥
unfolding nack_answer
never_nack j zero e = let z : ◌≡◌ {A = ℕ} 0 1 = cc in omega arith
never_nack j (suc k) e = let z : ◌≡◌ {A = ℕ} 0 1 = cc in omega arith

module _ (now : ℕ) (m : Stored) where
  wire-taken : (bytes : List ℕ) (n : ℕ) → (did (nack_wire now bytes) m).answer ≡ wire n → (refusal (nack_wire now bytes) m ≡ 0) × (n ≡ length (nack_entries_of now (parse m)))
  unfolding did accepted turned_back answered
  wire-taken bytes n = go (eqb (refusal (nack_wire now bytes) m) 0) refl
    where
      go : (t : Bool) → eqb (refusal (nack_wire now bytes) m) 0 ≡ t
          → (cond t (accepted (nack_wire now bytes) (parse m)) (turned_back (refusal (nack_wire now bytes) m) (nack_wire now bytes) m)).answer ≡ wire n
          → (refusal (nack_wire now bytes) m ≡ 0) × (n ≡ length (nack_entries_of now (parse m)))
      go true e a = (eqb-true _ 0 e, cc)
      go false e a = let z : ◌≡◌ {A = ℕ} 0 1 = cc in absurd (omega arith)

  list-taken : (list : List ℕ) (k : ℕ) → (did (poll_nack now list) m).answer ≡ nack_answer k → (refusal (poll_nack now list) m ≡ 0) × (k ≡ length (due_gaps now (parse m).queue (parse m).gaps))
  unfolding did accepted turned_back answered
  list-taken list k = go (eqb (refusal (poll_nack now list) m) 0) refl
    where
      go : (t : Bool) → eqb (refusal (poll_nack now list) m) 0 ≡ t
          → (cond t (accepted (poll_nack now list) (parse m)) (turned_back (refusal (poll_nack now list) m) (poll_nack now list) m)).answer ≡ nack_answer k
          → (refusal (poll_nack now list) m ≡ 0) × (k ≡ length (due_gaps now (parse m).queue (parse m).gaps))
      go true e a = (eqb-true _ 0 e, sym (nack-same _ _ a))
      go false e a = absurd (never_nack _ k a)

-- ---- the theorem

-- what an accepted call leaves in the output
output-taken : (c : Call) (m : Stored) → refusal c m ≡ 0 → (did c m).output ≡ output_after c (parse m)
unfolding did accepted
output-taken c m e = rw (eq-eqb (refusal c m) 0 e)

-- the front of an output, where p was written over it
front_is : (p d : List ℕ) (n : ℕ) → n ≡ length p → take n (over p d) ≡ p
front_is p d n e = take-over n p d (omega arith) ∙ take_all n p (omega arith)

module _ (now : ℕ) (bytes list : List ℕ) (m : Stored) where
  same_refusal : SameRefusal now bytes list m
  unfolding refusal call_refusal poll_nack_refusal
  same_refusal e =
      let needed = (parse m).queue.config.settings.max_gaps in
      let h : length bytes / 4 ≡ length list = omega arith in
      let o : output_refusal (4 * needed) (length bytes) ≡ output_refusal needed (length list) = wire-places _ _ ∙ ap (output_refusal needed) h in
      rw o

  same_effect : SameEffect now bytes list m
  unfolding taken
  same_effect e f = did-taken (nack_wire now bytes) m e ∙ sym (did-taken (poll_nack now list) m f)

  reads_back : ReadsBack now bytes list m
  unfolding output_after nack_numbers nack_entries_of entries
  reads_back n k back a b room =
      let s = parse m in
      let xs = gap_numbers (due_gaps now s.queue s.gaps) in
      let w = wire-taken now m bytes n a in
      let l = list-taken now m list k b in
      let asc = due-ascend now s (accepted-sound (nack_wire now bytes) m w.0) in
      let i : k ≡ length xs = l.1 ∙ sym (length-map (due_gaps now s.queue s.gaps) (λ (g : Gap). g.number)) in
      let j : map truncated (due_gaps now s.queue s.gaps) ≡ map (low_bits 16) xs = sym (map-map (low_bits 16) (λ (g : Gap). g.number) (due_gaps now s.queue s.gaps)) in
      let p : take n (did (nack_wire now bytes) m).output ≡ entries xs = ap (take n) (output-taken (nack_wire now bytes) m w.0) ∙ front_is (entries xs) bytes n w.1 in
      let q : take k (did (poll_nack now list) m).output ≡ map (low_bits 16) xs =
      ap (take k) (output-taken (poll_nack now list) m l.0) ∙ front_is _ list k (l.1 ∙ sym (length-map (due_gaps now s.queue s.gaps) truncated)) ∙ j in
      let four = length-wire (pairs xs) in
      let r = entries-taken xs back asc (omega (arith, w.1)) in
      (rw (p, i) r.0, rw (p, q) r.1)

  beside : Beside now bytes list m
  beside = record { same_refusal = same_refusal; same_effect = same_effect; reads_back = reads_back }

pub on_the_wire : OnTheWire
on_the_wire = beside
