-- A burst so far: what stands there is the fold of the single calls over the datagrams that were pushed, and `Along` is kept by one more.
use mathlib.Core.Path.{◌≡◌, refl, sym, ap, ◌∙◌}
use mathlib.Core.Bool.{true}
use mathlib.Core.List.{List, [], ◌∷◌}
use Prim.Native.Nat.{ℕ, zero, suc, ◌+◌, ◌≤◌, ◌<◌}
use native.Mathlib.Omega.{arith}
use native.Mathlib.Numerals.{add-one}
use lib.ListN.{length, take, drop, get_or, set, length-set}
use lib.Seq.{drop-cons, take_all}
use borrow.Author.Tests.{eq-eqb}
use Rattle.refusals.specs.declared.Refusal.{Refusal}
use Rattle.refusals.specs.Refusals.{number}
use Rattle.refusals.proofs.Laws.{number_refuses}
use Rattle.words.specs.Words.{over}
use Rattle.words.proofs.Over.{over_more}
use Rattle.rtp_packet.specs.Header.{between}
use Rattle.model.specs.Storage.{Stored}
use Rattle.model.specs.Calls.{Answer, media}
use Rattle.model.specs.Did.{Done, did}
use Rattle.model.specs.Contract.{Does}
use Rattle.burst.specs.declared.Standing.{Standing}
use Rattle.burst.specs.Burst.{parts, datagrams, pushed, answer_number, answer_numbers, ends_fit, burst_refusal, did_burst}
use Rattle.burst.specs.Standing.{Stands}
use Rattle.burst.proofs.Ends.{end_in}

pub length-parts : (from : ℕ) (buffer ends : List ℕ) → length (parts from buffer ends) ≡ length ends
unfolding parts
length-parts from buffer [] = refl
length-parts from buffer (e ∷ es) = ap suc (length-parts e buffer es)

module _ (now : ℕ) where
  pub length-numbers : (ds : List (List ℕ)) (m : Stored) → length (answer_numbers now ds m) ≡ length ds
  unfolding answer_numbers
  length-numbers [] m = refl
  length-numbers (d ∷ ds) m = ap suc (length-numbers ds (did (media now d) m).stored)

  -- one more datagram, on what the ones before left
  pub pushed_more : (ds : List (List ℕ)) (i : ℕ) (m : Stored) → i < length ds → pushed now (take (suc i) ds) m ≡ (did (media now (get_or ds i [])) (pushed now (take i ds) m)).stored
  unfolding pushed
  pushed_more [] i m h = absurd (omega arith)
  pushed_more (d ∷ ds) zero m h = refl
  pushed_more (d ∷ ds) (suc i) m h = pushed_more ds i (did (media now d) m).stored (omega arith)

  pub number_at : (ds : List (List ℕ)) (i : ℕ) (m : Stored) → i < length ds → get_or (answer_numbers now ds m) i 0 ≡ answer_number (did (media now (get_or ds i [])) (pushed now (take i ds) m)).answer
  unfolding pushed answer_numbers
  number_at [] i m h = absurd (omega arith)
  number_at (d ∷ ds) zero m h = refl
  number_at (d ∷ ds) (suc i) m h = number_at ds i (did (media now d) m).stored (omega arith)

-- the datagram at i, where the one before ended at `from`
module _ (from : ℕ) (buffer ends : List ℕ) (ds : List (List ℕ)) (i : ℕ) (h : i < length ends) (k : i < length ds) (e : drop i ds ≡ parts from buffer (drop i ends)) where
  next_parts : get_or ds i [] ∷ drop (i + 1) ds ≡ between from (get_or ends i 0) buffer ∷ parts (get_or ends i 0) buffer (drop (i + 1) ends)
  unfolding parts
  next_parts =
      let a : drop i ds ≡ get_or ds i [] ∷ drop (i + 1) ds = rw (add-one i) (drop-cons ds i [] k) in
      let b : drop i ends ≡ get_or ends i 0 ∷ drop (i + 1) ends = rw (add-one i) (drop-cons ends i 0 h) in
      sym a ∙ e ∙ ap (parts from buffer) b

  next_part : get_or ds i [] ≡ between from (get_or ends i 0) buffer
  next_part = ap (λ (l : List (List ℕ)). get_or l 0 []) next_parts

  next_rest : drop (i + 1) ds ≡ parts (get_or ends i 0) buffer (drop (i + 1) ends)
  next_rest = ap (λ (l : List (List ℕ)). drop 1 l) next_parts

-- ---- the burst so far

pub record Along (now : ℕ) (buffer ends lent : List ℕ) (first : Stored) (standing : Standing) (m : Stored) (answers : List ℕ) (from i : ℕ) : Type 0 where
  pub within : i ≤ length ends
  pub rest : drop i (datagrams buffer ends) ≡ parts from buffer (drop i ends)
  pub fit : ends_fit (length buffer) from (drop i ends) ≡ true
  pub left : m ≡ pushed now (take i (datagrams buffer ends)) first
  pub told : answers ≡ over (take i (answer_numbers now (datagrams buffer ends) first)) lent
  pub same : length answers ≡ length lent
  pub stands : Stands standing m

module _ (now : ℕ) (buffer ends lent : List ℕ) (first : Stored) where
  pub along_none : (standing : Standing) → ends_fit (length buffer) 0 ends ≡ true → Stands standing first → Along now buffer ends lent first standing first lent 0 0
  unfolding pushed over
  along_none standing h s = record { within = omega arith; rest = refl; fit = h; left = refl; told = refl; same = refl; stands = s }

module _ {now : ℕ} {buffer ends lent : List ℕ} {first : Stored} {standing : Standing} {m : Stored} {answers : List ℕ} {from i : ℕ} (h : Along now buffer ends lent first standing m answers from i) where
  module _ (t : i < length ends) where
    pub part_in : (from ≤ get_or ends i 0) × (get_or ends i 0 ≤ length buffer)
    part_in = let k = end_in (length buffer) from ends i t h.fit in (k.0, k.1)

    pub along_more : (room : length ends ≤ length lent) (next : Standing) (m2 : Stored) (a : Answer) (out : List ℕ)
        → Does (media now (between from (get_or ends i 0) buffer)) m a m2 out → Stands next m2 → (v : ℕ) → v ≡ answer_number a
        → Along now buffer ends lent first next m2 (set answers i v) (get_or ends i 0) (i + 1)
    along_more room next m2 a out e s v hv =
        let ds = datagrams buffer ends in
        let n : length ds ≡ length ends = length-parts 0 buffer ends in
        let in-ds : i < length ds = omega arith in
        let q = answer_numbers now ds first in
        let nq : length q ≡ length ds = length-numbers now ds first in
        let d : did (media now (get_or ds i [])) (pushed now (take i ds) first) ≡ record { answer = a; stored = m2; output = out } = rw (next_part from buffer ends ds i t in-ds h.rest, ← h.left) e in
        let told : v ≡ get_or q i 0 = hv ∙ sym (number_at now ds i first in-ds ∙ ap (λ (x : Done). answer_number x.answer) d) in
        record {
          within = omega arith;
          rest = next_rest from buffer ends ds i t in-ds h.rest;
          fit = (end_in (length buffer) from ends i t h.fit).2;
          left = sym (rw (add-one i) (pushed_more now ds i first in-ds) ∙ ap (λ (x : Done). x.stored) d);
          told = ap (λ (l : List ℕ). set l i v) h.told ∙ over_more q lent i v (omega arith) (omega arith) told;
          same = length-set answers i v ∙ h.same;
          stands = s;
        }

  pub along_all : length ends ≤ i → (m ≡ pushed now (datagrams buffer ends) first) × (answers ≡ over (answer_numbers now (datagrams buffer ends) first) lent)
  along_all t =
      let ds = datagrams buffer ends in
      let n : length ds ≡ length ends = length-parts 0 buffer ends in
      let nq : length (answer_numbers now ds first) ≡ length ds = length-numbers now ds first in (
        h.left ∙ ap (λ (l : List (List ℕ)). pushed now l first) (take_all i ds (omega arith)),
        h.told ∙ ap (λ (l : List ℕ). over l lent) (take_all i (answer_numbers now ds first) (omega arith)),
      )

-- ---- the whole call

module _ (now : ℕ) (buffer ends lent : List ℕ) (first : Stored) where
  pub burst-refused : (k : Refusal) → number k ≡ burst_refusal (length buffer) ends (length lent) → did_burst now buffer ends lent first ≡ record { refusal = number k; count = 0; stored = first; output = lent }
  unfolding did_burst
  burst-refused k e = rw (← e, number_refuses k)

  pub burst-done : burst_refusal (length buffer) ends (length lent) ≡ 0 → (m : Stored) (answers : List ℕ)
      → m ≡ pushed now (datagrams buffer ends) first → answers ≡ over (answer_numbers now (datagrams buffer ends) first) lent
      → did_burst now buffer ends lent first ≡ record { refusal = 0; count = length ends; stored = m; output = answers }
  unfolding did_burst
  burst-done z m answers hm ha = rw (eq-eqb (burst_refusal (length buffer) ends (length lent)) 0 z, hm, ha)
