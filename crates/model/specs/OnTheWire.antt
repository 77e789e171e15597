-- 02, point 1: the call on the wire, beside the `poll_nack` that might have been made in its place on the same stored session.
use Rattle.std.specs.Prelude.{◌≡◌, List, ℕ, ◌*◌, ◌/◌, ◌≤◌, length, take, Ok}
use Rattle.words.specs.Words.{over}
use Rattle.nack_pairs.specs.Wire.{entry_bytes, NUMBERS}
use Rattle.nack_pairs.specs.Reader.{read_answer, list_after}
use Rattle.model.specs.Storage.{Stored}
use Rattle.model.specs.Calls.{poll_nack, nack_wire, wire, nack_answer}
use Rattle.model.specs.Table.{refusal}
use Rattle.model.specs.Did.{did}

-- At the instant `now`, with these bytes or this list lent for the output.
module _ (now : ℕ) (bytes list : List ℕ) (m : Stored) where
  -- of as many places, four bytes to one, it is refused where `poll_nack` is, under the same number
  abbrev pub SameRefusal : Type 0
  SameRefusal = length bytes ≡ entry_bytes * length list → refusal (nack_wire now bytes) m ≡ refusal (poll_nack now list) m

  -- "with the same effect on the session", and on the storage
  abbrev pub SameEffect : Type 0
  SameEffect = refusal (nack_wire now bytes) m ≡ 0 → refusal (poll_nack now list) m ≡ 0 → (did (nack_wire now bytes) m).stored ≡ (did (poll_nack now list) m).stored

  -- "reading back yields the 16-bit numbers in order": where the one answers that n bytes were written, and the other k numbers, the reader
  -- makes of those n bytes these k numbers, in any list that has room
  abbrev pub ReadsBack : Type 0
  ReadsBack =
      (n k : ℕ) (back : List ℕ)
      → let w = did (nack_wire now bytes) m in
      let l = did (poll_nack now list) m in
      w.answer ≡ wire n → l.answer ≡ nack_answer k → NUMBERS * (n / entry_bytes) ≤ length back
      → (read_answer (take n w.output) (length back) ≡ Ok k) × (list_after (take n w.output) back ≡ over (take k l.output) back)

  -- all three
  pub record Beside : Type 0 where
    pub same_refusal : SameRefusal
    pub same_effect : SameEffect
    pub reads_back : ReadsBack

abbrev pub OnTheWire : Type 0
OnTheWire = (now : ℕ) (bytes list : List ℕ) (m : Stored) → Beside now bytes list m
