-- 02, point 1, the reader: the 16-bit numbers that any bytes name, what is refused, and what is written.
use Rattle.std.specs.Prelude.{cond, not, List, [], ◌∷◌, ◌++◌, map, ℕ, ◌+◌, ◌*◌, ◌/◌, ◌%◌, ltb, eqb, length, Result, Ok, Err}
use Rattle.words.specs.Words.{over}
use Rattle.rtp.specs.Numbers.{low_bits}
use Rattle.refusals.specs.Refusals.{OUTPUT, nack_entries, refuse_if, or_else}
use Rattle.nack_pairs.specs.Pairs.{pair, named}
use Rattle.nack_pairs.specs.Wire.{entry_bytes, NUMBERS}

-- of one pair, the first number and then those of the mask from its lowest bit, modulo 65,536
unfoldable pub named16 : ℕ → ℕ → List ℕ
unfolding named
named16 first mask = map (low_bits 16) (named (pair first mask))

-- pair by pair; bytes after the last whole entry are not looked at
unfoldable pub numbers_in : List ℕ → List ℕ
unfolding named16
numbers_in [] = []
numbers_in (a ∷ []) = []
numbers_in (a ∷ b ∷ []) = []
numbers_in (a ∷ b ∷ c ∷ []) = []
numbers_in (a ∷ b ∷ c ∷ d ∷ rest) = named16 (256 * a + b) (256 * c + d) ++ numbers_in rest

-- "15 also covers .. a reader's list under 17 numbers for each whole four bytes. 17 when the entries read are not a multiple of 4 bytes, after
-- 15."
unfoldable pub read_refusal : List ℕ → ℕ → ℕ
read_refusal bytes room =
    or_else (refuse_if (ltb room (NUMBERS * (length bytes / entry_bytes))) OUTPUT)
    (refuse_if (not (eqb (length bytes % entry_bytes) 0)) nack_entries)

-- "the answer to a call that writes counts .. in a list the numbers, written"
unfoldable pub read_answer : List ℕ → ℕ → Result ℕ ℕ
unfolding read_refusal numbers_in
read_answer bytes room = cond (eqb (read_refusal bytes room) 0) (Ok (length (numbers_in bytes))) (Err (read_refusal bytes room))

-- "lent output after them is kept", and a refused call alters nothing
unfoldable pub list_after : List ℕ → List ℕ → List ℕ
unfolding read_refusal numbers_in over
list_after bytes list = cond (eqb (read_refusal bytes (length list)) 0) (over (numbers_in bytes) list) list
