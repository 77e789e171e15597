-- What is claimed of pairs and their bytes, for every ascending list of numbers.
use Rattle.std.specs.Prelude.{◌≡◌, true, List, [], ◌∷◌, map, ℕ, ◌+◌, ◌*◌, ◌≤◌, ◌<◌, length, Ok}
use Rattle.words.specs.Order.{ascends}
use Rattle.words.specs.Words.{over}
use Rattle.nack_pairs.specs.Pairs.{Pair, pairs, named_by, member}
use Rattle.rtp.specs.Numbers.{low_bits}
use Rattle.nack_pairs.specs.Wire.{entry_bytes, NUMBERS, entries}
use Rattle.nack_pairs.specs.Reader.{numbers_in, read_answer, list_after}

-- each pair begins past the sixteen of every pair before it
unfoldable pub Beyond : ℕ → List Pair → Type 0
Beyond b [] = Unit {0}
Beyond b (p ∷ ps) = (b < p.first) × Beyond b ps

unfoldable pub Apart : List Pair → Type 0
unfolding Beyond
Apart [] = Unit {0}
Apart (p ∷ ps) = Beyond (p.first + 16) ps × Apart ps

pub record Pairing : Type 0 where
  -- the pairs name exactly the numbers, each once and in order
  pub names : (xs : List ℕ) → ascends xs ≡ true → named_by (pairs xs) ≡ xs
  -- each names every due one of its sixteen: the next begins after them
  pub apart : (xs : List ℕ) → ascends xs ≡ true → Apart (pairs xs)
  -- "No shorter list of pairs names the same extended numbers", of pairs with any first number and any mask
  pub shortest : (xs : List ℕ) → ascends xs ≡ true → (ps : List Pair) → ((x : ℕ) → member x (named_by ps) ≡ member x xs) → length (pairs xs) ≤ length ps
  -- "reading back yields the 16-bit numbers in order"
  pub read_back_of : (xs : List ℕ) → ascends xs ≡ true → numbers_in (entries xs) ≡ map (low_bits 16) xs
  -- so does the reader, in a list that has room: it takes the entries of every ascending list of numbers
  pub taken : (xs list : List ℕ) → ascends xs ≡ true → NUMBERS * length (pairs xs) ≤ length list
      → (read_answer (entries xs) (length list) ≡ Ok (length xs)) × (list_after (entries xs) list ≡ over (map (low_bits 16) xs) list)
  -- the list that the reader asks for is never too short
  pub room : (bytes : List ℕ) (k : ℕ) → length bytes < entry_bytes * k + entry_bytes → length (numbers_in bytes) ≤ NUMBERS * k
  -- across 65,535: the next and the sixteenth number after 65,535 are in its mask, the seventeenth begins a pair
  pub example : entries (65535 ∷ 65536 ∷ 65551 ∷ 65552 ∷ []) ≡ 255 ∷ 255 ∷ 128 ∷ 1 ∷ 0 ∷ 16 ∷ 0 ∷ 0 ∷ []
  pub example_back : numbers_in (255 ∷ 255 ∷ 128 ∷ 1 ∷ 0 ∷ 16 ∷ 0 ∷ 0 ∷ []) ≡ 65535 ∷ 0 ∷ 15 ∷ 16 ∷ []
