-- RFC 4585, section 6.2.1: a pair in four bytes.
use Rattle.std.specs.Prelude.{List, [], ◌∷◌, ◌++◌, ℕ, ◌/◌, ◌%◌}
use Rattle.nack_pairs.specs.Pairs.{Pair, pairs}

abbrev pub entry_bytes : ℕ
entry_bytes = 4

-- the most numbers that a pair names: its first, and sixteen
abbrev pub NUMBERS : ℕ
NUMBERS = 17

-- "modulo 65,536, both high byte first"
unfoldable pub bytes_of : Pair → List ℕ
bytes_of p = p.first / 256 % 256 ∷ p.first % 256 ∷ p.mask / 256 % 256 ∷ p.mask % 256 ∷ []

unfoldable pub wire : List Pair → List ℕ
unfolding bytes_of
wire [] = []
wire (p ∷ ps) = bytes_of p ++ wire ps

-- the entries that name these numbers
unfoldable pub entries : List ℕ → List ℕ
unfolding wire pairs
entries xs = wire (pairs xs)
