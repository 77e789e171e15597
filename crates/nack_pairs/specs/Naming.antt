-- One number more at the end of the entries: what becomes of the last pair, by the code's record of it.
use Rattle.std.specs.Prelude.{cond, ℕ, ◌+◌, ◌≤◌, ◌<◌, ◌^◌, eqb}
use Rattle.nack_pairs.specs.Pairs.{Pair, pair, bit, within}
use Rattle.nack_pairs.specs.Wire.{entry_bytes}
use Rattle.nack_pairs.specs.declared.Naming.{Naming}

abbrev pub opened : Naming → Pair
opened n = pair n.first n.mask

abbrev pub begun : ℕ → ℕ → Naming
begun bytes x = record { bytes = bytes; first = x; mask = 0 }

unfoldable pub named_next : Naming → ℕ → Naming
named_next n x =
    cond (eqb n.bytes 0)
    (begun entry_bytes x)
    (cond (within (opened n) x)
    (record { bytes = n.bytes; first = n.first; mask = n.mask + bit n.first x })
    (begun (n.bytes + entry_bytes) x))

-- x is above what the last pair names, and no bit of its mask is x's or above it
pub record Follows (n : Naming) (x : ℕ) : Type 0 where
  pub short : n.bytes + entry_bytes < 2 ^ 64
  pub whole : 0 < n.bytes → entry_bytes ≤ n.bytes
  pub above : 0 < n.bytes → n.first < x
  pub free : 0 < n.bytes → n.mask < bit n.first x
