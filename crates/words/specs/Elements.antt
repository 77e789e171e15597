-- The law of an element of crate `words`, of numbers: a bitwise or is 0 only where both of its parts are.
use Rattle.std.specs.Prelude.{◌≡◌, ℕ, bit_or}
use Rattle.std.proofs.Common.{arith}
use lib.Bits.{or_add_and, and_le_l, and_le_r}

pub or_zero : (a b r : ℕ) → r ≡ bit_or a b → r ≡ 0 → (a ≡ 0) × (b ≡ 0)
or_zero a b r e z = (omega (arith, or_add_and a b, and_le_r a b), omega (arith, or_add_and a b, and_le_l a b))
