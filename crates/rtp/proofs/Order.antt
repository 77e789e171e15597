-- What the derived `<` and `<=` of the numbers answer is the test of the definitions.
use mathlib.Core.Path.{◌≡◌}
use Prim.Native.Nat.{ℕ}
use lib.Dec.{leb, ltb}
use Rattle.std.proofs.Common.{arith}
use Rattle.std.specs.Ordering.{nat_cmp, is_lt, is_le}
use Rattle.std.specs.Cmp.{nat_cmp_is}

pub less : (a b : ℕ) → is_lt (nat_cmp a b) ≡ ltb a b
less a b = search (arith, nat_cmp_is)

pub no-more : (a b : ℕ) → is_le (nat_cmp a b) ≡ leb a b
no-more a b = search (arith, nat_cmp_is)
