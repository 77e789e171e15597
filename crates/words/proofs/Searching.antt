-- What a binary search has to know of the rank: it is no more than the number of records, and each record's first word bounds it.
use mathlib.Core.List.{List}
use Prim.Native.Nat.{ℕ, ◌*◌, ◌≤◌, ◌<◌}
use native.Mathlib.Nat.{mul-le-mul_left}
use native.Mathlib.Omega.{arith}
use lib.ListN.{length}
use Rattle.words.specs.Blocks.{firsts}
use Rattle.words.specs.Order.{rank}
use Rattle.words.proofs.Blocked.{step, length-firsts, rank_past, rank-upto}
use Rattle.words.proofs.Ordered.{rank-le}

pub most : (x w n : ℕ) (s : List ℕ) → rank x (firsts w s n) ≤ n
most x w n s = omega (arith, rank-le x (firsts w s n), length-firsts w n s)

-- the place of a record before the n-th is within the slice
pub inside : (w k n : ℕ) (s : List ℕ) → 0 < w → k < n → w * n ≤ length s → w * k < length s
inside w k n s p h r = let m = mul-le-mul_left w h in omega (arith, step w k)

pub ruleset searching = (most, inside, rank_past, rank-upto)
