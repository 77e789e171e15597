-- `words::search::rank_of` meets its contract: the rank lies between `low` and `high`, and each turn moves one of them to the middle.
use Prim.Native.Nat.{◌-◌, ◌≤◌}
use Rattle.words.specs.Blocks.{firsts}
use Rattle.words.specs.Order.{rank}
use Rattle.words.proofs.search.rank_of.Given as goal

abbrev pub invariant-loop-low : goal.invariant-loop-low
invariant-loop-low l = (l.low ≤ rank l.x (firsts l.w l.s l.n)) × (rank l.x (firsts l.w l.s l.n) ≤ l.high) × (l.high ≤ l.n)

abbrev pub decreases-loop-low : goal.decreases-loop-low
decreases-loop-low l = l.high - l.low
