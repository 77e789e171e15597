-- `count_once`: those of the gaps before place i are counted.
use mathlib.Core.Path.{◌≡◌}
use lib.ListN.{length}
use Rattle.lost_nacked.proofs.Noting.{passed}
use Rattle.lost_nacked.proofs.count_once.Given as goal

abbrev pub invariant-loop-i : goal.invariant-loop-i
invariant-loop-i l = l.count ≡ length (passed l.gaps l.lost l.i)
