-- `append`: the loop keeps `Noting`.
use Rattle.lost_nacked.proofs.Noting.{Noting}
use Rattle.lost_nacked.proofs.append.Given as goal

abbrev pub invariant-loop-i : goal.invariant-loop-i
invariant-loop-i l = Noting l.initial.s l.s l.n l.gaps l.lost l.skip l.i l.seen
