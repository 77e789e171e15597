-- `tidy_places`: the loop keeps `Tidying`.
use Rattle.entries.proofs.Scan.{Tidying}
use Rattle.entries.proofs.check.tidy_places.Given as goal

abbrev pub invariant-loop-i : goal.invariant-loop-i
invariant-loop-i l = Tidying l.words l.initial.bytes l.bytes l.n l.i
