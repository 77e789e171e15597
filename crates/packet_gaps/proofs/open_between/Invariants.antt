-- `packet_gaps::open_between` meets its contract: the loop keeps `Opening`.
use Rattle.packet_gaps.proofs.Opening.{Opening}
use Rattle.packet_gaps.proofs.open_between.Given as goal

abbrev pub invariant-loop-i : goal.invariant-loop-i
invariant-loop-i l = Opening l.initial.s l.s l.n l.first l.fn.x.0 l.at l.i
