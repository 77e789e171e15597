-- `poll_nacks`: the loop keeps `Polling`.
use Rattle.packet_gaps.proofs.Writing.{Polling}
use Rattle.packet_gaps.proofs.nacks.poll_nacks.Given as goal

abbrev pub invariant-loop-i : goal.invariant-loop-i
invariant-loop-i l = Polling l.t l.now l.initial.s l.initial.out l.s l.out l.n l.i l.count
