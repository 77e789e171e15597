-- `poll_wire`: the loop keeps `Wiring`.
use Rattle.packet_gaps.proofs.Writing.{Wiring}
use Rattle.packet_gaps.proofs.nacks.poll_wire.Given as goal

abbrev pub invariant-loop-i : goal.invariant-loop-i
invariant-loop-i l = Wiring l.t l.now l.initial.s l.initial.out l.s l.out l.n l.i l.named
