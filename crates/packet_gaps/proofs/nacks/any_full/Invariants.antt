-- `any_full`: the gaps from place i on decide.
use mathlib.Core.Path.{◌≡◌}
use Rattle.packet_gaps.proofs.Scan.{full_from}
use Rattle.packet_gaps.proofs.nacks.any_full.Given as goal

abbrev pub invariant-loop-i : goal.invariant-loop-i
invariant-loop-i l = full_from l.t l.now l.s l.n l.first ≡ full_from l.t l.now l.s l.n l.i
