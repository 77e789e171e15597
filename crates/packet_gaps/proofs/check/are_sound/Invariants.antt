-- `are_sound`: the gaps from place i on decide.
use mathlib.Core.Path.{◌≡◌}
use Rattle.packet_gaps.specs.Gaps.{bounds}
use Rattle.packet_gaps.proofs.Scan.{gaps_left}
use Rattle.packet_gaps.proofs.check.are_sound.Given as goal

abbrev pub invariant-loop-i : goal.invariant-loop-i
invariant-loop-i l = gaps_left (bounds l.b) l.s l.n 0 ≡ gaps_left (bounds l.b) l.s l.n l.i
