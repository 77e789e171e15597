-- `record_lost`. The loop's invariant: the record is what i losses make of the first one.
use mathlib.Core.Path.{◌≡◌}
use Rattle.packet_loss.specs.Loss.{record_lost}
use Rattle.packet_loss.proofs.PacketLoss.record_lost.Given as goal

abbrev pub invariant-loop : goal.invariant-loop
invariant-loop l = l.p ≡ record_lost l.initial.p l.counter
