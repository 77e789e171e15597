-- `unmask`: what is left of the mask names what is left of the list (`Unmasking`).
use Rattle.nack_pairs.proofs.Unmasking.{Unmasking}
use Rattle.nack_pairs.proofs.read.unmask.Given as goal

abbrev pub invariant-loop-k : goal.invariant-loop-k
invariant-loop-k l = Unmasking l.first l.mask l.initial.part l.part l.count l.left l.k
