-- `read`: before each turn the numbers of the first i entries stand in `list` (`Reading`).
use Rattle.nack_pairs.proofs.Unmasking.{Reading}
use Rattle.nack_pairs.proofs.read.read.Given as goal

abbrev pub invariant-loop-entry : goal.invariant-loop-entry
invariant-loop-entry l = Reading l.bytes l.initial.list l.list l.count l.entry-index
