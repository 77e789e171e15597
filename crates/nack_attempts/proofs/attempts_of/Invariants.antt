-- `attempts_of`: none of the numbers passed did, and power and bound are those of n.
use Rattle.nack_attempts.proofs.Powers.{Trying}
use Rattle.nack_attempts.proofs.attempts_of.Given as goal

abbrev pub invariant-loop-n : goal.invariant-loop-n
invariant-loop-n l = Trying l.k l.t l.max l.n l.power l.bound
