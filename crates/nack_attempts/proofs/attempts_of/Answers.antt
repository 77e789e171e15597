-- `attempts_of`: Powers says what one more number makes of power and bound.
use Rattle.nack_attempts.proofs.Powers.{trying_first, trying_more, power-lt, bound_lt}
use Rattle.nack_attempts.proofs.attempts_of.Goals as goal

pub loop-n-init : goal.loop-n-init
loop-n-init c = trying_first _ _ _ c.requires.0 c.requires.2 c.requires.3

pub overflow_mul-power : goal.overflow_mul-power
overflow_mul-power c = record { fits = power-lt _ _ _ _ _ _ c.loop-n.invariant c.loop-n-test.true }

pub overflow_mul-bound : goal.overflow_mul-bound
overflow_mul-bound c = record { fits = bound_lt _ _ _ _ _ _ c.loop-n.invariant c.loop-n-test.true }

pub loop-n-preserved : goal.loop-n-preserved
loop-n-preserved c = trying_more _ _ _ _ _ _ c.loop-n.invariant c.loop-n-test.true c.if-power-bound.false
