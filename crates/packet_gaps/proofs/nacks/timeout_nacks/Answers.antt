-- `timeout_nacks`: it is the timeout of the gaps from place i on.
use Prim.Native.Nat.{◌-◌}
use native.Mathlib.Omega.{arith}
use Rattle.packet_gaps.proofs.Scan.{timeout-step}
use Rattle.packet_gaps.proofs.nacks.timeout_nacks.Goals as goal

pub loop-i-preserved : goal.loop-i-preserved
loop-i-preserved c = timeout-step c.args.s.now c.args.n (c.loop-i.i - 1) _ c.read.ensures (omega arith) c.args.t c.args.now c.loop-i.i c.opt_min-timeout.ensures c.saturating_sub-left.ensures c.due_at.ensures c.loop-i.invariant (omega arith)
