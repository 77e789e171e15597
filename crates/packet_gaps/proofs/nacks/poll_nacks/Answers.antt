-- `poll_nacks`: the loop keeps `Polling`.
use mathlib.Core.Path.{refl}
use Rattle.packet_gaps.proofs.Writing.{polling_none, polling_due, polling_skip, room_here}
use Rattle.packet_gaps.proofs.nacks.poll_nacks.Goals.{then-is_due, else-is_due}
use Rattle.packet_gaps.proofs.nacks.poll_nacks.Goals as goal

pub loop-i-init : goal.loop-i-init
loop-i-init c = polling_none c.args.t c.args.now c.args.s.now c.args.out.now c.args.n c.requires.gaps_in c.requires.n_in_bounds

pub nack-requires : goal.nack-requires
nack-requires c = room_here c.loop-i.invariant.gaps c.loop-i-test.true c.read-g.ensures c.is_due.ensures c.requires.n_value_2 c.if-is_due.true

pub loop-i-preserved : goal.loop-i-preserved
loop-i-preserved c = elim c.if-is_due.branch [
  | then-is_due w ↦ rw (w.s-is, w.out-is, w.count-is) (polling_due c.loop-i.invariant c.loop-i-test.true c.read-g.ensures c.is_due.ensures w.if-is_due.true w.nack.ensures w.write.ensures w.truncated.ensures refl)
  | else-is_due w ↦ rw (w.s-is, w.out-is, w.count-is) (polling_skip c.loop-i.invariant c.loop-i-test.true c.read-g.ensures c.is_due.ensures w.if-is_due.false)
]
