-- `poll_wire`: the loop keeps `Wiring`.
use mathlib.Core.Path.{refl}
use native.Mathlib.Omega.{arith}
use Rattle.packet_gaps.proofs.Writing.{wiring_none, wiring_follows, wiring_due, wiring_skip}
use Rattle.packet_gaps.proofs.nacks.poll_wire.Goals.{then-is_due, else-is_due}
use Rattle.packet_gaps.proofs.nacks.poll_wire.Goals as goal

pub loop-i-init : goal.loop-i-init
loop-i-init c = wiring_none c.args.t c.args.now c.args.s.now c.args.out.now c.args.n _ c.requires.gaps_in c.requires.n_in_bounds c.none_named-named.ensures

pub name-named-requires-clause-follows : goal.name-named-requires-clause-follows
name-named-requires-clause-follows c = wiring_follows c.loop-i.invariant c.loop-i-test.true c.read-g.ensures c.is_due.ensures c.if-is_due.true refl c.requires.n_value_3 (omega arith)

pub loop-i-preserved : goal.loop-i-preserved
loop-i-preserved c = elim c.if-is_due.branch [
  | then-is_due w ↦
      let m = w.name-named.ensures in
      rw (w.s-is, w.out-is, w.named-is) (wiring_due c.loop-i.invariant c.loop-i-test.true c.read-g.ensures c.is_due.ensures w.if-is_due.true refl w.nack.ensures w.write.ensures m.value m.out_after)
  | else-is_due w ↦ rw (w.s-is, w.out-is, w.named-is) (wiring_skip c.loop-i.invariant c.loop-i-test.true c.read-g.ensures c.is_due.ensures w.if-is_due.false)
]
