-- `append`: the loop keeps `Noting`.
use native.Mathlib.Omega.{arith}
use Rattle.lost_nacked.proofs.Noting.{noting_none, noting_pass, noting_few, noting_skip, noting_room, noting_push}
use Rattle.lost_nacked.proofs.append.Goals.{then-skip-seen, else-skip-seen, then-g-eq1, else-g-eq1}
use Rattle.lost_nacked.proofs.append.Goals as goal

pub loop-i-init : goal.loop-i-init
loop-i-init c = noting_none c.args.s.now c.args.n c.args.gaps.now c.args.lost c.args.skip c.requires.remembered_in c.requires.skip_in_bounds

pub push_back-requires : goal.push_back-requires
push_back-requires c = noting_room c.loop-i.invariant c.loop-i-test.true _ c.read-g.ensures c.if-g-eq1.true c.if-skip-seen.true

pub overflow_add-n : goal.overflow_add-n
overflow_add-n c = omega (arith, noting_room c.loop-i.invariant c.loop-i-test.true _ c.read-g.ensures c.if-g-eq1.true c.if-skip-seen.true)

pub overflow_add-seen : goal.overflow_add-seen
overflow_add-seen c = omega (arith, noting_few c.loop-i.invariant c.loop-i-test.true _ c.read-g.ensures c.if-g-eq1.true)

pub loop-i-preserved : goal.loop-i-preserved
loop-i-preserved c = elim c.if-g-eq1.branch [
  | then-g-eq1 w ↦ elim w.if-skip-seen.branch [
    | then-skip-seen v ↦ rw (w.s-is, w.seen-is, v.s-is) (noting_push c.loop-i.invariant c.loop-i-test.true _ c.read-g.ensures w.if-g-eq1.true v.if-skip-seen.true _ v.push_back.ensures)
    | else-skip-seen v ↦ rw (w.s-is, w.seen-is, v.s-is) (noting_skip c.loop-i.invariant c.loop-i-test.true _ c.read-g.ensures w.if-g-eq1.true v.if-skip-seen.false)
  ]
  | else-g-eq1 w ↦ rw (w.s-is, w.seen-is) (noting_pass c.loop-i.invariant c.loop-i-test.true _ c.read-g.ensures w.if-g-eq1.false)
]
