-- `push_each`: before each turn what stands there is the fold of the single calls over the datagrams so far (`Along`).
use native.Mathlib.Omega.{arith}
use Rattle.storage.specs.Held.{held}
use Rattle.burst.proofs.Fold.{along_none, part_in, along_more, along_all}
use borrow.Author.Rules.{rules}
use Rattle.burst.proofs.push_each.Goals as goal

-- ---- the needs
pub loop-i-init : goal.loop-i-init
loop-i-init c = (
  along_none c.args.instant c.args.buffer.now c.args.ends.now c.args.answers.now (held c.args.q.now) _ c.requires.ends_value.0 c.requires.stands,
  search rules,
)

pub slice_bounds-push_next-count : goal.slice_bounds-push_next-count
slice_bounds-push_next-count c = (part_in c.loop-i.invariant.0 c.loop-i-test.true).0

pub slice_bounds-push_next-start : goal.slice_bounds-push_next-start
slice_bounds-push_next-start c = omega (arith, part_in c.loop-i.invariant.0 c.loop-i-test.true)

pub slice_bounds-push_next-end : goal.slice_bounds-push_next-end
slice_bounds-push_next-end c = (part_in c.loop-i.invariant.0 c.loop-i-test.true).1

pub bounds-answers-i : goal.bounds-answers-i
bounds-answers-i c =
    omega (arith, c.loop-i.invariant.0.same, c.requires.ends_value.1, c.loop-i-test.true)

pub loop-i-preserved : goal.loop-i-preserved
loop-i-preserved c = (
  along_more c.loop-i.invariant.0 c.loop-i-test.true c.requires.ends_value.1 _ _ _ _ c.push_next-done.ensures.does c.push_next-done.ensures.stands _ c.answer_number.ensures,
  search rules,
)

pub shape_of-answers : goal.shape_of-answers
shape_of-answers c = omega (arith, c.loop-i.invariant.0.same)

pub returns : goal.returns
returns c =
    let all = along_all c.loop-i.invariant.0 c.loop-i-test.false in
    record { same_slices = c.loop-i.invariant.1; left = all.0; answers_after = all.1 }
