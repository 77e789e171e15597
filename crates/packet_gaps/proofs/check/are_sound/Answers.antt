-- `are_sound`: the gaps from place i on decide.
use mathlib.Core.Path.{sym, ap, ◌∙◌}
use mathlib.Core.Bool.{not}
use borrow.Author.Tests.{not-true, not-false}
use Rattle.packet_gaps.proofs.Scan.{scanned, number_word}
use Rattle.packet_gaps.proofs.Turns.{left, left_bad, left-last, left_unordered, left_more}
use Rattle.packet_gaps.proofs.check.are_sound.Goals.{else-next-n-via-then-next-n+else-s-next, else-next-n-via-else-next-n}
use Rattle.packet_gaps.proofs.check.are_sound.Goals as goal

pub returns-then-not-gap_sound : goal.returns-then-not-gap_sound
unfolding left
returns-then-not-gap_sound c = sym (c.loop-i.invariant ∙ left_bad (scanned _ _ _ _ c.read-g.ensures c.loop-i-test.true _ c.gap_sound.ensures) (not-true _ (ap not c.if-not-gap_sound.true)))

pub returns-then-s-next : goal.returns-then-s-next
unfolding left
returns-then-s-next c = sym (c.loop-i.invariant ∙ left_unordered (scanned _ _ _ _ c.read-g.ensures c.loop-i-test.true _ c.gap_sound.ensures) c.if-next-n.true (number_word c.args.s.now _ _ c.if-next-n.true) c.if-s-next.true)

pub loop-i-preserved : goal.loop-i-preserved
loop-i-preserved c =
    let t = scanned _ _ _ _ c.read-g.ensures c.loop-i-test.true _ c.gap_sound.ensures in
    let sound = not-false _ (ap not c.if-not-gap_sound.false) in
    elim c.else-next-n.branch [
      | else-next-n-via-then-next-n+else-s-next w ↦ c.loop-i.invariant ∙ left_more t w.if-next-n.true (number_word c.args.s.now _ _ w.if-next-n.true) sound w.if-s-next.false
      | else-next-n-via-else-next-n w ↦ c.loop-i.invariant ∙ left-last t sound w.if-next-n.false
    ]
