-- `are_sound`: the entries from place i on decide, whatever the bytes.
use mathlib.Core.Path.{sym, ap, ◌∙◌}
use mathlib.Core.Bool.{not}
use borrow.Author.Tests.{not-true, not-false}
use Rattle.packet_gaps.specs.Gaps.{bounds}
use Rattle.packet_gaps.proofs.Turns.{left, left_bad, left-last, left_unordered, left_more}
use Rattle.entries.proofs.Scan.{scanned, number_word}
use Rattle.entries.proofs.check.are_sound.Goals.{else-next-n-via-then-next-n+else-words-next, else-next-n-via-else-next-n}
use Rattle.entries.proofs.check.are_sound.Goals as goal

pub returns-then-not-entry_sound : goal.returns-then-not-entry_sound
unfolding left
returns-then-not-entry_sound c = λ bytes.
    sym (c.loop-i.invariant bytes ∙ left_bad (scanned _ bytes _ _ c.loop-i-test.true c.read-e.result c.read-e.ensures (bounds c.args.b) _ _ c.contains-missing.ensures _ c.entry_sound.ensures) (not-true _ (ap not c.if-not-entry_sound.true)))

pub returns-then-words-next : goal.returns-then-words-next
unfolding left
returns-then-words-next c = λ bytes.
    sym (c.loop-i.invariant bytes ∙ left_unordered (scanned _ bytes _ _ c.loop-i-test.true c.read-e.result c.read-e.ensures (bounds c.args.b) _ _ c.contains-missing.ensures _ c.entry_sound.ensures) c.if-next-n.true (number_word c.args.words.now bytes c.args.n _ c.if-next-n.true) c.if-words-next.true)

pub loop-i-preserved : goal.loop-i-preserved
loop-i-preserved c = λ bytes.
    let t = (scanned _ bytes _ _ c.loop-i-test.true c.read-e.result c.read-e.ensures (bounds c.args.b) _ _ c.contains-missing.ensures _ c.entry_sound.ensures) in
    let sound = not-false _ (ap not c.if-not-entry_sound.false) in
    elim c.else-next-n.branch [
      | else-next-n-via-then-next-n+else-words-next w ↦ c.loop-i.invariant bytes ∙ left_more t w.if-next-n.true (number_word c.args.words.now bytes c.args.n _ w.if-next-n.true) sound w.if-words-next.false
      | else-next-n-via-else-next-n w ↦ c.loop-i.invariant bytes ∙ left-last t sound w.if-next-n.false
    ]
