-- `lists_sound` meets its contract: the same tests, each made only where those before it passed.
use mathlib.Core.Path.{sym, ◌∙◌}
use borrow.Author.Tests.{not-true, not-false}
use Rattle.words.proofs.Ordered.{and_left}
use Rattle.packet_gaps.specs.Gaps.{bounds}
use Rattle.storage.proofs.Checking.{bad_gaps, bad_entries, left-remembered}
use borrow.Author.Rules.{rules}
use mathlib.Core.Path.{ap}
use mathlib.Core.Bool.{not}
use Rattle.storage.proofs.lists_sound.Goals as goal

pub returns-then-not-are_sound : goal.returns-then-not-are_sound
returns-then-not-are_sound c = λ payloads. bad_gaps _ _ payloads _ _ (bounds c.bounds_of-bounds.result) c.bounds_of-bounds.ensures (sym c.are_sound.ensures ∙ not-true _ (ap not c.if-not-are_sound.true))

pub are_sound-requires-2 : goal.are_sound-requires-2
are_sound-requires-2 c = record { n_in_bounds = search rules; m_value = and_left _ _ (sym c.are_sound.ensures ∙ not-false _ (ap not c.if-not-are_sound.false)) }

pub returns-then-not-are_sound-2 : goal.returns-then-not-are_sound-2
returns-then-not-are_sound-2 c = λ payloads. bad_entries _ _ payloads _ _ (bounds c.bounds_of-bounds.result) c.bounds_of-bounds.ensures (sym c.are_sound.ensures ∙ not-false _ (ap not c.if-not-are_sound.false)) (sym (c.are_sound-2.ensures payloads) ∙ not-true _ (ap not c.if-not-are_sound-2.true))

pub returns : goal.returns
returns c = λ payloads. left-remembered _ _ payloads _ _ (bounds c.bounds_of-bounds.result) c.bounds_of-bounds.ensures _ (sym c.are_sound.ensures ∙ not-false _ (ap not c.if-not-are_sound.false)) (sym (c.are_sound-2.ensures payloads) ∙ not-false _ (ap not c.if-not-are_sound-2.false)) c.are_sound-3.ensures
