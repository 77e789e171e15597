-- `session_sound` meets its contract: the same tests, each made only where those before it passed.
use mathlib.Core.Path.{sym, ◌∙◌}
use borrow.Author.Tests.{not-true, not-false}
use Rattle.model.specs.Contract.{storage}
use Rattle.storage.proofs.Checking.{lengths_of, counts_of, room_of, valid_usable, bad_config, bad_lengths, bad_counts, bad_queue, left-lists}
use mathlib.Core.Path.{ap}
use mathlib.Core.Bool.{not}
use Rattle.storage.proofs.session_sound.Goals as goal

pub returns-then-not-config_valid : goal.returns-then-not-config_valid
returns-then-not-config_valid c = bad_config _ (sym c.config_valid.ensures ∙ not-true _ (ap not c.if-not-config_valid.true))

pub lengths_fit-requires : goal.lengths_fit-requires
lengths_fit-requires c = let u = valid_usable _ (sym c.config_valid.ensures ∙ not-false _ (ap not c.if-not-config_valid.false)) in (u.entries, u.gaps)

pub returns-then-not-lengths_fit : goal.returns-then-not-lengths_fit
returns-then-not-lengths_fit c = bad_lengths _ (sym c.config_valid.ensures ∙ not-false _ (ap not c.if-not-config_valid.false)) (sym c.lengths_fit.ensures ∙ not-true _ (ap not c.if-not-lengths_fit.true))

pub counts_fit-requires : goal.counts_fit-requires
counts_fit-requires c = (valid_usable _ (sym c.config_valid.ensures ∙ not-false _ (ap not c.if-not-config_valid.false))).entries

pub returns-then-not-counts_fit : goal.returns-then-not-counts_fit
returns-then-not-counts_fit c = bad_counts _ (sym c.config_valid.ensures ∙ not-false _ (ap not c.if-not-config_valid.false)) (sym c.lengths_fit.ensures ∙ not-false _ (ap not c.if-not-lengths_fit.false)) (sym c.counts_fit.ensures ∙ not-true _ (ap not c.if-not-counts_fit.true))

pub returns-then-not-queue_sound : goal.returns-then-not-queue_sound
returns-then-not-queue_sound c = bad_queue _ (sym c.config_valid.ensures ∙ not-false _ (ap not c.if-not-config_valid.false)) (sym c.lengths_fit.ensures ∙ not-false _ (ap not c.if-not-lengths_fit.false)) (sym c.counts_fit.ensures ∙ not-false _ (ap not c.if-not-counts_fit.false)) (sym c.queue_sound.ensures ∙ not-true _ (ap not c.if-not-queue_sound.true))

pub lists_sound-requires : goal.lists_sound-requires
lists_sound-requires c = let a = c.args in let t = storage a.entries.now a.payloads.now a.gaps.now a.remembered.now in let r = room_of a.s t (lengths_of a.s.queue.config.settings t (sym c.lengths_fit.ensures ∙ not-false _ (ap not c.if-not-lengths_fit.false))) (counts_of a.s (sym c.counts_fit.ensures ∙ not-false _ (ap not c.if-not-counts_fit.false))) in (r.entries, r.gaps, r.remembered)

pub returns : goal.returns
returns c = left-lists _ (sym c.config_valid.ensures ∙ not-false _ (ap not c.if-not-config_valid.false)) (sym c.lengths_fit.ensures ∙ not-false _ (ap not c.if-not-lengths_fit.false)) (sym c.counts_fit.ensures ∙ not-false _ (ap not c.if-not-counts_fit.false)) _ (sym c.queue_sound.ensures ∙ not-false _ (ap not c.if-not-queue_sound.false)) (c.lists_sound.ensures _)
