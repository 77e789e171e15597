-- `highest_sequence_number_received` meets its contract: the highest number of the session that came.
use mathlib.Core.Path.{refl, sym, ap, ◌∙◌}
use Rattle.model.specs.Storage.{parse}
use Rattle.model.specs.Calls as Calls
use Rattle.model.specs.Calls.{taken, answered, output_of, output_after}
use Rattle.model.specs.Table.{call_refusal, refusal}
use Rattle.storage.proofs.Settled.{refused_said, passed_16}
use Rattle.queue.proofs.Unchanged.{alone, left_settled_as_is}
use Rattle.queue.proofs.reading.highest_sequence_number_received.Goals as goal

pub returns-in_err-check_session-clause-does : goal.returns-in_err-check_session-clause-does
unfolding output_of refusal call_refusal
returns-in_err-check_session-clause-does c = refused_said _ _ _ _ _ c.from_residual.ensures.1 (c.in_err-check_session.ensures ∙ alone _)

pub returns-clause-does : goal.returns-clause-does
unfolding taken answered output_after refusal call_refusal parse
returns-clause-does c = left_settled_as_is _ _ _ _ _ (c.in_ok-check_session.ensures ∙ alone _) refl (passed_16 _ (sym c.in_ok-check_session.ensures)) refl refl (ap Calls.highest (sym c.highest.ensures)) c.settle.ensures.settled
