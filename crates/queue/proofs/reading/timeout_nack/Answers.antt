-- `timeout_nack` meets its contract: what it answers is read of the settled storage.
use mathlib.Core.Path.{sym}
use Rattle.model.specs.Storage.{parse}
use Rattle.model.specs.Calls.{output_of}
use Rattle.model.specs.Table.{call_refusal, refusal}
use Rattle.storage.proofs.Settled.{refused_said}
use Rattle.queue.proofs.Unchanged.{timely_sound, nack-ready, nacked-timeout}
use Rattle.queue.proofs.reading.timeout_nack.Goals as goal

pub returns-in_err-check_session_and_clock-clause-does : goal.returns-in_err-check_session_and_clock-clause-does
unfolding output_of refusal call_refusal parse
returns-in_err-check_session_and_clock-clause-does c = refused_said _ _ _ _ _ c.from_residual.ensures.1 c.in_err-check_session_and_clock.ensures

pub settle-requires : goal.settle-requires
settle-requires c = timely_sound _ _ (sym c.in_ok-check_session_and_clock.ensures)

pub nack_timeout-requires : goal.nack_timeout-requires
nack_timeout-requires c = let k = nack-ready _ _ (sym c.in_ok-check_session_and_clock.ensures) _ c.settle.ensures.settled in record { in_bounds = k.0; fit = k.1.0; small = k.1.1 }

pub returns-clause-does : goal.returns-clause-does
returns-clause-does c = nacked-timeout _ _ (sym c.in_ok-check_session_and_clock.ensures) _ c.settle.ensures.settled _ c.nack_timeout.ensures
