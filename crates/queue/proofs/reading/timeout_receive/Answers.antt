-- `timeout_receive` meets its contract: what it answers is read of the settled storage.
use mathlib.Core.Path.{sym}
use Rattle.model.specs.Storage.{parse}
use Rattle.model.specs.Calls.{output_of}
use Rattle.model.specs.Table.{call_refusal, refusal}
use Rattle.storage.proofs.Settled.{refused_said}
use Rattle.queue.proofs.Unchanged.{timely_sound, receive_timed, received-timeout}
use Rattle.queue.proofs.reading.timeout_receive.Goals as goal

pub returns-in_err-check_session_and_clock-clause-does : goal.returns-in_err-check_session_and_clock-clause-does
unfolding output_of refusal call_refusal parse
returns-in_err-check_session_and_clock-clause-does c = refused_said _ _ _ _ _ c.from_residual.ensures.1 c.in_err-check_session_and_clock.ensures

pub settle-requires : goal.settle-requires
settle-requires c = timely_sound _ _ (sym c.in_ok-check_session_and_clock.ensures)

pub receive_timeout-requires : goal.receive_timeout-requires
receive_timeout-requires c = let k = receive_timed _ _ (sym c.in_ok-check_session_and_clock.ensures) _ c.settle.ensures.settled in record { sound = k.0; in_range = k.1; n_in_bounds = k.2; front_fits = k.3 }

pub returns-clause-does : goal.returns-clause-does
returns-clause-does c = received-timeout _ _ (sym c.in_ok-check_session_and_clock.ensures) _ c.settle.ensures.settled _ c.receive_timeout.ensures
