-- `poll` meets its contract: refused, nothing is touched; accepted, what `accept` does is what the call does.
use Rattle.storage.proofs.Settled.{refused_said}
use Rattle.model.specs.Calls.{output_of}
use Rattle.poll.specs.Answers.{front_answer}
use Rattle.poll.proofs.Polling.{poll-16, poll-15-8, polling, poll_fits, poll-14, poll_taken, poll_done}
use Rattle.poll.proofs.poll.Goals as goal

pub returns-in_err-check_session-clause-does : goal.returns-in_err-check_session-clause-does
unfolding output_of
returns-in_err-check_session-clause-does c =
    refused_said front_answer _ _ _ _ c.from_residual.ensures.1 (poll-16 _ _ _ _ c.in_err-check_session.ensures)

pub returns-in_err-check_output_and_clock-clause-does : goal.returns-in_err-check_output_and_clock-clause-does
unfolding output_of
returns-in_err-check_output_and_clock-clause-does c =
    refused_said front_answer _ _ _ _ c.from_residual-in_err-check_output_and_clock.ensures.1 (poll-15-8 _ _ _ c.in_ok-check_session.ensures _ c.in_err-check_output_and_clock.ensures)

pub effect_at-effect-requires : goal.effect_at-effect-requires
effect_at-effect-requires c = polling _ _ _ c.in_ok-check_session.ensures c.in_ok-check_output_and_clock.ensures

pub check_count-requires : goal.check_count-requires
check_count-requires c = poll_fits _ _ _ c.in_ok-check_session.ensures c.in_ok-check_output_and_clock.ensures _ c.effect_at-effect.ensures

pub returns-in_err-check_count-clause-does : goal.returns-in_err-check_count-clause-does
unfolding output_of
returns-in_err-check_count-clause-does c =
    refused_said front_answer _ _ _ _ c.from_residual-in_err-check_count.ensures.1
    (poll-14 _ _ _ c.in_ok-check_session.ensures c.in_ok-check_output_and_clock.ensures _ c.effect_at-effect.ensures _ c.in_err-check_count.ensures)

pub accept-requires : goal.accept-requires
accept-requires c =
    let all = poll_taken _ _ _ c.in_ok-check_session.ensures c.in_ok-check_output_and_clock.ensures _ c.effect_at-effect.ensures _ c.settle.ensures.settled in
    record { settled = all.0; effect_value = all.1; in_bounds = all.2 }

pub returns-clause-does : goal.returns-clause-does
returns-clause-does c =
    poll_done _ _ _ c.in_ok-check_session.ensures c.in_ok-check_output_and_clock.ensures _ c.effect_at-effect.ensures _ c.settle.ensures.settled c.in_ok-check_count.ensures _
    c.accept.ensures.accepted_as
