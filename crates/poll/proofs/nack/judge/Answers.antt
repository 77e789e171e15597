-- `judge` meets its contract: 15 and 8, then 14 by what was found.
use mathlib.Core.Path.{◌∙◌}
use native.Mathlib.Omega.{arith}
use Rattle.refusals.proofs.Laws.{passed_on, refused_unless, accepted_unless}
use Rattle.storage.specs.Held.{held}
use Rattle.poll.specs.Nacking.{found_in}
use Rattle.poll.proofs.Early.{is_timely}
use Rattle.poll.proofs.Nacking.{judge_early, judge_late}
use Rattle.poll.proofs.nack.judge.Goals as goal

pub returns-in_err-check_output_and_clock : goal.returns-in_err-check_output_and_clock
returns-in_err-check_output_and_clock c =
    passed_on c.from_residual.result _ c.from_residual.ensures.1
    ∙ refused_unless _ _ (judge_early _ _ (held c.args.q.now) _ c.in_err-check_output_and_clock.ensures)

pub check_count-requires : goal.check_count-requires
unfolding found_in
check_count-requires c =
    let t = is_timely _ _ _ _ c.in_ok-check_output_and_clock.ensures in
    record { judging = c.requires; found_value = rw (c.given_up.ensures, c.nack_timings.ensures); clock = omega (arith, t) }

pub returns-in_err-check_count : goal.returns-in_err-check_count
returns-in_err-check_count c =
    passed_on c.from_residual-in_err-check_count.result _ c.from_residual-in_err-check_count.ensures.1
    ∙ refused_unless _ _ (c.in_err-check_count.ensures ∙ judge_late _ _ (held c.args.q.now) c.in_ok-check_output_and_clock.ensures)

pub returns : goal.returns
unfolding found_in
returns c =
    rw (c.given_up.ensures, c.nack_timings.ensures)
    (accepted_unless _ (c.in_ok-check_count.ensures ∙ judge_late _ _ (held c.args.q.now) c.in_ok-check_output_and_clock.ensures))
