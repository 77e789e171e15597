-- `check_count` meets its contract: what the timings make due is what the definition does.
use mathlib.Core.Path.{◌∙◌}
use Rattle.refusals.proofs.Laws.{passed-number}
use Rattle.poll.proofs.Nacking.{found-timings, small_are, lost-refused, count-refused, count-passed}
use Rattle.poll.proofs.nack.check_count.Goals as goal

pub returns-in_err-check_lost : goal.returns-in_err-check_lost
returns-in_err-check_lost c =
    passed-number c.from_residual.result _ c.from_residual.ensures.1 ∙ lost-refused _ _ _ c.requires.found_value _ c.in_err-check_lost.ensures

pub any_full-requires : goal.any_full-requires
any_full-requires c =
    let j = c.requires.judging in
    let timings = found-timings c.args.instant _ _ c.requires.found_value in
    record { n_in_bounds = j.room; n_value = j.instants c.requires.clock; small = small_are c.args.q.now.session.queue _ timings j.small }

pub returns-then-any_full : goal.returns-then-any_full
returns-then-any_full c = count-refused _ _ _ c.requires.found_value c.in_ok-check_lost.ensures _ c.any_full.ensures c.if-any_full.true

pub returns : goal.returns
returns c = count-passed _ _ _ c.requires.found_value c.in_ok-check_lost.ensures _ c.any_full.ensures c.if-any_full.false
