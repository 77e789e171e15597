-- `begin` meets its contract: a refusal leaves all as it was, else `settle` and `drain` are done.
use mathlib.Core.Path.{sym, ◌∙◌}
use Rattle.storage.proofs.Settled.{passed_16}
use Rattle.refusals.proofs.Laws.{passed_on, refused_unless}
use Rattle.poll.proofs.Nacking.{judging, left_alone, begin_damaged, begin_late, begin-ok, begin_settled, begun}
use Rattle.poll.proofs.nack.begin.Goals as goal

pub returns-in_err-check_session-clause-value : goal.returns-in_err-check_session-clause-value
returns-in_err-check_session-clause-value c =
    passed_on c.from_residual.result _ c.from_residual.ensures.1 ∙ refused_unless _ _ (begin_damaged _ _ _ _ c.in_err-check_session.ensures)

pub returns-in_err-check_session-clause-session_value : goal.returns-in_err-check_session-clause-session_value
returns-in_err-check_session-clause-session_value c =
    left_alone _ _ _ _ (begin_damaged _ _ _ _ c.in_err-check_session.ensures)

pub judge-requires : goal.judge-requires
judge-requires c = judging _ (passed_16 _ (sym c.in_ok-check_session.ensures))

pub returns-in_err-found-clause-value : goal.returns-in_err-found-clause-value
returns-in_err-found-clause-value c =
    passed_on c.from_residual-in_err-found.result _ c.from_residual-in_err-found.ensures.1
    ∙ refused_unless _ _ (begin_late _ _ _ c.in_ok-check_session.ensures _ c.in_err-found.ensures)

pub returns-in_err-found-clause-session_value : goal.returns-in_err-found-clause-session_value
returns-in_err-found-clause-session_value c =
    left_alone _ _ _ _ (begin_late _ _ _ c.in_ok-check_session.ensures _ c.in_err-found.ensures)

pub drain-requires : goal.drain-requires
drain-requires c =
    let all = begin_settled _ _ _ c.in_ok-check_session.ensures _ c.in_ok-found.ensures _ c.settle.ensures.settled in
    record { settled = all.0; given_value = all.1 }

pub returns-clause-value : goal.returns-clause-value
returns-clause-value c = begin-ok _ _ _ c.in_ok-check_session.ensures _ c.in_ok-found.ensures

pub returns-clause-session_value : goal.returns-clause-session_value
returns-clause-session_value c =
    begun _ _ _ c.in_ok-check_session.ensures _ c.in_ok-found.ensures _ c.settle.ensures.settled _ c.drain.ensures.drained
