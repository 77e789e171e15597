-- `check_session_and_clock`: 8 is asked only where 16 passes.
use mathlib.Core.Path.{sym, ◌∙◌}
use Rattle.refusals.proofs.Laws.{passed-number, or_else_second, or_else_refused}
use Rattle.storage.proofs.check_session_and_clock.Goals as goal

pub returns-in_err-check_session : goal.returns-in_err-check_session
returns-in_err-check_session c = passed-number c.from_residual.result _ c.from_residual.ensures.1 ∙ or_else_refused _ _ c.in_err-check_session.ensures

pub returns : goal.returns
returns c = c.check_clock.ensures ∙ sym (or_else_second _ _ (sym c.in_ok-check_session.ensures))
