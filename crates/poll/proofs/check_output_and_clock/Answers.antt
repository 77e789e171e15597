-- `check_output_and_clock`: 8 is asked only where 15 passes.
use mathlib.Core.Path.{sym, ◌∙◌}
use Rattle.refusals.proofs.Laws.{passed-number, or_else_second, or_else_refused}
use Rattle.poll.proofs.check_output_and_clock.Goals as goal

pub returns-in_err-check_output : goal.returns-in_err-check_output
returns-in_err-check_output c = passed-number c.from_residual.result _ c.from_residual.ensures.1 ∙ or_else_refused _ _ c.in_err-check_output.ensures

pub returns : goal.returns
returns c = c.check_clock.ensures ∙ sym (or_else_second _ _ (sym c.in_ok-check_output.ensures))
