-- `check_fate`: 14 and 13 as the definition joins them.
use mathlib.Core.Path.{refl, sym, ◌∙◌}
use Rattle.refusals.proofs.Laws.{passed-number, or_else_second, or_else_refused}
use Rattle.push.proofs.Repaired.{fate-refusal-is}
use Rattle.push.proofs.rtx.check_fate.Goals as goal

pub returns-in_err-check_counts : goal.returns-in_err-check_counts
returns-in_err-check_counts c =
    passed-number c.from_residual.result _ c.from_residual.ensures.1
    ∙ fate-refusal-is c.args.s c.args.e c.args.fate _ _ _ (or_else_refused _ _ refl) c.in_err-check_counts.ensures refl

pub returns : goal.returns
returns c = fate-refusal-is c.args.s c.args.e c.args.fate _ _ _ (sym (or_else_second _ _ refl)) c.in_ok-check_counts.ensures c.check_entries.ensures
