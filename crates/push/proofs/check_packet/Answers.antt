-- `check_packet`: 14 and 12 as the definition joins them.
use mathlib.Core.Path.{refl, sym, ◌∙◌}
use Rattle.refusals.proofs.Laws.{passed-number, or_else_second, or_else_refused}
use Rattle.push.proofs.Queueing.{packet-refusal-is}
use Rattle.push.proofs.check_packet.Goals as goal

pub returns-in_err-check_counts : goal.returns-in_err-check_counts
returns-in_err-check_counts c =
    passed-number c.from_residual.result _ c.from_residual.ensures.1
    ∙ packet-refusal-is c.args.s c.args.e c.args.place _ _ _ _ _ (or_else_refused _ _ refl) c.waits-waits.ensures c.is_full-full.ensures c.in_err-check_counts.ensures refl

pub returns : goal.returns
returns c = packet-refusal-is c.args.s c.args.e c.args.place _ _ _ _ _ (sym (or_else_second _ _ refl)) c.waits-waits.ensures c.is_full-full.ensures c.in_ok-check_counts.ensures c.check_gaps.ensures
