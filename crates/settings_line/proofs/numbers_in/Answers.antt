-- `numbers_in`: Numbered says what one more field makes of the numbers stored.
use native.Mathlib.Omega.{arith}
use mathlib.Core.Path.{◌≡◌, sym, ◌∙◌}
use lib.ListN.{length-replicate}
use Rattle.std.specs.Prelude.{None}
use Rattle.settings_line.proofs.Numbered.{gathering_all, parting_none, parting_left, parting_more, parting_wrong}
use Rattle.settings_line.proofs.numbers_in.Goals as goal

pub loop-value-init : goal.loop-value-init
loop-value-init g c = parting_none c.args.fields.now g.row.N _ _ _ c.requires.1 (length-replicate g.row.N 0) c.chunks_exact-parts.ensures.rest c.chunks_exact-parts.ensures.size

pub returns-in_err-next : goal.returns-in_err-next
returns-in_err-next g c = absurd (parting_left c.loop-value.invariant (omega arith) c.in_err-next.ensures.steps.1.0)

pub returns-in_err-value : goal.returns-in_err-value
returns-in_err-value g c =
    let p : c.from_residual-in_err-value.result ≡ None = c.from_residual-in_err-value.ensures in
    p ∙ parting_wrong c.loop-value.invariant (omega arith) _ _ c.in_ok-next.ensures.steps.1.0 c.in_ok-next.ensures.steps.1.1 (sym c.read.ensures ∙ c.in_err-value.was)

pub loop-value-preserved : goal.loop-value-preserved
loop-value-preserved g c =
    parting_more c.loop-value.invariant (omega arith) _ _ c.in_ok-next.ensures.steps.1.0 c.in_ok-next.ensures.steps.1.1 _ _ c.in_ok-next.ensures.steps.0 (sym c.read.ensures ∙ c.in_ok-value.was)

pub returns : goal.returns
returns g c = gathering_all c.args.fields.now g.row.N _ _ c.loop-value.invariant.held (omega arith)
