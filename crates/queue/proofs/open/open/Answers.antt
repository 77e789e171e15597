-- `open` meets its contract: a refusal writes nothing, and otherwise every slice is zeros.
use mathlib.Core.Path.{sym, refl}
use Rattle.std.proofs.lemmas.Result.{err_from_is_err_and}
use Rattle.refusals.proofs.Laws.{number_refuses}
use Rattle.model.specs.Did.{opened}
use Rattle.queue.proofs.New.{zeros}
use Rattle.queue.proofs.open.open.Goals as goal

pub returns-in_err-check_opening : goal.returns-in_err-check_opening
unfolding opened
returns-in_err-check_opening c =
    let p = err_from_is_err_and c.from_residual.result c.from_residual.ensures.1 in
    rw (p.1, p.2, ← c.in_err-check_opening.ensures, number_refuses c.in_err-check_opening.field-0.0) refl

pub returns : goal.returns
unfolding opened
returns c =
    let a = c.args in
    let z = sym c.in_ok-check_opening.ensures in
    rw (z, ← c.new_session.ensures, ← (zeros a.config a.entries.now a.payloads.now a.gaps.now a.remembered.now z _ _ _ _ c.tidy.ensures c.tidy-2.ensures c.tidy-3.ensures c.tidy-4.ensures)) refl
