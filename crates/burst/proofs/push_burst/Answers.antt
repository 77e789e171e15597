-- `push_burst` meets its contract: refused under 15, or the datagrams one after the other.
use mathlib.Core.Path.{sym}
use lib.ListN.{length}
use Rattle.storage.specs.Held.{held}
use Rattle.push.proofs.Pushing.{passed}
use Rattle.burst.proofs.Ends.{fit_of}
use Rattle.burst.proofs.Fold.{burst-refused, burst-done}
use Rattle.burst.proofs.push_burst.Goals as goal

pub returns-in_err-check_burst-clause-does : goal.returns-in_err-check_burst-clause-does
returns-in_err-check_burst-clause-does c =
    let a = c.args in
    rw (passed c.from_residual.result _ c.from_residual.ensures.1) (burst-refused a.now a.buffer.now a.ends.now a.answers.now (held a.q.now) _ c.in_err-check_burst.ensures)

pub push_each-requires : goal.push_each-requires
push_each-requires c =
    let a = c.args in
    record { stands = c.standing_of-first.ensures; ends_value = fit_of (length a.buffer.now) a.ends.now (length a.answers.now) (sym c.in_ok-check_burst.ensures) }

pub returns-clause-does : goal.returns-clause-does
returns-clause-does c =
    let a = c.args in
    burst-done a.now a.buffer.now a.ends.now a.answers.now (held a.q.now) (sym c.in_ok-check_burst.ensures) _ _ c.push_each.ensures.left c.push_each.ensures.answers_after
