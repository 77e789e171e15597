-- `nack_wire` meets its contract: as `poll_nack`, with four bytes to a place.
use mathlib.Core.Path.{ap, ◌∙◌}
use mathlib.Core.List.{List}
use native.Mathlib.Omega.{arith}
use lib.ListN.{length}
use Rattle.words.specs.Words.{over}
use Rattle.nack_pairs.specs.Wire.{entries}
use Rattle.model.specs.Records.{Gap, gap_numbers}
use Rattle.model.specs.Calls.{output_of, wire}
use Rattle.storage.specs.Held.{held}
use Rattle.poll.proofs.Nacking.{wire-refusal, wire-accepted, begin_refused, nacks, nacks_done}
use Rattle.poll.proofs.wire.nack_wire.Goals as goal

pub returns-in_err-timings-clause-does : goal.returns-in_err-timings-clause-does
unfolding output_of
returns-in_err-timings-clause-does c =
    let same = wire-refusal c.args.now (held c.args.q.now) c.args.out.now in
    begin_refused _ _ _ _ same wire _ _ c.from_residual.ensures.1 c.in_err-timings.ensures.value _ c.begin.ensures.session_value

pub poll_wire-requires : goal.poll_wire-requires
poll_wire-requires c =
    let same = wire-refusal c.args.now (held c.args.q.now) c.args.out.now in
    let n = nacks _ _ _ _ same _ c.in_ok-timings.ensures.value _ c.begin.ensures.session_value in
    record { gaps_in = n.held; n_in_bounds = omega (arith, n.places); n_value = n.instants; n_value_2 = n.none_full; small = n.small; n_value_3 = n.ascend }

pub returns-clause-does : goal.returns-clause-does
returns-clause-does c =
    let m = held c.args.q.now in
    let same = wire-refusal c.args.now m c.args.out.now in
    let n = nacks _ _ _ _ same _ c.in_ok-timings.ensures.value _ c.begin.ensures.session_value in
    let p = c.poll_wire.ensures in
    nacks_done _ _ _ _ same _ c.in_ok-timings.ensures.value _ c.begin.ensures.session_value _ _ (wire-accepted c.args.now m c.args.out.now) _ _ _ p.s_after
    (ap wire (p.value ∙ ap (λ (l : List Gap). length (entries (gap_numbers l))) n.due_are))
    (p.out_after ∙ ap (λ (l : List Gap). over (entries (gap_numbers l)) c.args.out.now) n.due_are)
