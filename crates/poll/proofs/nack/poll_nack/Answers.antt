-- `poll_nack` meets its contract: refused by `begin`, nothing is touched; else the NACKs are what the call does.
use lib.ListN.{length}
use mathlib.Core.Path.{ap, ◌∙◌}
use mathlib.Core.List.{List, map}
use Rattle.words.specs.Words.{over}
use Rattle.model.specs.Records.{Gap}
use Rattle.model.specs.Rules.{truncated}
use Rattle.model.specs.Calls.{output_of, nack_answer}
use Rattle.storage.specs.Held.{held}
use Rattle.poll.specs.Answers.{count_answer}
use Rattle.poll.proofs.Nacking.{list-refusal, list-accepted, begin_refused, nacks, nacks_done, some_count}
use Rattle.poll.proofs.nack.poll_nack.Goals as goal

pub returns-in_err-timings-clause-does : goal.returns-in_err-timings-clause-does
unfolding output_of
returns-in_err-timings-clause-does c =
    let same = list-refusal c.args.now (held c.args.q.now) c.args.out.now in
    begin_refused _ _ _ _ same count_answer _ _ c.from_residual.ensures.1 c.in_err-timings.ensures.value _ c.begin.ensures.session_value

pub poll_nacks-count-requires : goal.poll_nacks-count-requires
poll_nacks-count-requires c =
    let same = list-refusal c.args.now (held c.args.q.now) c.args.out.now in
    let n = nacks _ _ _ _ same _ c.in_ok-timings.ensures.value _ c.begin.ensures.session_value in
    record { gaps_in = n.held; n_in_bounds = n.places; n_value = n.instants; n_value_2 = n.none_full; small = n.small }

pub returns-clause-does : goal.returns-clause-does
returns-clause-does c =
    let m = held c.args.q.now in
    let same = list-refusal c.args.now m c.args.out.now in
    let n = nacks _ _ _ _ same _ c.in_ok-timings.ensures.value _ c.begin.ensures.session_value in
    let p = c.poll_nacks-count.ensures in
    nacks_done _ _ _ _ same _ c.in_ok-timings.ensures.value _ c.begin.ensures.session_value _ _ (list-accepted c.args.now m c.args.out.now) _ _ _ p.s_after
    (ap count_answer c.then_some.ensures ∙ some_count _ ∙ ap nack_answer (p.value ∙ ap length n.due_are))
    (p.out_after ∙ ap (λ (l : List Gap). over (map truncated l) c.args.out.now) n.due_are)
