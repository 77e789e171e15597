-- `push_checked` meets its contract: turned back, or applied to the settled storage.
use mathlib.Core.Path.{sym, subst}
use Rattle.storage.specs.Held.{held}
use Rattle.model.specs.Storage.{Stored}
use Rattle.storage.proofs.Settled.{settled_of, refused_said}
use Rattle.model.specs.Calls.{output_of}
use Rattle.push.specs.Answers.{placed}
use Rattle.push.specs.Media.{FoundIn, JudgedAs}
use Rattle.push.proofs.Pushing.{readable, judged_refused, push_applied}
use Rattle.push.proofs.push_checked.Goals as goal

-- ---- the needs
pub judge-requires : goal.judge-requires
judge-requires c = readable _ c.requires

pub apply-requires : goal.apply-requires
unfolding JudgedAs
apply-requires c =
    let k = settled_of (held c.args.q.now) _ c.requires c.settle.ensures.settled in
    record { settled = k.0; found_in = subst (FoundIn _ c.args.datagram.now) (sym k.1) (c.in_ok-found.ensures (c.args.q.now.entries.now) c.args.q.now.payloads.now c.args.q.now.remembered.now).1 }

pub returns-in_err-found-clause-does : goal.returns-in_err-found-clause-does
unfolding output_of
returns-in_err-found-clause-does c =
    refused_said placed _ _ _ _ c.from_residual.ensures.1 (judged_refused _ _ _ c.requires _ (c.in_err-found.ensures c.args.q.now.entries.now c.args.q.now.payloads.now c.args.q.now.remembered.now))

pub returns-clause-does : goal.returns-clause-does
returns-clause-does c =
    let came : Stored = held c.args.q.now in
    let k = settled_of came _ c.requires c.settle.ensures.settled in
    push_applied _ _ _ c.requires _ (c.in_ok-found.ensures c.args.q.now.entries.now c.args.q.now.payloads.now c.args.q.now.remembered.now) _ _ _ k.1 c.apply.ensures.answer_value c.apply.ensures.left
