-- `push_settled` meets its contract: turned back, or applied.
use mathlib.Core.Path.{refl}
use Rattle.model.specs.Calls.{output_of}
use Rattle.push.specs.Answers.{placed}
use Rattle.push.specs.Media.{JudgedAs}
use Rattle.storage.proofs.Settled.{refused_said}
use Rattle.push.proofs.Pushing.{readable, judged_refused, push_applied}
use Rattle.push.proofs.push_settled.Goals as goal

-- ---- the needs
pub judge-requires : goal.judge-requires
judge-requires c = readable _ c.requires.sound

pub apply-requires : goal.apply-requires
unfolding JudgedAs
apply-requires c = record { settled = c.requires; found_in = (c.in_ok-found.ensures c.args.entries.now c.args.payloads.now c.args.remembered.now).1 }

pub returns-in_err-found : goal.returns-in_err-found
unfolding output_of
returns-in_err-found c =
    refused_said placed _ _ _ _ c.from_residual.ensures.1 (judged_refused _ _ _ c.requires.sound _ (c.in_err-found.ensures c.args.entries.now c.args.payloads.now c.args.remembered.now))

pub returns : goal.returns
returns c =
    push_applied _ _ _ c.requires.sound _ (c.in_ok-found.ensures c.args.entries.now c.args.payloads.now c.args.remembered.now) _ _ _ refl c.apply.ensures.answer_value c.apply.ensures.left
