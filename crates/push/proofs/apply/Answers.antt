-- `apply` meets its contract: what was found is what `place` asks for, and what `place` leaves is what is lent here.
use mathlib.Core.Path.{◌∙◌}
use borrow.Author.Rules.{rules}
use Rattle.push.specs.declared.Accepted.{Accepted}
use Rattle.push.proofs.Pushing.{payload-is, fit_of, answered_as, taken_as}
use Rattle.push.proofs.apply.Goals as goal

pub place-requires : goal.place-requires
place-requires c =
    let a = c.args in
    fit_of _ a.datagram.now _ (payload-is _ _ _ c.payload-payload.ensures c.requires.found_in.packet) c.requires.found_in c.requires.settled

pub returns : goal.returns
returns c =
    let a = c.args in
    let x : Accepted = record { found = a.found; payload = c.payload-payload.result } in
    let part = payload-is _ _ _ c.payload-payload.ensures c.requires.found_in.packet in
    record {
      answer_value = answered_as x a.datagram.now _ part c.requires.found_in _ c.place.ensures.answer_value;
      left = taken_as x a.datagram.now _ part c.requires.found_in _ (search rules ∙ c.place.ensures.placed);
    }
