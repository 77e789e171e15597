-- `accept` meets its contract: `drain`, then nothing goes out or the first entry does.
use Rattle.poll.proofs.Polling.{given_are, nothing_out, is_handing, packet_out}
use Rattle.poll.proofs.accept.Goals as goal

pub drain-requires-clause-given_value : goal.drain-requires-clause-given_value
drain-requires-clause-given_value c = given_are _ _ c.requires.settled _ c.requires.effect_value

pub returns-in_err-lost-clause-accepted_as : goal.returns-in_err-lost-clause-accepted_as
returns-in_err-lost-clause-accepted_as c =
    rw c.from_residual.ensures (nothing_out _ _ c.requires.settled _ c.requires.effect_value _ c.drain.ensures.drained c.args.out.now c.in_err-lost.was)

pub hand_out-requires-clause-handing : goal.hand_out-requires-clause-handing
hand_out-requires-clause-handing c =
    is_handing _ _ c.requires.settled _ c.requires.effect_value _ c.drain.ensures.drained c.args.out.now _ c.in_ok-lost.was

pub returns-clause-accepted_as : goal.returns-clause-accepted_as
returns-clause-accepted_as c =
    let o = c.hand_out.ensures in
    packet_out _ _ c.requires.settled _ c.requires.effect_value _ c.drain.ensures.drained c.args.out.now _ c.in_ok-lost.was _ _ _ o.leaves o.answer_value o.out_after
