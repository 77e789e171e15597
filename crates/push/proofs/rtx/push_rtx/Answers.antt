-- `push_rtx` meets its contract: the checks before the datagram, the datagram's own, and then `push_repair`.
use Rattle.push.proofs.Repairing.{repair_early, repair_unread, repair_read}
use Rattle.storage.proofs.Settled.{passed_16, refused_said}
use Rattle.push.proofs.Pushing.{payload-is}
use Rattle.model.specs.Calls.{output_of}
use Rattle.push.specs.Answers.{repaired}
use Rattle.rtp_packet.proofs.Bounds.{payload-fits}
use Rattle.rtp_packet.proofs.Answers.{parsed-packet, parsed-refused}
use Rattle.rtp_packet.specs.Datagram.{largest_repair}
use Rattle.refusals.proofs.Laws.{or_else_second, or_else_refused, or_else-none}
use lib.ListN.{length}
use native.Mathlib.Omega.{arith}
use mathlib.Core.Path.{refl, sym, ap, ◌∙◌}
use Rattle.push.proofs.rtx.push_rtx.Goals as goal

pub returns-in_err-check_session_and_clock-clause-does : goal.returns-in_err-check_session_and_clock-clause-does
unfolding output_of
returns-in_err-check_session_and_clock-clause-does c =
    refused_said repaired _ _ _ _ c.from_residual.ensures.1
    (repair_early _ _ _ _ (or_else_refused _ _ c.in_err-check_session_and_clock.ensures) _ refl)

pub returns-in_err-check_rtx-clause-does : goal.returns-in_err-check_rtx-clause-does
unfolding output_of
returns-in_err-check_rtx-clause-does c =
    refused_said repaired _ _ _ _ c.from_residual-in_err-check_rtx.ensures.1
    (repair_early _ _ _ _ (c.in_err-check_rtx.ensures ∙ sym (or_else_second _ _ (sym c.in_ok-check_session_and_clock.ensures))) _ refl)

pub returns-in_err-p-clause-does : goal.returns-in_err-p-clause-does
unfolding output_of
returns-in_err-p-clause-does c =
    let early = c.in_ok-check_rtx.ensures ∙ sym (or_else_second _ _ (sym c.in_ok-check_session_and_clock.ensures)) in
    let x = parsed-refused _ _ largest_repair _ c.args.datagram.now (sym c.in_err-p.ensures) in
    refused_said repaired _ _ _ _ c.from_residual-in_err-p.ensures.1 (repair_unread _ _ _ _ early refl _ x.0)

pub push_repair-requires : goal.push_repair-requires
push_repair-requires c =
    let x = parsed-packet _ _ largest_repair c.args.datagram.now _ (sym c.in_ok-p.ensures) in
    let l = ap length (payload-is _ _ _ c.payload-payload.ensures x.1) in
    record { sound = passed_16 _ (or_else-none _ _ (sym c.in_ok-check_session_and_clock.ensures)).0; payload_len_bound = omega (arith, l, payload-fits _ _ largest_repair c.args.datagram.now x.0) }

pub returns-clause-does : goal.returns-clause-does
returns-clause-does c =
    let early = c.in_ok-check_rtx.ensures ∙ sym (or_else_second _ _ (sym c.in_ok-check_session_and_clock.ensures)) in
    let x = parsed-packet _ _ largest_repair c.args.datagram.now _ (sym c.in_ok-p.ensures) in
    repair_read _ _ _ _ early refl _ _ _ x.0 x.1 (payload-is _ _ _ c.payload-payload.ensures x.1) c.push_repair.ensures.does
