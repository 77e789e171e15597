-- `push_repair` meets its contract: 10, then 11, then `push_original`.
use Rattle.push.proofs.Pushing.{passed}
use Rattle.push.proofs.Repairing.{original_early, original-refused-is, original-is}
use Rattle.rtp_packet.proofs.Bounds.{length-original}
use Rattle.rtp_packet.proofs.Answers.{original-number, original-refused}
use Rattle.rtp.specs.declared.SequenceNumber.{SequenceNumber}
use lib.ListN.{length}
use native.Mathlib.Omega.{arith}
use mathlib.Core.Path.{sym, ap}
use Rattle.push.proofs.rtx.push_repair.Goals as goal

pub returns-in_err-check_media_first-clause-does : goal.returns-in_err-check_media_first-clause-does
returns-in_err-check_media_first-clause-does c =
    rw (passed c.from_residual.result _ c.from_residual.ensures.1) (original_early _ _ _ _ _ c.in_err-check_media_first.ensures)

pub returns-in_err-number-clause-does : goal.returns-in_err-number-clause-does
returns-in_err-number-clause-does c =
    let x = original-refused c.args.payload.now _ (sym c.in_err-number.ensures) in
    rw (passed c.from_residual-in_err-number.result _ c.from_residual-in_err-number.ensures.1) (original-refused-is _ _ _ _ (sym c.in_ok-check_media_first.ensures) _ x.0)

pub push_original-requires : goal.push_original-requires
push_original-requires c = record { sound = c.requires.sound; payload_len_bound = omega (arith, ap length c.original_payload-rest.ensures, length-original c.args.payload.now, c.requires.payload_len_bound) }

pub returns-clause-does : goal.returns-clause-does
returns-clause-does c =
    let x = original-number c.args.payload.now _ (sym c.in_ok-number.ensures) in
    original-is _ _ _ _ (sym c.in_ok-check_media_first.ensures) _ _ _ x.0 (ap (λ (y : SequenceNumber). y.0) x.1) c.original_payload-rest.ensures c.push_original.ensures.does
