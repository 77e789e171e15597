-- `judge` meets its contract: the clock, the datagram's own checks, and then `judge_packet`.
use mathlib.Core.Path.{sym}
use Rattle.rtp_packet.specs.Datagram.{largest_payload}
use Rattle.rtp_packet.proofs.Answers.{parsed-packet, parsed-refused}
use Rattle.push.proofs.Pushing.{passed, judged_late, judged_unread}
use Rattle.push.proofs.judge.Goals as goal

pub returns-in_err-check_clock : goal.returns-in_err-check_clock
returns-in_err-check_clock c = λ e p r.
    rw (passed c.from_residual.result _ c.from_residual.ensures.1) (judged_late _ _ _ _ c.in_err-check_clock.ensures)

pub judge_packet-requires : goal.judge_packet-requires
judge_packet-requires c =
    let x = parsed-packet _ _ largest_payload c.args.datagram.now _ (sym c.in_ok-packet.ensures) in
    record { readable = c.requires; read = record { in_time = sym c.in_ok-check_clock.ensures; whole = x.0; packet = x.1 } }

pub returns-in_err-packet : goal.returns-in_err-packet
returns-in_err-packet c = λ e p r.
    let x = parsed-refused _ _ largest_payload _ c.args.datagram.now (sym c.in_err-packet.ensures) in
    rw (passed c.from_residual-in_err-packet.result _ c.from_residual-in_err-packet.ensures.1) (judged_unread _ _ _ _ c.in_ok-check_clock.ensures x.0)
