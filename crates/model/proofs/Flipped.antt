-- A changed bit leaves every check before the datagram's as it was, and the datagram's own refuses (the one_bit law of `rtp_packet`).
use mathlib.Core.Path.{◌≡◌, refl, ◌∙◌}
use mathlib.Core.Bool.{Bool}
use Prim.Native.Nat.{ℕ, ◌<◌}
use native.Mathlib.Omega.{arith}
use borrow.Author.Tests.{ne_eqb}
use Rattle.refusals.specs.Refusals.{VERSION, payload_type, SSRC}
use Rattle.refusals.proofs.Laws.{or_else-first, or_else_second, or_else-none}
use Rattle.rtp_packet.specs.OneBit.{flip_bit, in_version, in_payload_type, in_ssrc, Refuses}
use Rattle.rtp_packet.proofs.OneBit.{one_bit}
use Rattle.model.specs.Storage.{Stored}
use Rattle.model.specs.Calls.{Call, media, repair}
use Rattle.model.specs.Table.{refusal, call_refusal, media_refusal, repair_refusal}
use Rattle.model.specs.Did.{did, turned_back}
use Rattle.model.specs.Flipped.{TurnedBack, FlippedBit}

-- what is refused does nothing
pub refused_does : (k : ℕ) (c : Call) (m : Stored) → 0 < k → refusal c m ≡ k → did c m ≡ turned_back k c m
unfolding did
refused_does k c m positive e = rw e (rw (ne_eqb k 0 (λ z. omega arith)) refl)

of_media : (group : ℕ → ℕ → Bool) (k : ℕ) → 0 < k → Refuses group k → TurnedBack media group k
unfolding refusal call_refusal media_refusal
of_media group number positive law now d m e i k g =
    refused_does number (media now (flip_bit i k d)) m positive
    (let q = or_else-none _ _ e in
    let c = or_else-none _ _ q.1 in
    let own = or_else-none _ _ c.1 in
    or_else_second _ _ q.0 ∙ or_else_second _ _ c.0 ∙ rw (law _ _ _ d own.0 i k g) (or_else-first number _ (λ z. omega arith)))

of_repair : (group : ℕ → ℕ → Bool) (k : ℕ) → 0 < k → Refuses group k → TurnedBack repair group k
unfolding refusal call_refusal repair_refusal
of_repair group number positive law now d m e i k g =
    refused_does number (repair now (flip_bit i k d)) m positive
    (let q = or_else-none _ _ e in
    let c = or_else-none _ _ q.1 in
    let x = or_else-none _ _ c.1 in
    let own = or_else-none _ _ x.1 in
    or_else_second _ _ q.0 ∙ or_else_second _ _ c.0 ∙ or_else_second _ _ x.0
    ∙ rw (law _ _ _ d own.0 i k g) (or_else-first number _ (λ z. omega arith)))

pub flipped-bit : FlippedBit
flipped-bit = record {
  media_version = of_media in_version VERSION (omega arith) one_bit.0;
  media_type = of_media in_payload_type payload_type (omega arith) one_bit.1.0;
  media_sender = of_media in_ssrc SSRC (omega arith) one_bit.1.1;
  repair_version = of_repair in_version VERSION (omega arith) one_bit.0;
  repair_type = of_repair in_payload_type payload_type (omega arith) one_bit.1.0;
  repair_sender = of_repair in_ssrc SSRC (omega arith) one_bit.1.1;
}
