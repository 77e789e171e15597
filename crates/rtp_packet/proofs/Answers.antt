-- What a caller learns from an answer, by its variant: the two cases of `parsed` and of `original_of` are told apart by the refusal being 0.
use mathlib.Core.Path.{◌≡◌, refl}
use mathlib.Core.Logic.{◌⊎◌, inl, inr, ⊎_elim}
use mathlib.Core.Bool.{Bool, true, false, cond}
use mathlib.Core.List.{List}
use Prim.Native.Nat.{ℕ}
use lib.Dec.{eqb}
use borrow.Author.Tests.{eqb-true, eqb-false}
use Rattle.rtp.specs.declared.SequenceNumber.{SequenceNumber}
use Rattle.rtp_packet.specs.declared.RtpPacket.{RtpPacket}
use Rattle.std.specs.Prelude.{Result, Ok, Err}
use Rattle.rtp_packet.specs.Datagram.{datagram_refusal, packet_of, parsed}
use Rattle.rtp_packet.specs.Original.{original_refusal, original_number, original_of}

-- an answer that is `ok` where the refusal k is 0, and else says k
told : {A : Type 0} (ok : A) (says : ℕ → A) (k : ℕ)
    → ((k ≡ 0) × (cond (eqb k 0) ok (says k) ≡ ok)) ⊎ ((k ≡ 0 → ⊥) × (cond (eqb k 0) ok (says k) ≡ says k))
told ok says k = by_test (eqb k 0) refl
  where
    by_test : (b : Bool) → eqb k 0 ≡ b → ((k ≡ 0) × (cond b ok (says k) ≡ ok)) ⊎ ((k ≡ 0 → ⊥) × (cond b ok (says k) ≡ says k))
    by_test true z = inl (eqb-true k 0 z, refl)
    by_test false z = inr (eqb-false k 0 z, refl)

pub parsed-packet : (t s largest : ℕ) (d : List ℕ) (p : RtpPacket) → parsed t s largest d ≡ Ok p → (datagram_refusal t s largest d ≡ 0) × (p ≡ packet_of d)
unfolding parsed
parsed-packet t s largest d p e =
    ⊎_elim (λ h. (h.0, cc)) (λ h. absurd (cc)) (told (Ok (packet_of d)) Err (datagram_refusal t s largest d))

pub parsed-refused : (t s largest k : ℕ) (d : List ℕ) → parsed t s largest d ≡ Err k → (datagram_refusal t s largest d ≡ k) × (k ≡ 0 → ⊥)
unfolding parsed
parsed-refused t s largest k d e =
    ⊎_elim (λ h. absurd (cc)) (λ h. (cc, λ z. h.0 (cc))) (told (Ok (packet_of d)) Err (datagram_refusal t s largest d))

pub original-number : (p : List ℕ) (n : SequenceNumber) → original_of p ≡ Ok n → (original_refusal p ≡ 0) × (n ≡ record { 0 = original_number p })
unfolding original_of
original-number p n e =
    ⊎_elim (λ h. (h.0, cc)) (λ h. absurd (cc)) (told {A = Result SequenceNumber ℕ} (Ok (record { 0 = original_number p })) Err (original_refusal p))

pub original-refused : (p : List ℕ) (k : ℕ) → original_of p ≡ Err k → (original_refusal p ≡ k) × (k ≡ 0 → ⊥)
unfolding original_of
original-refused p k e =
    ⊎_elim (λ h. absurd (cc)) (λ h. (cc, λ z. h.0 (cc))) (told {A = Result SequenceNumber ℕ} (Ok (record { 0 = original_number p })) Err (original_refusal p))
