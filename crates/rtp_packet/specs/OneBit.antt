-- The one-bit law: of a datagram that a session accepts, one changed bit among version, payload type and SSRC makes it refused.
use Rattle.std.specs.Prelude.{◌≡◌, Bool, true, cond, ◌&&◌, List, ℕ, ◌+◌, ◌-◌, ◌^◌, eqb, leb, set}
use Rattle.refusals.specs.Refusals.{VERSION, payload_type, SSRC}
use Rattle.rtp_packet.specs.Header.{byte, bit}
use Rattle.rtp_packet.specs.Datagram.{datagram_refusal}

-- byte i of a datagram with its bit of weight 2^k changed, and the datagram with that byte
unfoldable pub flipped : ℕ → ℕ → List ℕ → ℕ
flipped i k d = cond (bit i k d) (byte d i - 2 ^ k) (byte d i + 2 ^ k)

unfoldable pub flip_bit : ℕ → ℕ → List ℕ → List ℕ
flip_bit i k d = set d i (flipped i k d)

-- the bits of version, payload type and SSRC
unfoldable pub in_version : ℕ → ℕ → Bool
in_version i k = eqb i 0 && leb 6 k && leb k 7

unfoldable pub in_payload_type : ℕ → ℕ → Bool
in_payload_type i k = eqb i 1 && leb k 6

unfoldable pub in_ssrc : ℕ → ℕ → Bool
in_ssrc i k = leb 8 i && leb i 11 && leb k 7

-- the law for one group of bits and the number that it is refused under
abbrev pub Refuses : (ℕ → ℕ → Bool) → ℕ → Type 0
Refuses group number =
    (expected_type expected_ssrc most_bytes : ℕ) (d : List ℕ) → datagram_refusal expected_type expected_ssrc most_bytes d ≡ 0
    → (i k : ℕ) → group i k ≡ true → datagram_refusal expected_type expected_ssrc most_bytes (flip_bit i k d) ≡ number

abbrev pub OneBit : Type 0
OneBit = Refuses in_version VERSION × (Refuses in_payload_type payload_type × Refuses in_ssrc SSRC)
