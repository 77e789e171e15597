-- Where the payload lies: between the header and the padding, where neither runs past the end.
use mathlib.Core.Path.{◌≡◌, refl}
use mathlib.Core.Bool.{Bool, true, false, cond, ◌&&◌, ◌||◌}
use mathlib.Core.List.{List, [], ◌∷◌}
use Prim.Native.Nat.{ℕ, ◌-◌, ◌≤◌, ◌<◌}
use native.Mathlib.Omega.{arith}
use lib.Dec.{eqb, leb, ltb}
use lib.ListN.{length, length-take, length-drop}
use Rattle.std.proofs.lemmas.Bool.{ltb-false, or_parts}
use Rattle.rtp_packet.specs.Header.{bit, padding, header_length, padding_length, payload_end, between, payload_of}
use Rattle.rtp_packet.specs.Datagram.{wrong_padding, datagram_refusal, packet_of}
use Rattle.rtp_packet.specs.Original.{original_payload}
use Rattle.rtp_packet.proofs.Refused.{accepted}

-- ---- a part of a list

pub between_none : (start end : ℕ) (d : List ℕ) → end ≤ start → between start end d ≡ []
between_none start end d h =
    let e : end - start ≡ 0 = omega arith in
    rw e

-- a datagram with the padding bit has a last byte
pub not_empty : (d : List ℕ) → padding d ≡ true → 0 < length d
unfolding bit
not_empty [] h = let z : ◌≡◌ {A = ℕ} 0 1 = cc in absurd (omega arith)
not_empty (b ∷ d) h = omega arith

-- ---- the payload

pub payload_of-packet : (d : List ℕ) → between (packet_of d).start (packet_of d).end d ≡ payload_of d
unfolding packet_of payload_of
payload_of-packet d = refl

pub length-payload : (d : List ℕ) → length (payload_of d) ≡ payload_end d - header_length d
unfolding payload_of payload_end
length-payload d = simp (length-take, length-drop) (omega arith)

-- a datagram that holds its header, and its padding after it
pub padding-fits : (d : List ℕ) → header_length d ≤ length d → wrong_padding d ≡ false → header_length d ≤ payload_end d
unfolding wrong_padding payload_end padding_length
padding-fits d h = by_bit (padding d) _ (length d) (header_length d) h
  where
    by_bit : (p : Bool) (n l h : ℕ) → h ≤ l → (p && (leb l h || eqb (cond p n 0) 0 || ltb (l - h) (cond p n 0))) ≡ false → h ≤ l - cond p n 0
    by_bit true n l h le e = omega (arith, ltb-false (l - h) n (or_parts (leb l h || eqb n 0) (ltb (l - h) n) e).1)
    by_bit false n l h le e = omega arith

-- the payload of a datagram that was accepted for payloads of so many bytes
pub payload-fits : (t s largest : ℕ) (d : List ℕ) → datagram_refusal t s largest d ≡ 0 → length (payload_of d) ≤ largest
payload-fits t s largest d e = (accepted t s largest d e).payload-fits

-- what a repair's payload leaves of it
pub length-original : (p : List ℕ) → length (original_payload p) ≡ length p - 2
unfolding original_payload
length-original p = length-drop 2 p

-- what the check of `check_datagram` needs
pub ruleset sized = (length-payload, padding-fits)
