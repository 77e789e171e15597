-- Datagrams that differ in the second byte, the number, the timestamp or the SSRC alone: no check before that of the payload type tells them apart,
-- since those read the first byte and what stands after the twelfth.
use mathlib.Core.Path.{◌≡◌, refl}
use mathlib.Core.Bool.{Bool, true, false, cond}
use mathlib.Core.List.{List}
use Prim.Native.Nat.{ℕ, ◌+◌, ◌-◌, ◌≤◌, ◌<◌}
use native.Mathlib.Omega.{arith}
use lib.ListN.{length}
use Rattle.std.proofs.lemmas.Bool.{leb-false, or_parts}
use Rattle.rtp_packet.specs.Header.{byte, bit, big_endian, padding, extension_start, extension_length, header_length, padding_length, payload_end, payload_of}
use Rattle.rtp_packet.specs.Datagram.{wrong_padding}
use Rattle.rtp_packet.proofs.BigEndian.{big_endian-same}
use Rattle.rtp_packet.proofs.Bounds.{length-payload}
use Rattle.rtp_packet.proofs.Refused.{Whole}

pub record Alike (d e : List ℕ) : Type 0 where
  pub same_length : length e ≡ length d
  pub same_first : byte e 0 ≡ byte d 0
  pub same_rest : (j : ℕ) → 12 ≤ j → byte e j ≡ byte d j

start_ge : (d : List ℕ) → 12 ≤ extension_start d
unfolding extension_start
start_ge d = omega arith

header_ge : (d : List ℕ) → 12 ≤ header_length d
unfolding header_length
header_ge d = omega (arith, start_ge d)

-- a padding that the check passes ends with a byte after the header
padded_past : (d : List ℕ) → padding d ≡ true → wrong_padding d ≡ false → header_length d < length d
unfolding wrong_padding
padded_past d p w = leb-false _ _ (or_parts _ _ (or_parts _ _ (rw p at w)).0).0

module _ (d e : List ℕ) (a : Alike d e) where
  same_bit : (k : ℕ) → bit 0 k e ≡ bit 0 k d
  unfolding bit
  same_bit k = rw a.same_first

  same_start : extension_start e ≡ extension_start d
  unfolding extension_start
  same_start = rw a.same_first

  same-header : header_length e ≡ header_length d
  unfolding header_length extension_length
  same-header =
      let words : big_endian 2 (extension_start d + 2) e ≡ big_endian 2 (extension_start d + 2) d =
      big_endian-same 2 (extension_start d + 2) e d (λ j lo hi. a.same_rest j (omega (arith, start_ge d))) in
      rw (same_start, same_bit 4, words)

  same_count : wrong_padding d ≡ false → padding_length e ≡ padding_length d
  unfolding padding_length
  same_count w = rw (same_bit 5, a.same_length) (by_bit (padding d) refl)
    where
      by_bit : (t : Bool) → padding d ≡ t → cond t (byte e (length d - 1)) 0 ≡ cond t (byte d (length d - 1)) 0
      by_bit true p = a.same_rest (length d - 1) (omega (arith, header_ge d, padded_past d p w))
      by_bit false p = refl

  same_end : wrong_padding d ≡ false → payload_end e ≡ payload_end d
  unfolding payload_end
  same_end w = rw (same_count w, a.same_length)

  pub same_size : wrong_padding d ≡ false → length (payload_of e) ≡ length (payload_of d)
  same_size w = rw (length-payload e, length-payload d, same_end w, same-header)

  same-padding : wrong_padding d ≡ false → wrong_padding e ≡ false
  unfolding wrong_padding
  same-padding w = rw (same_bit 5, a.same_length, same-header, same_count w) w

  pub same_whole : Whole d → Whole e
  same_whole w = record {
    fixed_part = rw a.same_length w.fixed_part;
    is-version_2 = rw a.same_first w.is-version_2;
    header-fits = rw (a.same_length, same-header) w.header-fits;
    right_padding = same-padding w.right_padding;
  }
