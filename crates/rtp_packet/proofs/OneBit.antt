-- The one_bit law. A version bit leaves the length, so check 3 sees it; a bit of payload type or SSRC leaves a datagram that is alike, so the
-- checks before 6 and 7 pass again.
use mathlib.Core.Path.{◌≡◌, sym, ◌∙◌}
use mathlib.Core.Bool.{◌&&◌}
use mathlib.Core.List.{List}
use Prim.Native.Nat.{ℕ, ◌≤◌}
use native.Mathlib.Omega.{arith}
use lib.Dec.{eqb, leb}
use Rattle.std.proofs.lemmas.Bool.{eqb-true, leb-true, and_parts}
use Rattle.refusals.specs.Refusals.{VERSION, payload_type, SSRC}
use Rattle.rtp_packet.specs.OneBit.{flip_bit, in_version, in_payload_type, in_ssrc, Refuses, OneBit}
use Rattle.rtp_packet.proofs.BigEndian.{big_endian_differs}
use Rattle.rtp_packet.proofs.Refused.{accepted, wrong_version, wrong_type, wrong_ssrc}
use Rattle.rtp_packet.proofs.Alike.{Alike, same_whole, same_size}
use Rattle.rtp_packet.proofs.Flip.{flipped_differs, flipped-version, flipped_type, flip_length, flip_at_lem, flip_other}

-- a bit of the second byte or of the SSRC
alike : (i k : ℕ) (d : List ℕ) → 1 ≤ i → i ≤ 11 → Alike d (flip_bit i k d)
alike i k d lo hi = record {
  same_length = flip_length i k d;
  same_first = flip_other i k 0 d (λ e. omega arith);
  same_rest = λ j h. flip_other i k j d (λ e. omega arith);
}

of_version : Refuses in_version VERSION
unfolding in_version
of_version t s m d e i k g =
    let w = (accepted t s m d e).whole in
    let at_i = and_parts (eqb i 0) (leb 6 k) (and_parts (eqb i 0 && leb 6 k) (leb k 7) g).0 in
    let zeroth : i ≡ 0 = eqb-true i 0 at_i.0 in
    let high : 6 ≤ k = leb-true 6 k at_i.1 in
    rw zeroth
    (wrong_version t s m (flip_bit 0 k d) (rw (flip_length 0 k d) w.fixed_part)
    (λ v. flipped-version 0 k d high w.is-version_2 (rw (flip_at_lem 0 k d (omega arith)) at v)))

of_type : Refuses in_payload_type payload_type
unfolding in_payload_type
of_type t s m d e i k g =
    let a = accepted t s m d e in
    let w = a.whole in
    let first : i ≡ 1 = eqb-true i 1 (and_parts (eqb i 1) (leb k 6) g).0 in
    let low : k ≤ 6 = leb-true k 6 (and_parts (eqb i 1) (leb k 6) g).1 in
    let like = alike 1 k d (omega arith) (omega arith) in
    rw first
    (wrong_type t s m (flip_bit 1 k d) (same_whole d (flip_bit 1 k d) like w) (rw (same_size d (flip_bit 1 k d) like w.right_padding) a.payload-fits)
    (λ p. flipped_type 1 k d low (rw (flip_at_lem 1 k d (omega arith)) at p ∙ sym a.right_type)))

of_ssrc : Refuses in_ssrc SSRC
unfolding in_ssrc
of_ssrc t s m d e i k g =
    let a = accepted t s m d e in
    let w = a.whole in
    let at_i = and_parts (leb 8 i) (leb i 11) (and_parts (leb 8 i && leb i 11) (leb k 7) g).0 in
    let lo : 8 ≤ i = leb-true 8 i at_i.0 in
    let hi : i ≤ 11 = leb-true i 11 at_i.1 in
    let like = alike i k d (omega arith) hi in
    wrong_ssrc t s m (flip_bit i k d) (same_whole d (flip_bit i k d) like w) (rw (same_size d (flip_bit i k d) like w.right_padding) a.payload-fits)
    (rw (flip_other i k 1 d (λ q. omega arith)) a.right_type)
    (λ p. big_endian_differs 4 8 i (flip_bit i k d) d lo (omega arith) (λ j n. flip_other i k j d n)
    (λ q. flipped_differs i k d (sym (flip_at_lem i k d (omega arith)) ∙ q)) (p ∙ sym a.right_ssrc))

pub one_bit : OneBit
one_bit = (of_version, (of_type, of_ssrc))
