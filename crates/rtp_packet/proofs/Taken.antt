-- A datagram that the checks 2 to 4 pass is the layout of what is read of it: put together from the left, each part is what stands between two places.
use mathlib.Core.Path.{◌≡◌, refl, sym, ap, ◌∙◌}
use mathlib.Core.Bool.{Bool, true, false, cond, ◌||◌}
use mathlib.Core.List.{List, [], ◌∷◌, ◌++◌}
use Prim.Native.Nat.{ℕ, suc, ◌+◌, ◌-◌, ◌*◌, ◌/◌, ◌%◌, ◌^◌, ◌≤◌, ◌<◌}
use native.Mathlib.Omega.{arith}
use lib.Dec.{eqb, leb, ltb}
use lib.ListN.{length, take, drop, length-take, length-drop, drop_of_length-le}
use lib.Seq.{drop-cons, drop-length, drop-drop, take-add}
use Rattle.std.proofs.lemmas.Bool.{eqb-true, eqb-false, ltb-false, or_parts}
use Rattle.rtp_packet.specs.Header.{byte, bit, big_endian, padding, extension, csrc_count, extension_start, extension_length, header_length, padding_length, payload_end, between, payload_of}
use Rattle.rtp_packet.specs.Datagram.{wrong_padding}
use Rattle.rtp_packet.specs.Layout.{no_extension, extended, no_padding, padded, Fits, ExtensionFits, PaddingFits, EachBelow, extension_bit, padding_bit, weight, bytes_of, word_bytes, first_byte, second_byte, extension_bytes, padding_bytes, rest_of, laid_out_of, words_at, extension_of, padding_of, fields_of}
use Rattle.rtp_packet.proofs.Bytes.{bytes-at, words-at, words-below, length-words_at, joined}
use Rattle.rtp_packet.proofs.BigEndian.{big_endian-lt}
use Rattle.rtp_packet.proofs.Bounds.{padding-fits}
use Rattle.rtp_packet.proofs.Refused.{Whole}

-- a bit that is read weighs what it weighed
weight_of : (n : ℕ) → n < 2 → weight (eqb n 1) ≡ n
unfolding weight
weight_of n small = by_test (eqb n 1) refl
  where
    by_test : (t : Bool) → eqb n 1 ≡ t → cond t 1 0 ≡ n
    by_test true e = sym (eqb-true n 1 e)
    by_test false e =
        let other : n ≡ 1 → ⊥ = eqb-false n 1 e in
        omega arith

bit_of_extension : (b : Bool) (p : ℕ) (ws : List ℕ) → extension_bit (cond b (extended p ws) no_extension) ≡ b
unfolding extension_bit
bit_of_extension true p ws = refl
bit_of_extension false p ws = refl

bit_of_padding : (b : Bool) (l : List ℕ) → padding_bit (cond b (padded l) no_padding) ≡ b
unfolding padding_bit
bit_of_padding true l = refl
bit_of_padding false l = refl

-- the extension at i, of n words
extension_part : (t : Bool) (i n : ℕ) (d : List ℕ) → EachBelow 256 d → n ≡ big_endian 2 (i + 2) d → i + cond t (4 + 4 * n) 0 ≤ length d
    → extension_bytes (cond t (extended (big_endian 2 i d) (words_at n (i + 4) d)) no_extension) ≡ take (cond t (4 + 4 * n) 0) (drop i d)
unfolding extension_bytes
extension_part false i n d small is room = refl
extension_part true i n d small is room =
    let size : 4 + 4 * n ≡ 2 + (2 + 4 * n) = omega arith in
    let on : i + 2 + 2 ≡ i + 4 = omega arith in
    let one : bytes_of 2 (big_endian 2 i d) ≡ take 2 (drop i d) = bytes-at 2 i d small (omega arith) in
    let two : bytes_of 2 (length (words_at n (i + 4) d)) ≡ take 2 (drop (i + 2) d) = rw (length-words_at n (i + 4) d, is) (bytes-at 2 (i + 2) d small (omega arith)) in
    let words : word_bytes (words_at n (i + 4) d) ≡ take (4 * n) (drop (i + 4) d) = words-at n (i + 4) d small (omega arith) in
    let whole : take (4 + 4 * n) (drop i d) ≡ take 2 (drop i d) ++ (take 2 (drop (i + 2) d) ++ take (4 * n) (drop (i + 4) d)) =
    rw (size, take-add 2 (2 + 4 * n) (drop i d), drop-drop 2 i d, take-add 2 (4 * n) (drop (i + 2) d), drop-drop 2 (i + 2) d, on) in
    rw (one, two, words) (sym whole)

extension-within : (t : Bool) (i n : ℕ) (d : List ℕ) → EachBelow 256 d → n < 2 ^ 16
    → ExtensionFits (cond t (extended (big_endian 2 i d) (words_at n (i + 4) d)) no_extension)
unfolding ExtensionFits
extension-within false i n d small n-small = tt
extension-within true i n d small n-small = (big_endian-lt 2 i d small, rw (length-words_at n (i + 4) d) n-small, words-below n (i + 4) d small)

-- the padding, of which the last byte is the count c: from l - c on
padding_part : (t : Bool) (l c : ℕ) (d : List ℕ) → length d ≡ l → (t ≡ true → (1 ≤ c) × (c ≤ l) × (byte d (l - 1) ≡ c)) → (t ≡ false → c ≡ 0)
    → padding_bytes (cond t (padded (between (l - c) (l - 1) d)) no_padding) ≡ drop (l - c) d
unfolding padding_bytes
padding_part false l c d is has hasnt =
    let z : l - c ≡ length d = omega (arith, hasnt refl) in
    rw z (sym (drop-length d))
padding_part true l c d is has hasnt =
    let some : 1 ≤ c = (has refl).0 in
    let room : c ≤ l = (has refl).1 in
    let octets : length (between (l - c) (l - 1) d) ≡ c - 1 = simp (length-take, length-drop) (omega arith) in
    let count : length (between (l - c) (l - 1) d) + 1 ≡ byte d (l - 1) = rw octets (omega (arith, (has refl).2)) in
    let last : drop (l - 1) d ≡ byte d (l - 1) ∷ [] = drop-cons d (l - 1) 0 (omega arith) ∙ ap (λ (r : List ℕ). byte d (l - 1) ∷ r) (none (suc (l - 1)) (omega arith)) in
    rw (count, ← last) (joined ((l - 1) - (l - c)) (l - c) (l - 1) d (omega arith))
  where
    none : (n : ℕ) → length d ≤ n → drop n d ≡ []
    none n h = drop_of_length-le d h

module _ (d : List ℕ) (small : EachBelow 256 d) (whole : Whole d) where
  -- ---- the two bytes of bits
  first-is : first_byte (fields_of d) ≡ byte d 0
  unfolding first_byte fields_of padding_of extension_of bit
  first-is =
      let b : byte d 0 < 256 = small 0 in
      let p : weight (eqb (byte d 0 / 2 ^ 5 % 2) 1) ≡ byte d 0 / 2 ^ 5 % 2 = weight_of (byte d 0 / 2 ^ 5 % 2) (omega arith) in
      let x : weight (eqb (byte d 0 / 2 ^ 4 % 2) 1) ≡ byte d 0 / 2 ^ 4 % 2 = weight_of (byte d 0 / 2 ^ 4 % 2) (omega arith) in
      rw (bit_of_padding (padding d) (between (payload_end d) (length d - 1) d), bit_of_extension (extension d) _ _, p, x, length-words_at (csrc_count d) 12 d) (omega arith)

  second_is : second_byte (fields_of d) ≡ byte d 1
  unfolding second_byte fields_of bit
  second_is =
      let b : byte d 1 < 256 = small 1 in
      let m : weight (eqb (byte d 1 / 2 ^ 7 % 2) 1) ≡ byte d 1 / 2 ^ 7 % 2 = weight_of (byte d 1 / 2 ^ 7 % 2) (omega arith) in
      rw m (omega arith)

  -- ---- where the parts stand
  header-parts : header_length d ≡ extension_start d + extension_length d
  unfolding header_length
  header-parts = refl

  start_is : extension_start d ≡ 12 + 4 * csrc_count d
  unfolding extension_start
  start_is = refl

  extension-is : extension_bytes (extension_of d) ≡ take (extension_length d) (drop (extension_start d) d)
  unfolding extension_of extension_length header_length
  extension-is = extension_part (extension d) (extension_start d) _ d small refl whole.header-fits

  -- a padding that the check passes
  counted : padding d ≡ true → (1 ≤ padding_length d) × (padding_length d ≤ length d) × (byte d (length d - 1) ≡ padding_length d)
  unfolding wrong_padding padding_length
  counted p =
      let t : (leb (length d) (header_length d) || eqb (byte d (length d - 1)) 0 || ltb (length d - header_length d) (byte d (length d - 1))) ≡ false =
      rw p at whole.right_padding in
      rw p (counts (leb (length d) (header_length d)) (length d) (header_length d) (byte d (length d - 1)) t)
    where
      counts : (a : Bool) (l h c : ℕ) → (a || eqb c 0 || ltb (l - h) c) ≡ false → (1 ≤ c) × (c ≤ l) × (c ≡ c)
      counts a l h c e =
          let p = or_parts (a || eqb c 0) (ltb (l - h) c) e in
          let some : c ≡ 0 → ⊥ = eqb-false c 0 (or_parts a (eqb c 0) p.0).1 in
          let most : c ≤ l - h = ltb-false (l - h) c p.1 in
          (omega arith, omega arith, refl)

  uncounted : padding d ≡ false → padding_length d ≡ 0
  unfolding padding_length
  uncounted p = rw p

  end_is : payload_end d ≡ length d - padding_length d
  unfolding payload_end
  end_is = refl

  padding-is : padding_bytes (padding_of d) ≡ drop (payload_end d) d
  unfolding padding_of
  padding-is = rw end_is (padding_part (padding d) (length d) (padding_length d) d refl counted uncounted)

  payload-before : header_length d ≤ payload_end d
  payload-before = padding-fits d whole.header-fits whole.right_padding

  -- ---- from the right: payload and padding; the extension; the CSRCs
  rest-is : rest_of (fields_of d) ≡ drop 12 d
  unfolding rest_of fields_of payload_of
  rest-is =
      let csrcs : word_bytes (words_at (csrc_count d) 12 d) ≡ take (4 * csrc_count d) (drop 12 d) =
      words-at (csrc_count d) 12 d small (omega (arith, header-parts, start_is, whole.header-fits)) in
      rw (
        csrcs,
        extension-is,
        padding-is,
        joined (payload_end d - header_length d) (header_length d) (payload_end d) d (omega (arith, payload-before)),
        joined (extension_length d) (extension_start d) (header_length d) d (sym header-parts),
        joined (4 * csrc_count d) 12 (extension_start d) d (sym start_is),
      )

  pub laid_out : laid_out_of (fields_of d) ≡ d
  unfolding laid_out_of fields_of
  laid_out =
      let long : 12 ≤ length d = whole.fixed_part in
      let number : bytes_of 2 (big_endian 2 2 d) ≡ take 2 (drop 2 d) = bytes-at 2 2 d small (omega arith) in
      let time : bytes_of 4 (big_endian 4 4 d) ≡ take 4 (drop 4 d) = bytes-at 4 4 d small (omega arith) in
      let sender : bytes_of 4 (big_endian 4 8 d) ≡ take 4 (drop 8 d) = bytes-at 4 8 d small (omega arith) in
      rw (first-is, second_is, number, time, sender, rest-is, joined 4 8 12 d refl, joined 4 4 8 d refl, joined 2 2 4 d refl)
      (ap (λ (l : List ℕ). byte d 0 ∷ l) (sym (drop-cons d 1 0 (omega arith))) ∙ sym (drop-cons d 0 0 (omega arith)))

  -- ---- and what is read has room
  padding-within : (t : Bool) (l c : ℕ) → length d ≡ l → (t ≡ true → (c < 256) × (c ≤ l)) → PaddingFits (cond t (padded (between (l - c) (l - 1) d)) no_padding)
  unfolding PaddingFits
  padding-within false l c is has = tt
  padding-within true l c is has = simp (length-take, length-drop) (omega (arith, (has refl).0, (has refl).1))

  pub within : Fits (fields_of d)
  unfolding fields_of padding_of extension_of
  within = record {
    of_version = omega (arith, small 0);
    of_padding = rw end_is (padding-within (padding d) (length d) (padding_length d) refl (λ p. (omega (arith, (counted p).2, small (length d - 1)), (counted p).1)));
    of_extension = extension-within (extension d) (extension_start d) _ d small (big_endian-lt 2 (extension_start d + 2) d small);
    of_count = rw (length-words_at (csrc_count d) 12 d) (omega arith);
    of_csrcs = words-below (csrc_count d) 12 d small;
    of_type = omega arith;
    of_number = big_endian-lt 2 2 d small;
    of_timestamp = big_endian-lt 4 4 d small;
    of_ssrc = big_endian-lt 4 8 d small;
  }
