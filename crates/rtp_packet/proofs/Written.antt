-- Reader and writer of the picture undo each other. Written fields read back since each stands where the picture has it: the list is taken apart
-- at that place. An accepted datagram is put together again from the left: each part is what stands between two places.
use mathlib.Core.Path.{◌≡◌, refl, sym, ap, ◌∙◌}
use mathlib.Core.Bool.{Bool, true, false, cond, ◌&&◌, ◌||◌}
use mathlib.Core.List.{List, [], ◌∷◌, ◌++◌, append_assoc}
use Prim.Native.Nat.{ℕ, ◌+◌, ◌-◌, ◌*◌, ◌/◌, ◌%◌, ◌^◌, ◌≤◌}
use native.Mathlib.Omega.{arith}
use lib.Dec.{eqb, leb, ltb}
use lib.ListN.{length, take, drop, length-append}
use lib.Seq.{take_at, drop_at, get_or_at}
use borrow.Author.Tests.{lt-leb, le-ltb, ne_eqb}
use Rattle.rtp_packet.specs.Header.{byte, bit, big_endian, version, padding, extension, csrc_count, marker, payload_type_of, sequence_number, timestamp, ssrc, extension_start, extension_length, header_length, padding_length, payload_end, between, payload_of}
use Rattle.rtp_packet.specs.Datagram.{wrong_padding, datagram_refusal}
use Rattle.rtp_packet.specs.Layout.{Fields, Extension, Padding, no_extension, extended, no_padding, padded, Fits, ExtensionFits, PaddingFits, extension_bit, padding_bit, weight, bytes_of, word_bytes, first_byte, second_byte, extension_bytes, padding_bytes, rest_of, laid_out_of, words_at, extension_of, padding_of, fields_of}
use Rattle.rtp_packet.proofs.Refused.{not-refused}
use Rattle.rtp_packet.proofs.Bytes.{length-bytes_of, number_at, words_back, length-word_bytes}

-- ---- the two bytes of bits

weight-le : (b : Bool) → weight b ≤ 1
unfolding weight
weight-le true = omega arith
weight-le false = omega arith

is_set : (b : Bool) → eqb (weight b) 1 ≡ b
unfolding weight
is_set true = refl
is_set false = refl

module _ (f : Fields) (fits : Fits f) where
  abbrev d : List ℕ
  d = laid_out_of f

  -- V, P, X, CC out of the first byte
  version-back : version d ≡ f.version
  unfolding laid_out_of first_byte
  version-back = omega (arith, fits.of_count, weight-le (padding_bit f.padding), weight-le (extension_bit f.extension))

  padding-back : padding d ≡ padding_bit f.padding
  unfolding laid_out_of first_byte bit
  padding-back =
      let p : byte d 0 / 2 ^ 5 % 2 ≡ weight (padding_bit f.padding) =
      omega (arith, fits.of_count, weight-le (padding_bit f.padding), weight-le (extension_bit f.extension)) in
      ap (λ (n : ℕ). eqb n 1) p ∙ is_set (padding_bit f.padding)

  extension-back : extension d ≡ extension_bit f.extension
  unfolding laid_out_of first_byte bit
  extension-back =
      let x : byte d 0 / 2 ^ 4 % 2 ≡ weight (extension_bit f.extension) =
      omega (arith, fits.of_count, weight-le (padding_bit f.padding), weight-le (extension_bit f.extension)) in
      ap (λ (n : ℕ). eqb n 1) x ∙ is_set (extension_bit f.extension)

  count-back : csrc_count d ≡ length f.csrcs
  unfolding laid_out_of first_byte
  count-back = omega (arith, fits.of_count)

  marker-back : marker d ≡ f.marker
  unfolding laid_out_of second_byte bit
  marker-back =
      let m : byte d 1 / 2 ^ 7 % 2 ≡ weight f.marker = omega (arith, fits.of_type, weight-le f.marker) in
      ap (λ (n : ℕ). eqb n 1) m ∙ is_set f.marker

  type_back : payload_type_of d ≡ f.payload_type_of
  unfolding laid_out_of second_byte
  type_back = omega (arith, fits.of_type)

  -- ---- the whole words
  number_back : sequence_number d ≡ f.sequence_number
  unfolding laid_out_of
  number_back = number_at 2 f.sequence_number (first_byte f ∷ second_byte f ∷ []) _ 2 refl fits.of_number

  timestamp-back : timestamp d ≡ f.timestamp
  unfolding laid_out_of bytes_of
  timestamp-back = number_at 4 f.timestamp (first_byte f ∷ second_byte f ∷ bytes_of 2 f.sequence_number) _ 4 refl fits.of_timestamp

  ssrc-back : ssrc d ≡ f.ssrc
  unfolding laid_out_of bytes_of
  ssrc-back = number_at 4 f.ssrc (first_byte f ∷ second_byte f ∷ (bytes_of 2 f.sequence_number ++ bytes_of 4 f.timestamp)) _ 8 refl fits.of_ssrc

-- ---- the extension: written after a, whose length is i, and before b
module _ (a b : List ℕ) (i : ℕ) (here : length a ≡ i) where
  abbrev around : Extension → List ℕ
  around x = a ++ (extension_bytes x ++ b)

  abbrev words_in : Extension → ℕ
  words_in x = big_endian 2 (i + 2) (around x)

  pub extension-at : (x : Extension) → ExtensionFits x
      → cond (extension_bit x) (extended (big_endian 2 i (around x)) (words_at (words_in x) (i + 4) (around x))) no_extension ≡ x
  unfolding extension_bit ExtensionFits extension_bytes
  extension-at no_extension small = refl
  extension-at (extended profile words) small =
      let list : around (extended profile words) ≡ a ++ (bytes_of 2 profile ++ (bytes_of 2 (length words) ++ (word_bytes words ++ b))) = simp append_assoc in
      let list2 : around (extended profile words) ≡ (a ++ bytes_of 2 profile) ++ (bytes_of 2 (length words) ++ (word_bytes words ++ b)) = simp append_assoc in
      let list3 : around (extended profile words) ≡ ((a ++ bytes_of 2 profile) ++ bytes_of 2 (length words)) ++ (word_bytes words ++ b) = simp append_assoc in
      let two : length (a ++ bytes_of 2 profile) ≡ i + 2 = simp (length-append, length-bytes_of) (omega arith) in
      let four : length ((a ++ bytes_of 2 profile) ++ bytes_of 2 (length words)) ≡ i + 4 = simp (length-append, length-bytes_of) (omega arith) in
      let p : big_endian 2 i (around (extended profile words)) ≡ profile = rw list (number_at 2 profile a _ i here small.0) in
      let n : words_in (extended profile words) ≡ length words = rw list2 (number_at 2 (length words) (a ++ bytes_of 2 profile) _ (i + 2) two small.1) in
      let w : words_at (length words) (i + 4) (around (extended profile words)) ≡ words =
      rw list3 (words_back words ((a ++ bytes_of 2 profile) ++ bytes_of 2 (length words)) b (i + 4) four small.2) in
      rw (p, n, w)

  pub extension-size : (x : Extension) → ExtensionFits x → cond (extension_bit x) (4 + 4 * words_in x) 0 ≡ length (extension_bytes x)
  unfolding extension_bit ExtensionFits extension_bytes
  extension-size no_extension small = refl
  extension-size (extended profile words) small =
      let list2 : around (extended profile words) ≡ (a ++ bytes_of 2 profile) ++ (bytes_of 2 (length words) ++ (word_bytes words ++ b)) = simp append_assoc in
      let two : length (a ++ bytes_of 2 profile) ≡ i + 2 = simp (length-append, length-bytes_of) (omega arith) in
      let n : words_in (extended profile words) ≡ length words = rw list2 (number_at 2 (length words) (a ++ bytes_of 2 profile) _ (i + 2) two small.1) in
      rw n (simp (length-append, length-bytes_of, length-word_bytes) (omega arith))

-- ---- payload and padding: written after a header h
module _ (h payload : List ℕ) where
  abbrev ended : Padding → List ℕ
  ended p = h ++ (payload ++ padding_bytes p)

  -- its length, by the last byte
  pub padding-size : (p : Padding) → PaddingFits p → cond (padding_bit p) (byte (ended p) (length (ended p) - 1)) 0 ≡ length (padding_bytes p)
  unfolding padding_bit PaddingFits padding_bytes
  padding-size no_padding small = refl
  padding-size (padded octets) small =
      let list : ended (padded octets) ≡ (h ++ (payload ++ octets)) ++ ((length octets + 1) ∷ []) = simp append_assoc in
      let before : length (h ++ (payload ++ octets)) ≡ length (ended (padded octets)) - 1 = simp length-append (omega arith) in
      let last : byte (ended (padded octets)) (length (ended (padded octets)) - 1) ≡ length octets + 1 =
      ap (λ (l : List ℕ). byte l (length (ended (padded octets)) - 1)) list ∙ get_or_at (h ++ (payload ++ octets)) (length octets + 1) [] 0 (length (ended (padded octets)) - 1) before in
      last ∙ sym (length-append octets ((length octets + 1) ∷ []))

  pub payload-at : (p : Padding) (start end : ℕ) → start ≡ length h → end ≡ length h + length payload → between start end (ended p) ≡ payload
  payload-at p start end s e =
      let size : length payload ≡ end - start = omega arith in
      rw (drop_at h (payload ++ padding_bytes p) start (sym s)) (take_at payload (padding_bytes p) (end - start) size)

  pub padding-at : (p : Padding) (end : ℕ) → end ≡ length h + length payload
      → cond (padding_bit p) (padded (between end (length (ended p) - 1) (ended p))) no_padding ≡ p
  unfolding padding_bit padding_bytes
  padding-at no_padding end e = refl
  padding-at (padded octets) end e =
      let list : ended (padded octets) ≡ (h ++ payload) ++ (octets ++ ((length octets + 1) ∷ [])) = simp append_assoc in
      let before : length (h ++ payload) ≡ end = simp length-append (omega arith) in
      let size : length octets ≡ length (ended (padded octets)) - 1 - end = simp length-append (omega arith) in
      let rest : drop end (ended (padded octets)) ≡ octets ++ ((length octets + 1) ∷ []) = ap (drop end) list ∙ drop_at (h ++ payload) _ end before in
      let part : between end (length (ended (padded octets)) - 1) (ended (padded octets)) ≡ octets =
      ap (take (length (ended (padded octets)) - 1 - end)) rest ∙ take_at octets ((length octets + 1) ∷ []) (length (ended (padded octets)) - 1 - end) size in
      ap padded part

-- ---- all of it
module _ (f : Fields) (fits : Fits f) where
  -- the twelve bytes; all up to the extension; the header
  abbrev head : List ℕ
  head = first_byte f ∷ second_byte f ∷ (bytes_of 2 f.sequence_number ++ (bytes_of 4 f.timestamp ++ bytes_of 4 f.ssrc))

  abbrev upto : List ℕ
  upto = head ++ word_bytes f.csrcs

  abbrev header : List ℕ
  header = upto ++ extension_bytes f.extension

  abbrev w : List ℕ
  w = laid_out_of f

  at-csrcs : w ≡ head ++ (word_bytes f.csrcs ++ (extension_bytes f.extension ++ (f.payload ++ padding_bytes f.padding)))
  unfolding laid_out_of rest_of
  at-csrcs = simp append_assoc

  at-extension : w ≡ upto ++ (extension_bytes f.extension ++ (f.payload ++ padding_bytes f.padding))
  at-extension = at-csrcs ∙ simp append_assoc

  at-payload : w ≡ ended header f.payload f.padding
  at-payload = at-csrcs ∙ simp append_assoc

  head-length : length head ≡ 12
  head-length = simp (length-append, length-bytes_of)

  upto-length : length upto ≡ extension_start w
  unfolding extension_start
  upto-length = rw (count-back f fits) (simp (length-append, length-bytes_of, length-word_bytes) (omega arith))

  csrcs-back : words_at (csrc_count w) 12 w ≡ f.csrcs
  csrcs-back = rw (count-back f fits) (ap (words_at (length f.csrcs) 12) at-csrcs ∙ words_back f.csrcs head _ 12 head-length fits.of_csrcs)

  extension-is : extension_of w ≡ f.extension
  unfolding extension_of
  extension-is =
      let i = extension_start w in
      rw (extension-back f fits)
      (ap (λ (l : List ℕ). cond (extension_bit f.extension) (extended (big_endian 2 i l) (words_at (big_endian 2 (i + 2) l) (i + 4) l)) no_extension) at-extension
      ∙ extension-at upto (f.payload ++ padding_bytes f.padding) i upto-length f.extension fits.of_extension)

  extension-length-is : extension_length w ≡ length (extension_bytes f.extension)
  unfolding extension_length
  extension-length-is =
      let i = extension_start w in
      rw (extension-back f fits)
      (ap (λ (l : List ℕ). cond (extension_bit f.extension) (4 + 4 * big_endian 2 (i + 2) l) 0) at-extension
      ∙ extension-size upto (f.payload ++ padding_bytes f.padding) i upto-length f.extension fits.of_extension)

  header_is : header_length w ≡ length header
  unfolding header_length
  header_is = rw (extension-length-is, ← upto-length) (sym (length-append upto (extension_bytes f.extension)))

  length-is : length w ≡ length header + (length f.payload + length (padding_bytes f.padding))
  length-is = ap length at-payload ∙ simp length-append (omega arith)

  padding-length-is : padding_length w ≡ length (padding_bytes f.padding)
  unfolding padding_length
  padding-length-is =
      rw (padding-back f fits)
      (ap (λ (l : List ℕ). cond (padding_bit f.padding) (byte l (length l - 1)) 0) at-payload
      ∙ padding-size header f.payload f.padding fits.of_padding)

  end_is : payload_end w ≡ length header + length f.payload
  unfolding payload_end
  end_is = rw padding-length-is (omega (arith, length-is))

  payload-is : payload_of w ≡ f.payload
  unfolding payload_of
  payload-is =
      ap (λ (l : List ℕ). between (header_length w) (payload_end w) l) at-payload
      ∙ payload-at header f.payload f.padding (header_length w) (payload_end w) header_is end_is

  padding-is : padding_of w ≡ f.padding
  unfolding padding_of
  padding-is =
      rw (padding-back f fits)
      (ap (λ (l : List ℕ). cond (padding_bit f.padding) (padded (between (payload_end w) (length l - 1) l)) no_padding) at-payload
      ∙ padding-at header f.payload f.padding (payload_end w) end_is)

  pub reads_back : fields_of w ≡ f
  unfolding fields_of
  reads_back = rw (version-back f fits, padding-is, extension-is, csrcs-back, marker-back f fits, type_back f fits, number_back f fits, timestamp-back f fits, ssrc-back f fits, payload-is)

  -- ---- what the checks 2 to 4 find
  right : (p : Padding) (l h n : ℕ) → n ≡ length (padding_bytes p) → h + n ≤ l → (padding_bit p && (leb l h || eqb n 0 || ltb (l - h) n)) ≡ false
  unfolding padding_bit padding_bytes
  right no_padding l h n e room = refl
  right (padded octets) l h n e room =
      let some : 1 ≤ n = omega (arith, e, length-append octets ((length octets + 1) ∷ [])) in
      rw (lt-leb l h (omega arith), ne_eqb n 0 (λ z. omega arith), le-ltb (l - h) n (omega arith))

  right_padding : wrong_padding w ≡ false
  unfolding wrong_padding
  right_padding = rw (padding-back f fits) (right f.padding (length w) (header_length w) (padding_length w) padding-length-is (omega (arith, length-is, header_is, padding-length-is)))

  pub passes : f.version ≡ 2 → (most_bytes : ℕ) → length f.payload ≤ most_bytes → datagram_refusal f.payload_type_of f.ssrc most_bytes w ≡ 0
  passes two most short =
      not-refused f.payload_type_of f.ssrc most w
      (record {
        whole = record {
          fixed_part = omega (arith, length-is, length-append upto (extension_bytes f.extension), length-append head (word_bytes f.csrcs), head-length);
          is-version_2 = version-back f fits ∙ two;
          header-fits = omega (arith, length-is, header_is);
          right_padding = right_padding;
        };
        payload-fits = rw payload-is short;
        right_type = type_back f fits;
        right_ssrc = ssrc-back f fits;
      })
