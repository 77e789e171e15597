-- RFC 3550, section 5.1, and RFC 4588, section 4, from the other side: the bytes that a writer of the picture (Header.antt) puts down for given
-- fields, from left to right, and the laws that tie the reader to it.
use Rattle.std.specs.Prelude.{◌≡◌, Bool, true, false, cond, List, [], ◌∷◌, ◌++◌, ℕ, zero, suc, ◌+◌, ◌-◌, ◌*◌, ◌/◌, ◌%◌, ◌≤◌, ◌<◌, ◌^◌, length}
use Rattle.rtp_packet.specs.Header.{byte, big_endian, version, padding, extension, csrc_count, marker, payload_type_of, sequence_number, timestamp, ssrc, extension_start, payload_end, between, payload_of}
use Rattle.rtp_packet.specs.Datagram.{datagram_refusal}
use Rattle.rtp_packet.specs.Original.{original_refusal, original_number, original_payload}

-- ---- what a packet says

-- section 5.3.1: none, or 16 bits "defined by profile" and 32-bit words
pub data Extension : Type 0 where
  no_extension : Extension
  extended : ℕ → List ℕ → Extension

-- none, or so many octets before the last, which counts itself
pub data Padding : Type 0 where
  no_padding : Padding
  padded : List ℕ → Padding

pub record Fields : Type 0 where
  pub version : ℕ
  pub padding : Padding
  pub extension : Extension
  pub csrcs : List ℕ
  pub marker : Bool
  pub payload_type_of : ℕ
  pub sequence_number : ℕ
  pub timestamp : ℕ
  pub ssrc : ℕ
  pub payload : List ℕ

unfoldable pub extension_bit : Extension → Bool
extension_bit no_extension = false
extension_bit (extended profile words) = true

unfoldable pub padding_bit : Padding → Bool
padding_bit no_padding = false
padding_bit (padded octets) = true

-- ---- the writer

-- a field of one bit
unfoldable pub weight : Bool → ℕ
weight b = cond b 1 0

-- the number x in n bytes, the most significant first
unfoldable pub bytes_of : ℕ → ℕ → List ℕ
bytes_of zero x = []
bytes_of (suc n) x = bytes_of n (x / 256) ++ (x % 256 ∷ [])

-- 32 bits to a word
unfoldable pub word_bytes : List ℕ → List ℕ
word_bytes [] = []
word_bytes (w ∷ ws) = bytes_of 4 w ++ word_bytes ws

-- |V=2|P|X|  CC   |
unfoldable pub first_byte : Fields → ℕ
first_byte f = ((f.version * 2 + weight (padding_bit f.padding)) * 2 + weight (extension_bit f.extension)) * 16 + length f.csrcs

-- |M|     PT      |
unfoldable pub second_byte : Fields → ℕ
second_byte f = weight f.marker * 128 + f.payload_type_of

-- |      defined by profile       |           length              |        header extension ..
unfoldable pub extension_bytes : Extension → List ℕ
extension_bytes no_extension = []
extension_bytes (extended profile words) = bytes_of 2 profile ++ (bytes_of 2 (length words) ++ word_bytes words)

unfoldable pub padding_bytes : Padding → List ℕ
padding_bytes no_padding = []
padding_bytes (padded octets) = octets ++ ((length octets + 1) ∷ [])

-- what stands after the twelve bytes that every packet has
unfoldable pub rest_of : Fields → List ℕ
rest_of f = word_bytes f.csrcs ++ (extension_bytes f.extension ++ (f.payload ++ padding_bytes f.padding))

unfoldable pub laid_out_of : Fields → List ℕ
laid_out_of f = first_byte f ∷ second_byte f ∷ (bytes_of 2 f.sequence_number ++ (bytes_of 4 f.timestamp ++ (bytes_of 4 f.ssrc ++ rest_of f)))

-- ---- fields that the picture has room for

abbrev pub EachBelow : ℕ → List ℕ → Type 0
EachBelow bound l = (i : ℕ) → byte l i < bound

unfoldable pub ExtensionFits : Extension → Type 0
ExtensionFits no_extension = Unit {0}
ExtensionFits (extended profile words) = (profile < 2 ^ 16) × (length words < 2 ^ 16) × EachBelow (2 ^ 32) words

-- the count is a byte
unfoldable pub PaddingFits : Padding → Type 0
PaddingFits no_padding = Unit {0}
PaddingFits (padded octets) = length octets < 255

pub record Fits (f : Fields) : Type 0 where
  pub of_version : f.version < 4
  pub of_padding : PaddingFits f.padding
  pub of_extension : ExtensionFits f.extension
  pub of_count : length f.csrcs < 16
  pub of_csrcs : EachBelow (2 ^ 32) f.csrcs
  pub of_type : f.payload_type_of < 128
  pub of_number : f.sequence_number < 2 ^ 16
  pub of_timestamp : f.timestamp < 2 ^ 32
  pub of_ssrc : f.ssrc < 2 ^ 32

-- ---- the reader, field by field: the definitions that `parse` and `payload` are proved to equal, and what they step over

-- n words from byte i on
unfoldable pub words_at : ℕ → ℕ → List ℕ → List ℕ
words_at zero i d = []
words_at (suc n) i d = big_endian 4 i d ∷ words_at n (i + 4) d

unfoldable pub extension_of : List ℕ → Extension
extension_of d =
    cond (extension d)
    (extended (big_endian 2 (extension_start d) d) (words_at (big_endian 2 (extension_start d + 2) d) (extension_start d + 4) d))
    no_extension

unfoldable pub padding_of : List ℕ → Padding
padding_of d = cond (padding d) (padded (between (payload_end d) (length d - 1) d)) no_padding

unfoldable pub fields_of : List ℕ → Fields
fields_of d = record {
  version = version d;
  padding = padding_of d;
  extension = extension_of d;
  csrcs = words_at (csrc_count d) 12 d;
  marker = marker d;
  payload_type_of = payload_type_of d;
  sequence_number = sequence_number d;
  timestamp = timestamp d;
  ssrc = ssrc d;
  payload = payload_of d;
}

-- ---- the laws

-- Reader and writer are each other's inverse, and the checks 2 to 4 pass just what the writer makes with version 2.
pub record HeaderLayout : Type 0 where
  pub reads_back : (f : Fields) → Fits f → fields_of (laid_out_of f) ≡ f
  pub passes : (f : Fields) → Fits f → f.version ≡ 2
      → (most_bytes : ℕ) → length f.payload ≤ most_bytes → datagram_refusal f.payload_type_of f.ssrc most_bytes (laid_out_of f) ≡ 0
  pub every_accepted : (expected_type expected_ssrc most_bytes : ℕ) (d : List ℕ) → EachBelow 256 d
      → datagram_refusal expected_type expected_ssrc most_bytes d ≡ 0 → (laid_out_of (fields_of d) ≡ d) × Fits (fields_of d)

-- RFC 4588: the original sequence number (OSN), then the original payload
unfoldable pub repair_of : ℕ → List ℕ → List ℕ
repair_of number payload = bytes_of 2 number ++ payload

pub record RepairLayout : Type 0 where
  pub number_back : (n : ℕ) (p : List ℕ) → n < 2 ^ 16 → original_number (repair_of n p) ≡ n
  pub payload_back : (n : ℕ) (p : List ℕ) → original_payload (repair_of n p) ≡ p
  pub passes : (n : ℕ) (p : List ℕ) → original_refusal (repair_of n p) ≡ 0
  pub every_accepted : (q : List ℕ) → EachBelow 256 q → original_refusal q ≡ 0 → repair_of (original_number q) (original_payload q) ≡ q
