-- RFC 3550, section 5.1: the fields of an RTP header, with the extension of section 5.3.1, as functions of a datagram's bytes.
--
--      0                   1                   2                   3
--      0 1 2 3 4 5 6 7 8 9 0 1 2 3 4 5 6 7 8 9 0 1 2 3 4 5 6 7 8 9 0 1
--     |V=2|P|X|  CC   |M|     PT      |       sequence number         |
--     |                           timestamp                           |
--     |           synchronization source (SSRC) identifier            |
--     |            contributing source (CSRC) identifiers ..          |
--     |      defined by profile       |           length              |
--     |                        header extension ..                    |
--
-- A byte past the end reads 0. `datagram_refusal` turns back each datagram that ends within its header.
use Rattle.std.specs.Prelude.{Bool, cond, List, ℕ, zero, suc, ◌+◌, ◌-◌, ◌*◌, ◌/◌, ◌%◌, ◌^◌, eqb, length, get_or, take, drop}

abbrev pub byte : List ℕ → ℕ → ℕ
byte d i = get_or d i 0

-- "network byte order, that is, most significant byte (octet) first" (section 4): the number in n bytes from byte i on
unfoldable pub big_endian : ℕ → ℕ → List ℕ → ℕ
big_endian zero i d = 0
big_endian (suc n) i d = big_endian n i d * 256 + byte d (i + n)

-- whether the bit of weight 2^k of byte i is set
unfoldable pub bit : ℕ → ℕ → List ℕ → Bool
bit i k d = eqb (byte d i / 2 ^ k % 2) 1

-- ---- the first byte: V, P, X, CC

abbrev pub version : List ℕ → ℕ
version d = byte d 0 / 64

abbrev pub padding : List ℕ → Bool
padding d = bit 0 5 d

abbrev pub extension : List ℕ → Bool
extension d = bit 0 4 d

abbrev pub csrc_count : List ℕ → ℕ
csrc_count d = byte d 0 % 16

-- ---- the second byte: M, PT

abbrev pub marker : List ℕ → Bool
marker d = bit 1 7 d

abbrev pub payload_type_of : List ℕ → ℕ
payload_type_of d = byte d 1 % 128

-- ---- the whole words

abbrev pub sequence_number : List ℕ → ℕ
sequence_number d = big_endian 2 2 d

abbrev pub timestamp : List ℕ → ℕ
timestamp d = big_endian 4 4 d

abbrev pub ssrc : List ℕ → ℕ
ssrc d = big_endian 4 8 d

-- ---- where the payload starts and ends

-- after twelve bytes, and four for each CSRC
unfoldable pub extension_start : List ℕ → ℕ
extension_start d = 12 + 4 * csrc_count d

-- section 5.3.1: the 16-bit length "counts the number of 32-bit words in the extension, excluding the four-octet extension header"
unfoldable pub extension_length : List ℕ → ℕ
extension_length d = cond (extension d) (4 + 4 * big_endian 2 (extension_start d + 2) d) 0

unfoldable pub header_length : List ℕ → ℕ
header_length d = extension_start d + extension_length d

-- "The last octet of the padding contains a count of how many padding octets should be ignored, including itself."
unfoldable pub padding_length : List ℕ → ℕ
padding_length d = cond (padding d) (byte d (length d - 1)) 0

unfoldable pub payload_end : List ℕ → ℕ
payload_end d = length d - padding_length d

-- the bytes of d from one place up to another
abbrev pub between : ℕ → ℕ → List ℕ → List ℕ
between start end d = take (end - start) (drop start d)

-- 01, "Packet": "The payload is the part between the end of the header and the padding."
unfoldable pub payload_of : List ℕ → List ℕ
payload_of d = between (header_length d) (payload_end d) d
