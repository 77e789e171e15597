-- 01, the Datagram rows of "Where a call is turned back": which datagrams are refused, and the packet that each other one is.
use Rattle.std.specs.Prelude.{Bool, cond, not, ◌&&◌, ◌||◌, List, ℕ, ◌-◌, eqb, leb, ltb, length, Result, Ok, Err}
use Rattle.refusals.specs.Refusals.{TRUNCATED, VERSION, PADDING, payload_too_large, payload_type, SSRC, refuse_if, or_else}
use Rattle.rtp_packet.specs.Header.{version, padding, marker, payload_type_of, sequence_number, timestamp, ssrc, header_length, padding_length, payload_end, payload_of}
use Rattle.rtp_packet.specs.declared.RtpPacket.{RtpPacket}

-- how long a payload may be, and a repair's, which holds the original number too (the row of refusal 5)
abbrev pub largest_payload : ℕ
largest_payload = 320

abbrev pub largest_repair : ℕ
largest_repair = 322

-- "padding bit with no byte after the header, or with count 0 or more than the bytes after the header"
unfoldable pub wrong_padding : List ℕ → Bool
wrong_padding d =
    padding d
    && (leb (length d) (header_length d) || eqb (padding_length d) 0 || ltb (length d - header_length d) (padding_length d))

-- The number under which a session that expects this payload type and SSRC, and payloads of at most so many bytes, refuses a datagram; 0: none.
unfoldable pub datagram_refusal : ℕ → ℕ → ℕ → List ℕ → ℕ
datagram_refusal expected_type expected_ssrc most_bytes d =
    or_else (refuse_if (ltb (length d) 12) TRUNCATED)
    (or_else (refuse_if (not (eqb (version d) 2)) VERSION)
    (or_else (refuse_if (ltb (length d) (header_length d)) TRUNCATED)
    (or_else (refuse_if (wrong_padding d) PADDING)
    (or_else (refuse_if (ltb most_bytes (length (payload_of d))) payload_too_large)
    (or_else (refuse_if (not (eqb (payload_type_of d) expected_type)) payload_type)
    (refuse_if (not (eqb (ssrc d) expected_ssrc)) SSRC))))))

unfoldable pub packet_of : List ℕ → RtpPacket
packet_of d = record {
  pt = payload_type_of d;
  sequence_number = record { 0 = sequence_number d };
  ssrc = record { 0 = ssrc d };
  timestamp = record { 0 = timestamp d };
  marker = marker d;
  start = header_length d;
  end = payload_end d;
}

-- 01's number and values for each case of the answer
abbrev pub packet_unless : ℕ → List ℕ → Result RtpPacket ℕ
packet_unless refusal d = cond (eqb refusal 0) (Ok (packet_of d)) (Err refusal)

unfoldable pub parsed : ℕ → ℕ → ℕ → List ℕ → Result RtpPacket ℕ
parsed expected_type expected_ssrc most_bytes d = packet_unless (datagram_refusal expected_type expected_ssrc most_bytes d) d
