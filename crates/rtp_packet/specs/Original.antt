-- RFC 4588, section 4; 01, "Repair state" and row 11: the payload of a repair is the original sequence number (OSN), two bytes, and then the original payload.
use Rattle.std.specs.Prelude.{cond, List, ℕ, eqb, ltb, length, drop, Result, Ok, Err}
use Rattle.refusals.specs.Refusals.{no_original_number, refuse_if}
use Rattle.rtp_packet.specs.Header.{big_endian}
use Rattle.rtp.specs.declared.SequenceNumber.{SequenceNumber}

-- 01: "payload under 2 bytes"
unfoldable pub original_refusal : List ℕ → ℕ
original_refusal p = refuse_if (ltb (length p) 2) no_original_number

unfoldable pub original_number : List ℕ → ℕ
original_number p = big_endian 2 0 p

unfoldable pub original_payload : List ℕ → List ℕ
original_payload p = drop 2 p

-- 01's number and values for each case of the answer
unfoldable pub original_of : List ℕ → Result SequenceNumber ℕ
original_of p = cond (eqb (original_refusal p) 0) (Ok (record { 0 = original_number p })) (Err (original_refusal p))
