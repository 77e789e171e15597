-- 01, "Examples": the rows marked P, as one table, the row on the initial delay, and the figures of 02's points 2 and 5. Rows on media numbers are real calls on a newly opened
-- session in its storage.
use Rattle.std.specs.Prelude.{◌≡◌, Bool, true, false, cond, ℕ, ◌+◌, ◌*◌, ◌/◌, ◌%◌, eqb, ltb, length, replicate, Option, None, Some}
use mathlib.Core.List.{List, [], ◌∷◌, map, foldl}
use Rattle.rtx_state.specs.declared.RtxRtt.{RtxRtt}
use Rattle.rtx_state.specs.RoundTrip.{sampled_rtt}
use Rattle.rtx_state.specs.Drift.{recurrence}
use Rattle.config.specs.declared.RtpInboundStreamSortedQueueMode.TheVariants.{Fixed}
use Rattle.config.specs.declared.RtpInboundQueueMode.TheVariants.{SortedQueue}
use Rattle.rtp_packet.specs.Original.{original_refusal, original_number, original_payload}
use Rattle.model.specs.declared.Config.{Config}
use Rattle.model.specs.Rules.{extended, timings_in, fresh, due}
use Rattle.model.specs.Storage.{parse}
use Rattle.model.specs.Calls.{media}
use Rattle.book.specs.Sorted.{sort}
use Rattle.book.specs.Book.{expected, accounted}
use Rattle.book.specs.Claim.{Run, calls}

-- ---- what a row asks, and what it says

pub data Question : Type 0 where
  reference : (highest number : ℕ) → Question
  -- gaps and forgotten numbers after media packets with these numbers, at depth D
  counts : (D : ℕ) → List ℕ → Question
  -- the two lists of demand 3 after them
  lists : (D : ℕ) → List ℕ → Question
  samples : List ℕ → Question
  repair_payload : List ℕ → Question
  -- a gap that was never NACKed
  nack_due : (initial_delay detected now : ℕ) → Question
  -- whether the srtt is less than so many nanoseconds below the recurrence, after these samples
  drift : (bound first : ℕ) → List ℕ → Question

pub data Found : Type 0 where
  number : ℕ → Found
  counted : (gaps forgotten : ℕ) → Found
  listed : (all accounted : List ℕ) → Found
  estimate : Option RtxRtt → Found
  original : (number : ℕ) (payload : List ℕ) → Found
  refused : ℕ → Found
  is_due : Bool → Found
  is_within : Bool → Found

pub record Row : Type 0 where
  pub asked : Question
  pub said : Found

-- ---- the table

unfoldable pub rows : List Row
rows =
    -- "reference 65,535, number 0: 65,536"
    record { asked = reference 65535 0; said = number 65536 }
    -- "reference 65,540, number 65,535: 65,535"
    ∷ record { asked = reference 65540 65535; said = number 65535 }
    -- "reference 65,536, number 32,768: 98,304"
    ∷ record { asked = reference 65536 32768; said = number 98304 }
    -- "reference 98,304, number 0: 65,536"
    ∷ record { asked = reference 98304 0; said = number 65536 }
    -- "reference 5, number 65,530: 65,530"
    ∷ record { asked = reference 5 65530; said = number 65530 }
    -- "10 then 1,010: 999 gaps"
    ∷ record { asked = counts 2 (10 ∷ 1010 ∷ []); said = counted 999 0 }
    -- "D = 2, 10 then 1,011: none, 1,000 forgotten"
    ∷ record { asked = counts 2 (10 ∷ 1011 ∷ []); said = counted 0 1000 }
    -- "D = 1, numbers 10, 12": by 02, point 2, "65,546 to 65,548, and 65,547, 65,548"
    ∷ record { asked = lists 1 (10 ∷ 12 ∷ []); said = listed (65546 ∷ 65547 ∷ 65548 ∷ []) (65547 ∷ 65548 ∷ []) }
    -- "samples 80, 100: srtt 82, variation 35"
    ∷ record { asked = samples (80 ∷ 100 ∷ []); said = estimate (Some (record { srtt = 82; variation = 35 })) }
    -- "repair payload 00 0B (hexadecimal): number 11, empty payload"
    ∷ record { asked = repair_payload (0x00 ∷ 0x0b ∷ []); said = original 11 [] }
    -- "Payload 00: refusal 11"
    ∷ record { asked = repair_payload (0x00 ∷ []); said = refused 11 }
    -- "Initial delay 5,000,000, detected at 0: due at 5,000,000, not at 4,999,999" (not marked P)
    ∷ record { asked = nack_due 5000000 0 5000000; said = is_due true }
    ∷ record { asked = nack_due 5000000 0 4999999; said = is_due false }
    -- 02, point 5, "less than 14 nanoseconds below": not less than 13, on a first sample of 1 and twenty of 15
    ∷ record { asked = drift 14 1 (replicate 20 15); said = is_within true }
    ∷ record { asked = drift 13 1 (replicate 20 15); said = is_within false }
    ∷ []

-- ---- what is found

-- a session of depth D, with room for the fewest gaps that the opening takes; sender and payload type are 0
abbrev pub config : ℕ → ℕ → Config
config D initial_delay =
    record {
      settings =
          record { mode = SortedQueue Fixed; clock_rate = 8000; max_entries = D; max_gaps = 999; delay = 100000000; initial_nack_delay = initial_delay; default_nack_resend_delay = 20000000; max_nack_attempts = 10 };
      senders = record { pt = 0; ssrc = record { 0 = 0 }; has_rtx = true; rtx_pt = 1; rtx_ssrc = record { 0 = 1 } };
    }

-- RFC 3550, section 5.1: a header with this number, and nothing after it
abbrev pub datagram : ℕ → List ℕ
datagram n = 0x80 ∷ 0 ∷ n / 256 ∷ n % 256 ∷ 0 ∷ 0 ∷ 0 ∷ 0 ∷ 0 ∷ 0 ∷ 0 ∷ 0 ∷ []

-- media packets with these numbers, all at instant 0, on a newly opened session
unfoldable pub received : ℕ → List ℕ → Run
received D numbers = calls (config D 5000000) (map (λ (n : ℕ). media 0 (datagram n)) numbers)

unfoldable pub srtt_in : Option RtxRtt → ℕ
srtt_in None = 0
srtt_in (Some e) = e.srtt

unfoldable pub answer : Question → Found
unfolding received
answer (reference highest n) = number (extended 16 (Some highest) n)
answer (counts D numbers) = counted (length (parse (received D numbers).stored).gaps) (length (received D numbers).book.forgotten)
answer (lists D numbers) = listed (expected (received D numbers).book) (sort (accounted (received D numbers).book))
answer (samples l) = estimate (foldl sampled_rtt None l)
answer (nack_due initial_delay detected now) = is_due (due (timings_in (config 1 initial_delay) None) now (fresh detected 0))
answer (drift bound r rs) =
    is_within (ltb (recurrence r rs).numerator ((srtt_in (foldl sampled_rtt None (r ∷ rs)) + bound) * (recurrence r rs).denominator))
answer (repair_payload p) = cond (eqb (original_refusal p) 0) (original (original_number p) (original_payload p)) (refused (original_refusal p))

unfoldable pub RowsHold : Type 0
unfolding answer rows
RowsHold = map (λ (r : Row). answer r.asked) rows ≡ map (λ (r : Row). r.said) rows
