-- 01, "Numbers", "Gap", "Repair state" and "Hand-out": the rules that the queue and the book share. None of them looks at a session.
use Rattle.std.specs.Prelude.{Bool, true, false, cond, not, List, [], ◌∷◌, ◌++◌, map, ℕ, suc, ◌+◌, ◌-◌, ◌*◌, ◌^◌, leb, ltb, eqb, length, drop, Option, None, Some}
use Rattle.rtp.specs.Numbers.{low_bits, guessed}
use Rattle.rtx_state.specs.declared.RtxRtt.{RtxRtt}
use Rattle.rtx_state.specs.RoundTrip.{sampled_rtt}
use Rattle.config.specs.declared.RtpInboundQueueMode.{RtpInboundQueueMode}
use Rattle.config.specs.declared.RtpInboundQueueMode.TheVariants.{Passthrough, SortedQueue}
use Rattle.config.specs.declared.Settings.{Settings}
use Rattle.config.specs.declared.NackTimings.{NackTimings}
use Rattle.config.specs.Timings.{nack_timings}
use Rattle.model.specs.declared.Config.{Config}
use Rattle.model.specs.Lists.{following, keep, leading, trailing, some?}
use Rattle.model.specs.Records.{Gap, Remembered}

-- ---- numbers

-- 02, point 2: "The first packet is henceforth extended with cycle 1, for numbers (65,536 added) and timestamps (2^32 added)"
abbrev pub first_cycle : ℕ
first_cycle = 1

-- a number of w bits, extended by the reference, if there is one
unfoldable pub extended : ℕ → Option ℕ → ℕ → ℕ
extended w None got = first_cycle * 2 ^ w + got
extended w (Some reference) got = guessed w reference got

-- ---- gaps

-- "A forward step s of at most 1,000 opens s − 1 gaps" (001's MAX_GAP_SIZE)
abbrev pub max_gap_size : ℕ
max_gap_size = 1000

unfoldable pub is : ℕ → Gap → Bool
is n g = eqb g.number n

unfoldable pub below : ℕ → Gap → Bool
below n g = ltb g.number n

-- the gap of the number n, if it is open, and the others
unfoldable pub gap_of : ℕ → List Gap → List Gap
gap_of n l = keep (is n) l

unfoldable pub without : ℕ → List Gap → List Gap
without n l = keep (λ (g : Gap). not (is n g)) l

-- the gaps below n, and the others
unfoldable pub gaps_below : ℕ → List Gap → List Gap
gaps_below n l = keep (below n) l

unfoldable pub gaps_from : ℕ → List Gap → List Gap
gaps_from n l = keep (λ (g : Gap). not (below n g)) l

-- Where a media number stands.
pub data Place : Type 0 where
  -- no media packet came before it
  first : Place
  -- above the highest number so far, which it carries: by at most 1,000, or by more
  near far : ℕ → Place
  -- an open gap
  fills : Place
  -- any other
  other : Place

unfoldable pub place_of : Option ℕ → List Gap → ℕ → Place
place_of None gaps n = first
place_of (Some h) gaps n = cond (ltb h n) (cond (leb (n - h) max_gap_size) (near h) (far h)) (cond (some? (is n) gaps) fills other)

-- the packet comes to wait
unfoldable pub waits : Place → Bool
waits first = true
waits (near h) = true
waits (far h) = true
waits fills = true
waits other = false

-- the numbers between h and n
unfoldable pub between : ℕ → ℕ → List ℕ
between h n = following (suc h) (n - suc h)

unfoldable pub fresh : ℕ → ℕ → Gap
fresh now n = record { number = n; detected = now; nacks = 0; nacked_at = 0 }

-- `report_received`: "a larger one clears every gap and opens none"
unfoldable pub gaps_after : ℕ → ℕ → Place → List Gap → List Gap
gaps_after now n first l = l
gaps_after now n (near h) l = l ++ map (fresh now) (between h n)
gaps_after now n (far h) l = []
gaps_after now n fills l = without n l
gaps_after now n other l = l

-- ---- NACKs

-- a session without RTX measures no round trip
unfoldable pub estimate_in : Bool → Option RtxRtt → Option RtxRtt
estimate_in false rtt = None
estimate_in true rtt = rtt

-- after how long a gap is NACKed, first and again
unfoldable pub timings_in : Config → Option RtxRtt → NackTimings
timings_in c rtt = nack_timings c.settings (estimate_in c.senders.has_rtx rtt)

-- "detected + initial delay, or last NACK + resend delay"
unfoldable pub due_at : NackTimings → Gap → ℕ
due_at t g = cond (eqb g.nacks 0) (g.detected + t.initial) (g.nacked_at + t.resend)

abbrev pub due : NackTimings → ℕ → Gap → Bool
due t now g = leb (due_at t g) now

unfoldable pub nacked : ℕ → Gap → Gap
nacked now g = record { number = g.number; detected = g.detected; nacks = suc g.nacks; nacked_at = now }

-- the gap after a NACK, if one is due
unfoldable pub nacked_if_due : NackTimings → ℕ → Gap → Gap
nacked_if_due t now g = cond (due t now g) (nacked now g) g

abbrev pub nack_due : NackTimings → ℕ → List Gap → List Gap
nack_due t now l = map (nacked_if_due t now) l

-- the 16 bits that a NACK gives
abbrev pub truncated : Gap → ℕ
truncated g = low_bits 16 g.number

-- no further NACK can be counted
abbrev pub full : Gap → Bool
full g = leb (2 ^ 32 - 1) g.nacks

-- NACKed at least max times
unfoldable pub tried : ℕ → Gap → Bool
tried max g = leb max g.nacks

-- ---- the round trip

-- NACKed just once
abbrev pub once : Gap → Bool
once g = eqb g.nacks 1

-- the instant of a gap's NACK, if there was just one
unfoldable pub nacked_once : Gap → Option ℕ
nacked_once g = cond (once g) (Some g.nacked_at) None

unfoldable pub once_of : List Gap → Option ℕ
once_of [] = None
once_of (g ∷ gs) = nacked_once g

-- the same of a number, if it is missing
abbrev pub gap_nacked_at : ℕ → List Gap → Option ℕ
gap_nacked_at n l = once_of (gap_of n l)

unfoldable pub is_of : ℕ → Remembered → Bool
is_of n r = eqb r.number n

unfoldable pub instant_of : List Remembered → Option ℕ
instant_of [] = None
instant_of (r ∷ rs) = Some r.nacked_at

-- the instant of the NACK of a number, if it is remembered
abbrev pub lost_nacked_at : ℕ → List Remembered → Option ℕ
lost_nacked_at n l = instant_of (keep (is_of n) l)

-- "A gap NACKed just once yields a sample when its repair comes, also too late if the number is still remembered": the estimate after a
-- repair of a number that was NACKed at this instant, if one is told
unfoldable pub sampled_at : ℕ → Option ℕ → Option RtxRtt → Option RtxRtt
sampled_at now None rtt = rtt
sampled_at now (Some instant) rtt = sampled_rtt rtt (now - instant)

-- a number that gave its sample is no longer remembered
unfoldable pub forget_first : ℕ → List Remembered → List Remembered
forget_first n [] = []
forget_first n (r ∷ rs) = cond (is_of n r) rs (r ∷ forget_first n rs)

-- "up to 1,024 lost numbers NACKed just once are remembered, oldest dropped first" (002's MAX_LOST_NACKED)
abbrev pub max_lost_nacked : ℕ
max_lost_nacked = 1024

unfoldable pub latest : List Remembered → List Remembered
latest l = drop (length l - max_lost_nacked) l

unfoldable pub remember : Gap → Remembered
remember g = record { number = g.number; nacked_at = g.nacked_at }

-- the remembered numbers once these gaps are lost; without RTX none is added
unfoldable pub remembered_after : Bool → List Gap → List Remembered → List Remembered
unfolding latest
remembered_after false lost l = l
remembered_after true lost l = latest (l ++ map remember (keep once lost))

-- ---- the depth

-- "more than D": so many entries of the queue, so many waiting numbers of the book
abbrev pub overfull : Settings → ℕ → Bool
overfull set n = ltb set.max_entries n

-- ---- numbers lost

-- "In `Passthrough`, the leading gaps NACKed at least max times become lost, first thing in every `poll_nack` and `poll`"
unfoldable pub given_up_in : RtpInboundQueueMode → Settings → List Gap → List Gap
given_up_in Passthrough set l = leading (tried set.max_nack_attempts) l
given_up_in (SortedQueue sorted) set l = []

unfoldable pub not_given_up_in : RtpInboundQueueMode → Settings → List Gap → List Gap
not_given_up_in Passthrough set l = trailing (tried set.max_nack_attempts) l
not_given_up_in (SortedQueue sorted) set l = l

abbrev pub given_up_of : Settings → List Gap → List Gap
given_up_of set l = given_up_in set.mode set l

abbrev pub not_given_up : Settings → List Gap → List Gap
not_given_up set l = not_given_up_in set.mode set l

-- "Gaps below the one handed out become lost" in sorted mode
unfoldable pub lost_below_of : RtpInboundQueueMode → ℕ → List Gap → List Gap
lost_below_of Passthrough n l = []
lost_below_of (SortedQueue sorted) n l = gaps_below n l

unfoldable pub left_from_of : RtpInboundQueueMode → ℕ → List Gap → List Gap
left_from_of Passthrough n l = l
left_from_of (SortedQueue sorted) n l = gaps_from n l
