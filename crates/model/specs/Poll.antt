-- 000's `poll`, `poll_nack`, the two timeouts and the figures; 01, "Hand-out" and "Gap".
use Rattle.std.specs.Prelude.{Bool, true, false, cond, List, [], ◌∷◌, map, ℕ, ◌+◌, ◌-◌, length, take, drop, Option, None, Some}
use Rattle.rtp.specs.Opt.{at_most, opt_min}
use Rattle.rtx_state.specs.declared.RtxRtt.{RtxRtt}
use Rattle.stats.specs.declared.RtpInboundRtxStats.{RtpInboundRtxStats}
use Rattle.model.specs.declared.Received.{Received}
use Rattle.nack_pairs.specs.Wire as Wire
use Rattle.rtx_state.specs.Repair.{rtx_stats}
use Rattle.packet_loss.specs.Loss.{record_lost}
use Rattle.config.specs.declared.RtpInboundQueueMode.{RtpInboundQueueMode}
use Rattle.config.specs.declared.RtpInboundQueueMode.TheVariants.{Passthrough, SortedQueue}
use Rattle.config.specs.declared.NackTimings.{NackTimings}
use Rattle.config.specs.Delay.{target_delay}
use Rattle.handout.specs.Limit.{max_timestamp}
use Rattle.handout.specs.Timeout.{timeout_receive}
use Rattle.model.specs.declared.Counters.{Counters}
use Rattle.model.specs.declared.Queue.{Queue}
use Rattle.model.specs.Lists.{keep}
use Rattle.model.specs.Records.{Entry, Gap, State, gap_numbers, with_clock, with_returned, with_counters, with_loss}
use Rattle.model.specs.Rules.{estimate_in, timings_in, due_at, due, nack_due, truncated, remembered_after, given_up_of, not_given_up, lost_below_of, left_from_of}

unfoldable pub count_lost : ℕ → Counters → Counters
count_lost n c = record { dropped = c.dropped; received = c.received; bytes = c.bytes; lost = c.lost + n }

-- n numbers became lost
unfoldable pub lose : ℕ → Queue → Queue
lose n q = with_loss (with_counters q (count_lost n q.counters)) (record_lost q.loss n)

-- the clock, then `drain_lost`: what it makes of the queue's record, by the gaps, and of the whole
abbrev pub drained_queue : ℕ → Queue → List Gap → Queue
drained_queue now q gaps = lose (length (given_up_of q.config.settings gaps)) (with_clock q now)

unfoldable pub drained : ℕ → State → State
drained now s =
    let set = s.queue.config.settings in
    record {
      queue = drained_queue now s.queue s.gaps;
      entries = s.entries;
      gaps = not_given_up set s.gaps;
      remembered = s.remembered;
    }

-- ---- `poll`

-- the round trip estimate, which a session without RTX has not
abbrev pub estimate_of : Queue → Option RtxRtt
estimate_of q = estimate_in q.config.senders.has_rtx q.rtx.rtt

-- how long a packet is kept: what the limit, the timeout and the answer have
unfoldable pub delay_of : Queue → ℕ
delay_of q = target_delay q.config.settings q.jitter q.loss (estimate_of q)

-- whether the limit has reached the timestamp; there is none where it is negative: "a negative limit hands out nothing"
unfoldable pub ready_in : RtpInboundQueueMode → (rate delay : ℕ) → Option Received → (now timestamp : ℕ) → Bool
ready_in Passthrough rate delay last now timestamp = true
ready_in (SortedQueue sorted) rate delay None now timestamp = false
ready_in (SortedQueue sorted) rate delay (Some r) now timestamp = at_most timestamp (max_timestamp r.instant r.timestamp.0 rate delay now)

-- whether an entry of the timestamp goes out where it is the front one
abbrev pub ready : Queue → (now timestamp : ℕ) → Bool
ready q now timestamp = ready_in q.config.settings.mode q.config.settings.clock_rate (delay_of q) q.last now timestamp

-- whether the front entry goes out
unfoldable pub hands_out : ℕ → Queue → List Entry → Bool
hands_out now q [] = false
hands_out now q (e ∷ es) = ready q now e.timestamp

-- the entry that goes out, if one does
unfoldable pub going_out : ℕ → State → List Entry → List Entry
going_out now s es = cond (hands_out now s.queue es) (take 1 es) []

-- those below the entry that goes out, if one does
unfoldable pub lost_under : RtpInboundQueueMode → List Entry → List Gap → List Gap
lost_under mode [] l = []
lost_under mode (e ∷ es) l = lost_below_of mode e.number l

-- the number goes out, and so many below it are lost
abbrev pub queue_handed_out : (number lost : ℕ) → Queue → Queue
queue_handed_out n lost q = with_returned (lose lost q) n

unfoldable pub hand_out : List Entry → State → State
hand_out [] s = s
hand_out (e ∷ es) s =
    let q = s.queue in
    let mode = q.config.settings.mode in
    let lost = lost_below_of mode e.number s.gaps in
    record {
      queue = queue_handed_out e.number (length lost) q;
      entries = drop 1 s.entries;
      gaps = left_from_of mode e.number s.gaps;
      remembered = remembered_after q.config.senders.has_rtx lost s.remembered;
    }

unfoldable pub after_poll : ℕ → State → State
after_poll now s = hand_out (going_out now s s.entries) (drained now s)

-- ---- `poll_nack`

abbrev pub timings_of : Queue → NackTimings
timings_of q = timings_in q.config q.rtx.rtt

-- the gaps for which a NACK goes out, once those given up are out
unfoldable pub due_gaps : ℕ → Queue → List Gap → List Gap
due_gaps now q gaps = keep (due (timings_of q) now) (not_given_up q.config.settings gaps)

-- "The due numbers come out ascending by extended number, as 16 bits"
unfoldable pub nack_numbers : ℕ → State → List ℕ
nack_numbers now s = map truncated (due_gaps now s.queue s.gaps)

-- 02, point 1: "writes the due numbers as RFC 4585 generic NACK entries"
unfoldable pub nack_entries_of : ℕ → State → List ℕ
nack_entries_of now s = Wire.entries (gap_numbers (due_gaps now s.queue s.gaps))

unfoldable pub nack_all : ℕ → State → State
nack_all now s =
    record { queue = s.queue; entries = s.entries; gaps = nack_due (timings_of s.queue) now s.gaps; remembered = s.remembered }

unfoldable pub after_poll_nack : ℕ → State → State
after_poll_nack now s = nack_all now (drained now s)

-- ---- calls that leave the session as it is

unfoldable pub timeout_in : RtpInboundQueueMode → (rate delay : ℕ) → Option Received → List Entry → ℕ → Option ℕ
timeout_in Passthrough rate delay last [] now = None
timeout_in Passthrough rate delay last (e ∷ es) now = Some 0
timeout_in (SortedQueue sorted) rate delay None l now = None
timeout_in (SortedQueue sorted) rate delay (Some r) [] now = None
timeout_in (SortedQueue sorted) rate delay (Some r) (e ∷ es) now = Some (timeout_receive r.instant r.timestamp.0 e.timestamp rate delay now)

abbrev pub receive_timeout_of : Queue → List Entry → ℕ → Option ℕ
receive_timeout_of q l now = timeout_in q.config.settings.mode q.config.settings.clock_rate (delay_of q) q.last l now

-- 001, "the next time": the least that is left until a gap is due
unfoldable pub nack_timeout_of : NackTimings → ℕ → List Gap → Option ℕ
nack_timeout_of t now [] = None
nack_timeout_of t now (g ∷ gs) = opt_min (Some (due_at t g - now)) (nack_timeout_of t now gs)

unfoldable pub repair_figures_of : Queue → Option RtpInboundRtxStats
repair_figures_of q = cond q.config.senders.has_rtx (Some (rtx_stats q.rtx)) None
