-- 000's `push` and `push_rtx`; 01, "Entry", "Gap", "Repair state", "Jitter" and "Loss": what a media packet and a repair make of a session.
-- The bytes are a datagram that was not refused.
use Rattle.std.specs.Prelude.{Bool, cond, List, [], ◌∷◌, ℕ, ◌+◌, leb, length, Option, None, Some}
use Rattle.rtp.specs.Opt.{number_of, at_most}
use Rattle.model.specs.declared.Received.{Received}
use Rattle.rtp_packet.specs.Header.{sequence_number, timestamp, marker, payload_of}
use Rattle.rtp_packet.specs.Original.{original_number, original_payload}
use Rattle.rtx_state.specs.declared.RtxState.{RtxState}
use Rattle.rtx_state.specs.Repair.{with_rtt, record_in_time, record_redundant, record_too_late}
use Rattle.jitter.specs.declared.Jitter.{Jitter}
use Rattle.jitter.specs.Interarrival.{jitter_updated}
use Rattle.packet_loss.specs.Loss.{record_received, record_lost}
use Rattle.config.specs.declared.RtpInboundQueueMode.{RtpInboundQueueMode}
use Rattle.config.specs.declared.RtpInboundQueueMode.TheVariants.{Passthrough, SortedQueue}
use Rattle.model.specs.declared.Counters.{Counters}
use Rattle.model.specs.declared.Queue.{Queue}
use Rattle.model.specs.Lists.{some?}
use Rattle.model.specs.Records.{Entry, State, highest_of, last_timestamp_of, with_clock, with_last, with_returned, with_rtx, with_counters, with_jitter, with_loss, Gap}
use Rattle.model.specs.Rules.{extended, is, without, gaps_from, Place, first, near, far, fills, other, place_of, waits, gaps_after, gap_nacked_at, lost_nacked_at, sampled_at, forget_first, overfull}

-- ---- what both share

-- in sorted mode the last returned
unfoldable pub passed_of : RtpInboundQueueMode → Option ℕ → Option ℕ
passed_of Passthrough returned = None
passed_of (SortedQueue sorted) returned = returned

-- "in sorted mode nothing at or below the last returned number is" queued
unfoldable pub passed : RtpInboundQueueMode → Option ℕ → ℕ → Bool
unfolding passed_of
passed mode returned n = at_most n (passed_of mode returned)

-- the number and the timestamp of a packet, extended by those of the last media packet
unfoldable pub extended_number : Queue → ℕ → ℕ
extended_number q got = extended 16 (highest_of q.last) got

unfoldable pub extended_timestamp : Queue → ℕ → ℕ
extended_timestamp q got = extended 32 (last_timestamp_of q.last) got

-- the entry that a packet becomes, by its own timestamp and number
unfoldable pub extended_entry : Queue → Option ℕ → (timestamp number : ℕ) → Bool → List ℕ → Entry
extended_entry q arrival ts n marker payload =
    record { arrival = arrival; timestamp = extended_timestamp q ts; number = extended_number q n; marker = marker; payload = payload }

-- `insert_sorted`: before the first entry that is not below it
unfoldable pub insert_sorted : Entry → List Entry → List Entry
insert_sorted e [] = e ∷ []
insert_sorted e (x ∷ xs) = cond (leb e.number x.number) (e ∷ x ∷ xs) (x ∷ insert_sorted e xs)

-- ---- a media packet

-- where the packet stands, with these gaps open
unfoldable pub place_in : Queue → List Gap → ℕ → Place
place_in q gaps n = cond (passed q.config.settings.mode (number_of q.returned) n) other (place_of (highest_of q.last) gaps n)

unfoldable pub media_place : State → ℕ → Place
unfolding place_in
media_place s n = place_in s.queue s.gaps n

-- "made in `push` even for a packet then dropped"
unfoldable pub jitter_after : ℕ → ℕ → Option Received → Jitter → Jitter
jitter_after now ts None j = j
jitter_after now ts (Some r) j = jitter_updated j now ts r.instant r.timestamp.0

-- the clock and the jitter follow every packet
unfoldable pub heard : ℕ → ℕ → Queue → Queue
heard now ts q = with_clock (with_jitter q (jitter_after now ts q.last q.jitter)) now

-- 000, "forward progress only"
unfoldable pub last_after : (now timestamp number : ℕ) → Place → Option Received → Option Received
last_after now ts n first l = Some (record { instant = now; timestamp = record { 0 = ts }; number = record { 0 = n } })
last_after now ts n (near h) l = Some (record { instant = now; timestamp = record { 0 = ts }; number = record { 0 = n } })
last_after now ts n (far h) l = Some (record { instant = now; timestamp = record { 0 = ts }; number = record { 0 = n } })
last_after now ts n fills l = l
last_after now ts n other l = l

unfoldable pub count_dropped : Counters → Counters
count_dropped c = record { dropped = c.dropped + 1; received = c.received; bytes = c.bytes; lost = c.lost }

unfoldable pub count_received : ℕ → Counters → Counters
count_received size c = record { dropped = c.dropped; received = c.received + 1; bytes = c.bytes + size; lost = c.lost }

-- what a dropped packet makes of the queue's own record, and of the whole: it moves no number
abbrev pub queue_dropped : (now timestamp : ℕ) → Queue → Queue
queue_dropped now ts q = with_counters (heard now ts q) (count_dropped q.counters)

unfoldable pub after_dropped : ℕ → ℕ → State → State
after_dropped now ts s = record { queue = queue_dropped now ts s.queue; entries = s.entries; gaps = s.gaps; remembered = s.remembered }

-- the same of a packet that is queued, before the depth is looked at
abbrev pub queue_queued : (now timestamp number size : ℕ) → Place → Queue → Queue
queue_queued now ts n size p q =
    let last = last_after now ts n p q.last in
    with_loss (with_counters (with_last (heard now ts q) last) (count_received size q.counters)) (record_received q.loss)

unfoldable pub after_queued : ℕ → Entry → Place → State → State
after_queued now e p s =
    record {
      queue = queue_queued now e.timestamp e.number (length e.payload) p s.queue;
      entries = insert_sorted e s.entries;
      gaps = gaps_after now e.number p s.gaps;
      remembered = s.remembered;
    }

-- "the front one is pushed out: it counts as dropped, becomes the last returned, and missing numbers below it go uncounted"
abbrev pub queue_pushed_out : (number : ℕ) → Queue → Queue
queue_pushed_out n q = with_returned (with_counters q (count_dropped q.counters)) n

unfoldable pub front_out_of : List Entry → State → State
front_out_of [] s = s
front_out_of (e ∷ es) s = record { queue = queue_pushed_out e.number s.queue; entries = es; gaps = gaps_from e.number s.gaps; remembered = s.remembered }

-- "After a push that leaves more than D"
unfoldable pub within_depth : State → State
within_depth s = cond (overfull s.queue.config.settings (length s.entries)) (front_out_of s.entries s) s

unfoldable pub media_entry_of : ℕ → List ℕ → Queue → Entry
unfolding extended_entry
media_entry_of now d q = extended_entry q (Some now) (timestamp d) (sequence_number d) (marker d) (payload_of d)

unfoldable pub after_placed : ℕ → Entry → Place → State → State
after_placed now e p s = cond (waits p) (within_depth (after_queued now e p s)) (after_dropped now e.timestamp s)

unfoldable pub after_media : ℕ → List ℕ → State → State
unfolding after_placed
after_media now d s = let e = media_entry_of now d s.queue in after_placed now e (media_place s e.number) s

-- ---- a repair

-- "a repair is `recovered`, `redundant` or `too late`"
pub data Fate : Type 0 where
  too_late recovered redundant : Fate

unfoldable pub fate_in : Queue → List Gap → ℕ → Fate
fate_in q gaps n = cond (passed q.config.settings.mode (number_of q.returned) n) too_late (cond (some? (is n) gaps) recovered redundant)

unfoldable pub repair_fate : State → ℕ → Fate
unfolding fate_in
repair_fate s n = fate_in s.queue s.gaps n

-- RFC 4588: the payload begins with the original number; what follows is the original payload
unfoldable pub repair_entry : List ℕ → Queue → Entry
unfolding extended_entry
repair_entry d q = extended_entry q None (timestamp d) (original_number (payload_of d)) (marker d) (original_payload (payload_of d))

-- the repair state with the sample that the repair of a number yields
abbrev pub sampled : ℕ → Option ℕ → RtxState → RtxState
sampled now instant r = with_rtt r (sampled_at now instant r.rtt)

-- what a repair makes of the queue's own record; `nacked` is the instant of the number's NACK, if there was just one
abbrev pub queue_too_late : ℕ → Option ℕ → Queue → Queue
queue_too_late now nacked q = with_rtx (with_clock q now) (sampled now nacked (record_too_late q.rtx))

abbrev pub queue_redundant : ℕ → Queue → Queue
queue_redundant now q = with_rtx (with_clock q now) (record_redundant q.rtx)

abbrev pub queue_recovered : (now : ℕ) → Option ℕ → (size : ℕ) → Queue → Queue
queue_recovered now nacked size q = with_loss (with_rtx (with_clock q now) (sampled now nacked (record_in_time q.rtx size))) (record_lost q.loss 1)

unfoldable pub after_fate : ℕ → Entry → Fate → State → State
after_fate now e too_late s =
    record {
      queue = queue_too_late now (lost_nacked_at e.number s.remembered) s.queue;
      entries = s.entries;
      gaps = s.gaps;
      remembered = forget_first e.number s.remembered;
    }
after_fate now e redundant s = record { queue = queue_redundant now s.queue; entries = s.entries; gaps = s.gaps; remembered = s.remembered }
after_fate now e recovered s =
    record {
      queue = queue_recovered now (gap_nacked_at e.number s.gaps) (length e.payload) s.queue;
      entries = insert_sorted e s.entries;
      gaps = without e.number s.gaps;
      remembered = s.remembered;
    }

unfoldable pub after_repair : ℕ → List ℕ → State → State
after_repair now d s = let e = repair_entry d s.queue in after_fate now e (repair_fate s e.number) s
