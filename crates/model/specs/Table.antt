-- 01, "Where a call is turned back": the number of the first check that catches a call, or 0. "Checks run downwards within a call."
use Rattle.std.specs.Prelude.{Bool, true, false, cond, ◌&&◌, ◌||◌, not, List, [], ◌∷◌, ◌++◌, ℕ, suc, ◌+◌, ◌-◌, ◌*◌, leb, ltb, length, Option, None, Some}
use Rattle.refusals.specs.Refusals.{SETTINGS, CLOCK, no_rtx, no_media, gaps_full, entries_full, COUNT, OUTPUT, SESSION, refuse_if, or_else}
use Rattle.durations.specs.Seconds.{largest}
use Rattle.config.specs.declared.Settings.{Settings}
use Rattle.config.specs.Valid.{settings_valid, senders_valid}
use Rattle.nack_pairs.specs.Wire.{entry_bytes}
use Rattle.rtp_packet.specs.Header.{payload_of}
use Rattle.rtp_packet.specs.Datagram.{largest_payload, largest_repair, datagram_refusal}
use Rattle.rtp_packet.specs.Original.{original_refusal}
use Rattle.rtx_state.specs.declared.RtxState.{RtxState}
use Rattle.model.specs.declared.Config.{Config}
use Rattle.model.specs.declared.Received.{Received}
use Rattle.model.specs.declared.Counters.{Counters}
use Rattle.model.specs.declared.Queue.{Queue}
use Rattle.model.specs.Lists.{some?}
use Rattle.model.specs.Records.{Entry, Gap, State}
use Rattle.model.specs.Rules.{Place, first, near, far, fills, other, waits, full, overfull, given_up_of}
use Rattle.model.specs.Push.{media_entry_of, media_place, Fate, too_late, recovered, redundant, repair_entry, repair_fate}
use Rattle.model.specs.Poll.{drained, going_out, lost_under, due_gaps}
use Rattle.model.specs.Valid.{sound}
use Rattle.model.specs.Storage.{Storage, Stored, lengths_fit, entry_places, parse}
use Rattle.model.specs.Calls.{Call, media, repair, poll, poll_nack, nack_wire, timeout_receive, timeout_nack, rtx_stats, highest_received}

-- 1
unfoldable pub config_valid : Config → Bool
config_valid c = settings_valid c.settings && senders_valid c.senders

-- 16
unfoldable pub session_sound : Stored → Bool
session_sound m =
    let c = m.session.queue.config in
    config_valid c && (lengths_fit c.settings m.storage && sound (parse m))

unfoldable pub session_refusal : Stored → ℕ
session_refusal m = refuse_if (not (session_sound m)) SESSION

-- 15: an output of so many places, where so many are needed
unfoldable pub output_refusal : (needed places : ℕ) → ℕ
output_refusal needed places = refuse_if (ltb places needed) OUTPUT

-- 8
unfoldable pub clock_refusal : Queue → ℕ → ℕ
clock_refusal q now = refuse_if (ltb largest now || ltb now q.clock) CLOCK

-- 9
unfoldable pub rtx_refusal : Queue → ℕ
rtx_refusal q = refuse_if (not q.config.senders.has_rtx) no_rtx

-- 10
unfoldable pub no_media_of : Option Received → Bool
no_media_of None = true
no_media_of (Some r) = false

unfoldable pub media_first_refusal : Queue → ℕ
media_first_refusal q = refuse_if (no_media_of q.last) no_media

-- 14: "an extended value or counter would pass 2^52 − 1": the values that the call works out, and the counters that it would raise
unfoldable pub count_refusal : List ℕ → ℕ
count_refusal values = refuse_if (some? (ltb largest) values) COUNT

-- 14, "or a NACK count 2^32 − 1"
unfoldable pub nack_count_refusal : List Gap → ℕ
nack_count_refusal due = refuse_if (some? full due) COUNT

-- ---- a media packet

-- 14: the counters that a packet of this size would raise
unfoldable pub media_values : Counters → ℕ → Bool → Bool → List ℕ
media_values c size waits pushes_out = cond waits ((c.received + 1) ∷ (c.bytes + size) ∷ cond pushes_out ((c.dropped + 1) ∷ []) []) ((c.dropped + 1) ∷ [])

-- 12: "s from 2 to 1,000, packet would be queued, open gaps + s − 1 over G", with so many gaps open
unfoldable pub too_many_gaps : Settings → (gaps number : ℕ) → Place → Bool
too_many_gaps set gaps n first = false
too_many_gaps set gaps n (near h) = ltb set.max_gaps (gaps + ((n - h) - 1)) && leb 2 (n - h)
too_many_gaps set gaps n (far h) = false
too_many_gaps set gaps n fills = false
too_many_gaps set gaps n other = false

-- 14, then 12, of a packet by its timestamp, number, size and place, where so many entries and gaps are held
unfoldable pub packet_refusal : Queue → (entries gaps timestamp number size : ℕ) → Place → ℕ
packet_refusal q entries gaps ts n size p =
    let set = q.config.settings in
    or_else (count_refusal (ts ∷ n ∷ media_values q.counters size (waits p) (overfull set (suc entries)))) (refuse_if (too_many_gaps set gaps n p) gaps_full)

-- the same of an entry at its place
abbrev pub refusal_at : Entry → Place → State → ℕ
refusal_at e p s = packet_refusal s.queue (length s.entries) (length s.gaps) e.timestamp e.number (length e.payload) p

unfoldable pub media_refusal : ℕ → List ℕ → State → ℕ
media_refusal now d s =
    let q = s.queue in
    let e = media_entry_of now d q in
    or_else (clock_refusal q now)
    (or_else (datagram_refusal q.config.senders.pt q.config.senders.ssrc.0 largest_payload d)
    (refusal_at e (media_place s e.number) s))

-- ---- a repair

-- 10, then 11
unfoldable pub original_number_refusal : Queue → List ℕ → ℕ
original_number_refusal q payload = or_else (media_first_refusal q) (original_refusal payload)

-- 14: the counters that a repair of this size would raise
unfoldable pub fate_values : RtxState → ℕ → Fate → List ℕ
fate_values r size too_late = (r.received_too_late + 1) ∷ []
fate_values r size redundant = (r.received_redundant + 1) ∷ []
fate_values r size recovered = (r.received_in_time + 1) ∷ (r.bytes_received + size) ∷ []

-- 13: "repair would be inserted with 2 · D entries held", of so many places
unfoldable pub no_place : ℕ → ℕ → Fate → Bool
no_place places entries too_late = false
no_place places entries redundant = false
no_place places entries recovered = leb places entries

-- 14, then 13, of a repair by its timestamp, number, size and fate, where so many entries are held
unfoldable pub fate_refusal : Queue → (entries timestamp number size : ℕ) → Fate → ℕ
fate_refusal q entries ts n size f =
    or_else (count_refusal (ts ∷ n ∷ fate_values q.rtx size f)) (refuse_if (no_place (entry_places q.config.settings) entries f) entries_full)

-- the same of an entry
abbrev pub refusal_for : Entry → Fate → State → ℕ
refusal_for e f s = fate_refusal s.queue (length s.entries) e.timestamp e.number (length e.payload) f

unfoldable pub repair_refusal : ℕ → List ℕ → State → ℕ
repair_refusal now d s =
    let q = s.queue in
    let e = repair_entry d q in
    or_else (clock_refusal q now)
    (or_else (rtx_refusal q)
    (or_else (datagram_refusal q.config.senders.rtx_pt q.config.senders.rtx_ssrc.0 largest_repair d)
    (or_else (original_number_refusal q (payload_of d)) (refusal_for e (repair_fate s e.number) s))))

-- ---- `poll` and `poll_nack`, in a list or on the wire

-- the gaps that become lost as the entry at the front of the list goes out, if there is one: those given up, and those below it
unfoldable pub lost_with : ℕ → State → List Entry → List Gap
lost_with now s es =
    let set = s.queue.config.settings in
    given_up_of set s.gaps ++ lost_under set.mode es (drained now s).gaps

unfoldable pub poll_refusal : ℕ → List ℕ → State → ℕ
poll_refusal now out s =
    or_else (output_refusal largest_payload (length out))
    (or_else (clock_refusal s.queue now) (count_refusal ((s.queue.counters.lost + length (lost_with now s (going_out now s s.entries))) ∷ [])))

-- 14 of `poll_nack`: the numbers lost, then a NACK count
unfoldable pub nacks_refusal : ℕ → Queue → List Gap → ℕ
nacks_refusal now q gaps =
    let set = q.config.settings in
    or_else (count_refusal ((q.counters.lost + length (given_up_of set gaps)) ∷ [])) (nack_count_refusal (due_gaps now q gaps))

-- 15, 8, then 14, with an output of so many places, where so many are needed
unfoldable pub poll_nack_refusal : (needed places now : ℕ) → Queue → List Gap → ℕ
poll_nack_refusal needed places now q gaps = or_else (output_refusal needed places) (or_else (clock_refusal q now) (nacks_refusal now q gaps))

-- ---- any call

unfoldable pub call_refusal : Call → State → ℕ
call_refusal (media now d) s = media_refusal now d s
call_refusal (repair now d) s = repair_refusal now d s
call_refusal (poll now out) s = poll_refusal now out s
call_refusal (poll_nack now out) s = poll_nack_refusal s.queue.config.settings.max_gaps (length out) now s.queue s.gaps
-- 02, point 1: "15 also covers an output under 4 · G bytes"
call_refusal (nack_wire now out) s = poll_nack_refusal (entry_bytes * s.queue.config.settings.max_gaps) (length out) now s.queue s.gaps
call_refusal (timeout_receive now) s = clock_refusal s.queue now
call_refusal (timeout_nack now) s = clock_refusal s.queue now
call_refusal rtx_stats s = 0
call_refusal highest_received s = 0

unfoldable pub refusal : Call → Stored → ℕ
refusal c m = or_else (session_refusal m) (call_refusal c (parse m))

-- "Opening checks 1, then 16 for lengths alone."
unfoldable pub opening_refusal : Config → Storage → ℕ
opening_refusal c t = or_else (refuse_if (not (config_valid c)) SETTINGS) (refuse_if (not (lengths_fit c.settings t)) SESSION)
