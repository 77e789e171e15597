-- 01's table, row 16, but for the storage lengths and the settings: what makes a stored session sound.
use Rattle.std.specs.Prelude.{Bool, true, false, ◌&&◌, not, List, ℕ, leb, ltb, length, Option, None, Some}
use Rattle.words.specs.Order.{ascends}
use Rattle.model.specs.declared.Received.{Received}
use Rattle.durations.specs.Seconds.{largest}
use Rattle.rtp_packet.specs.Datagram.{largest_payload}
use Rattle.rtx_state.specs.Repair.{rtx_in_range}
use Rattle.jitter.specs.Interarrival.{jitter_in_range}
use Rattle.packet_loss.specs.Loss.{loss_in_range}
use Rattle.config.specs.declared.Settings.{Settings}
use Rattle.model.specs.declared.Counters.{Counters}
use Rattle.model.specs.declared.Queue.{Queue}
use Rattle.model.specs.Lists.{some?, every?}
use Rattle.rtp.specs.Opt.{number_of, at_most}
use Rattle.model.specs.Records.{Entry, Gap, Remembered, State, entry_numbers, gap_numbers, highest_of}
use Rattle.model.specs.Rules.{is, max_lost_nacked}
use Rattle.model.specs.Push.{passed_of}
use Rattle.model.specs.Storage.{entry_places}

-- what the numbers and instants of the lists are held against
pub record Bounds : Type 0 where
  -- in sorted mode the last returned: entries and gaps are above it
  pub passed : Option ℕ
  -- the highest number so far
  pub highest : Option ℕ
  pub clock : ℕ

unfoldable pub bounds_of : Queue → Bounds
unfolding passed_of
bounds_of q = record { passed = passed_of q.config.settings.mode (number_of q.returned); highest = highest_of q.last; clock = q.clock }

-- a gap is not "at the highest" either
unfoldable pub under : Option ℕ → ℕ → Bool
under None n = false
under (Some h) n = ltb n h

-- "in sorted mode not above the last returned" is damage
unfoldable pub not_passed : Option ℕ → ℕ → Bool
not_passed passed n = not (at_most n passed)

-- none, or not after the clock's
unfoldable pub by_clock : ℕ → Option ℕ → Bool
by_clock clock None = true
by_clock clock (Some i) = leb i clock

unfoldable pub gap_sound : Bounds → Gap → Bool
gap_sound b g = under b.highest g.number && (not_passed b.passed g.number && (leb g.detected b.clock && leb g.nacked_at b.clock))

abbrev pub gaps_sound : Bounds → List Gap → Bool
gaps_sound b gaps = ascends (gap_numbers gaps) && every? (gap_sound b) gaps

-- of an entry's fields and its payload's size; `missing` says that a gap has its number. The number is bounded by the highest, which
-- `last_sound` keeps within 2^52 − 1.
unfoldable pub fields_sound : Bounds → (missing : Bool) (number timestamp : ℕ) → Option ℕ → (size : ℕ) → Bool
fields_sound b missing number timestamp arrival size =
    at_most number b.highest
    && (not_passed b.passed number
    && (not missing
    && (leb timestamp largest
    && (by_clock b.clock arrival
    && leb size largest_payload))))

abbrev pub entry_sound : Bounds → List Gap → Entry → Bool
entry_sound b gaps e = fields_sound b (some? (is e.number) gaps) e.number e.timestamp e.arrival (length e.payload)

abbrev pub entries_sound : Bounds → List Gap → List Entry → Bool
entries_sound b gaps entries = ascends (entry_numbers entries) && every? (entry_sound b gaps) entries

unfoldable pub remembered_sound : ℕ → Remembered → Bool
remembered_sound clock r = leb r.number largest && leb r.nacked_at clock

unfoldable pub lists_sound : State → Bool
lists_sound s =
    let b = bounds_of s.queue in
    gaps_sound b s.gaps && (entries_sound b s.gaps s.entries && every? (remembered_sound s.queue.clock) s.remembered)

unfoldable pub last_sound : ℕ → Option Received → Bool
last_sound clock None = true
last_sound clock (Some r) = leb r.instant clock && (leb r.timestamp.0 largest && leb r.number.0 largest)

unfoldable pub returned_sound : Option ℕ → Option ℕ → Bool
returned_sound highest None = true
returned_sound highest (Some n) = at_most n highest

unfoldable pub counters_sound : Counters → Bool
counters_sound c = leb c.dropped largest && (leb c.received largest && (leb c.bytes largest && leb c.lost largest))

unfoldable pub queue_sound : Queue → Bool
queue_sound q =
    last_sound q.clock q.last
    && (returned_sound (highest_of q.last) (number_of q.returned)
    && (counters_sound q.counters
    && (rtx_in_range q.rtx
    && (jitter_in_range q.config.settings.clock_rate q.jitter
    && loss_in_range q.loss))))

-- "more than 2 · D entries, G gaps or 1,024 remembered"
unfoldable pub counts_fit : Settings → ℕ → ℕ → ℕ → Bool
counts_fit set entries gaps remembered = leb entries (entry_places set) && (leb gaps set.max_gaps && leb remembered max_lost_nacked)

unfoldable pub sound : State → Bool
sound s =
    counts_fit s.queue.config.settings (length s.entries) (length s.gaps) (length s.remembered)
    && (queue_sound s.queue && lists_sound s)
