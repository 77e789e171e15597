-- What the steps of `poll` and `poll_nack` find in storage and leave there.
use Rattle.std.specs.Prelude.{◌≡◌, true, List, ℕ, ◌+◌, ◌*◌, ◌≤◌, ◌<◌, ◌^◌, T, length, take}
use Rattle.std.specs.Bool.{then_some}
use Rattle.words.specs.Blocks.{laid}
use Rattle.words.specs.Order.{ascends}
use Rattle.durations.specs.Seconds.{largest}
use Rattle.packet_loss.specs.Loss.{loss_in_range}
use Rattle.rtx_state.specs.RoundTrip.{opt_rtt_in_range}
use Rattle.config.specs.Valid.{settings_valid}
use Rattle.model.specs.declared.Session.{Session}
use Rattle.model.specs.Records.{Entry, Gap, State, gap_numbers}
use Rattle.model.specs.Rules.{max_lost_nacked, given_up_of, not_given_up}
use Rattle.model.specs.Poll.{delay_of, drained_queue, drained, hands_out, going_out, lost_under}
use Rattle.model.specs.Valid.{last_sound}
use Rattle.model.specs.Storage.{Storage, Stored, entry_words, gap_words, remembered_words, entry_words_of, payload_bytes_of, gap_words_of, remembered_words_of, entries_of, gaps_of, write}
use Rattle.packet_gaps.specs.Gaps.{GapsIn}
use Rattle.entries.specs.Entries.{EntriesIn}
use Rattle.lost_nacked.specs.Remembered.{RememberedIn}
use Rattle.poll.specs.declared.Effect.{Effect}

-- the lists in storage, and the first entry, where there is one
abbrev pub entries_in : Stored → List Entry
entries_in m = entries_of m.storage.entries m.storage.payloads m.session.entries

abbrev pub gaps_in : Stored → List Gap
gaps_in m = gaps_of m.storage.gaps m.session.gaps

abbrev pub front : Stored → List Entry
front m = take 1 (entries_in m)

-- what checks 16 and 8 passed, as a `poll` needs it
pub record Polling (now : ℕ) (m : Stored) : Type 0 where
  pub entries_room : entry_words * m.session.entries ≤ length m.storage.entries
  pub gaps_room : gap_words * m.session.gaps ≤ length m.storage.gaps
  pub ascend : ascends (gap_numbers (gaps_in m)) ≡ true
  pub timely : (m.session.queue.clock ≤ now) × (now ≤ largest)
  pub settings_in : T (settings_valid m.session.queue.config.settings)
  pub last_in : T (last_sound m.session.queue.clock m.session.queue.last)
  pub loss_in : T (loss_in_range m.session.queue.loss)
  pub rtt_in : T (opt_rtt_in_range m.session.queue.rtx.rtt)

-- an entry is there to go out, with so many gaps below it
pub record Handing (lost delay : ℕ) (m : Stored) : Type 0 where
  pub entries_held : EntriesIn m.storage.entries m.storage.payloads m.session.entries
  pub some : 0 < m.session.entries
  pub gaps_held : GapsIn m.storage.gaps m.session.gaps
  pub ascend : ascends (gap_numbers (gaps_in m)) ≡ true
  pub remembered_held : RememberedIn m.storage.remembered m.session.remembered
  pub remembered_few : m.session.remembered ≤ max_lost_nacked
  pub room : remembered_words * max_lost_nacked ≤ length m.storage.remembered
  pub lost_fits : m.session.queue.counters.lost + m.session.gaps < 2 ^ 64
  pub lost_are : lost ≡ length (lost_under m.session.queue.config.settings.mode (front m) (gaps_in m))
  pub lost_few : lost ≤ m.session.gaps
  pub delay_is : delay ≡ delay_of m.session.queue

-- session and slices are those of s, in slices as long as those of t
pub record Leaves (s : State) (t : Storage) (m : Stored) : Type 0 where
  pub session_is : m.session ≡ (write s).session
  pub entries_are : m.storage.entries ≡ laid entry_words_of (length t.entries) s.entries
  pub payloads_are : m.storage.payloads ≡ laid payload_bytes_of (length t.payloads) s.entries
  pub gaps_are : m.storage.gaps ≡ laid gap_words_of (length t.gaps) s.gaps
  pub remembered_are : m.storage.remembered ≡ laid remembered_words_of (length t.remembered) s.remembered

-- the session beside the storage of `drained`
unfoldable pub drained_session : ℕ → Session → List Gap → Session
drained_session now s gaps =
    let set = s.queue.config.settings in
    record { queue = drained_queue now s.queue gaps; entries = s.entries; gaps = length (not_given_up set gaps); remembered = s.remembered }

-- what `poll` does, by counts: the gaps given up, the delay, and the gaps lost below the front entry, where it goes out
unfoldable pub effect_for : ℕ → State → Effect
effect_for now s =
    let set = s.queue.config.settings in
    record { given = length (given_up_of set s.gaps); delay = delay_of s.queue; lost = then_some (hands_out now s.queue s.entries) (length (lost_under set.mode (going_out now s s.entries) (drained now s).gaps)) }
