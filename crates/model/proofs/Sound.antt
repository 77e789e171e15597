-- What check 16 says of a session, as facts: records that name each of them, and each test of a number with the fact that it stands for.
use mathlib.Core.Logic.{◌≢◌}
use mathlib.Core.Bool.{not}
use mathlib.Core.List.{List}
use Prim.Native.Nat.{ℕ, ◌*◌, ◌≤◌, ◌<◌}
use native.Mathlib.Omega.{arith}
use lib.Dec.{T, leb, leb→le, le→leb, nleb→lt, ltb→lt, lt→ltb, not_T}
use lib.ListN.{length}
use Rattle.std.specs.Prelude.{Option, None, Some}
use Rattle.durations.specs.Seconds.{largest}
use Rattle.rtp_packet.specs.Datagram.{largest_payload}
use Rattle.rtx_state.specs.RoundTrip.{opt_rtt_in_range}
use Rattle.rtx_state.specs.declared.RtxState.{RtxState}
use Rattle.jitter.specs.Interarrival.{jitter_in_range}
use Rattle.packet_loss.specs.Loss.{loss_in_range}
use Rattle.config.specs.declared.RtpInboundQueueMode.{RtpInboundQueueMode}
use Rattle.config.specs.declared.RtpInboundQueueMode.TheVariants.{Passthrough, SortedQueue}
use Rattle.model.specs.declared.Counters.{Counters}
use Rattle.model.specs.declared.Queue.{Queue}
use Rattle.rtp.specs.Opt.{number_of, at_most}
use Rattle.model.specs.Records.{Entry, Gap, Remembered, State, highest_of}
use Rattle.model.specs.Rules.{max_lost_nacked}
use Rattle.model.specs.Push.{passed}
use Rattle.model.specs.Valid.{under, by_clock, last_sound, returned_sound}
use Rattle.model.specs.Table.{config_valid}
use Rattle.model.proofs.Lists.{Each, Rising}

-- ---- numbers and instants

-- not above the highest; there is none before any media packet
unfoldable pub Reached : Option ℕ → ℕ → Type 0
Reached None n = ⊥
Reached (Some h) n = n ≤ h

unfoldable pub Under : Option ℕ → ℕ → Type 0
Under None n = ⊥
Under (Some h) n = n < h

-- in sorted mode above the last returned
unfoldable pub Ahead : RtpInboundQueueMode → Option ℕ → ℕ → Type 0
Ahead Passthrough returned n = Unit {0}
Ahead (SortedQueue sorted) None n = Unit {0}
Ahead (SortedQueue sorted) (Some m) n = m < n

unfoldable pub Returned : Option ℕ → Option ℕ → Type 0
unfolding Reached
Returned highest None = Unit {0}
Returned highest (Some n) = Reached highest n

-- none, or not after the clock's
unfoldable pub By : ℕ → Option ℕ → Type 0
By clock None = Unit {0}
By clock (Some i) = i ≤ clock

pub reached_of : (h : Option ℕ) (n : ℕ) → T (at_most n h) → Reached h n
unfolding at_most Reached
reached_of None n t = t
reached_of (Some h) n t = leb→le n h t

pub reached_to : (h : Option ℕ) (n : ℕ) → Reached h n → T (at_most n h)
unfolding at_most Reached
reached_to None n t = t
reached_to (Some h) n t = le→leb n h t

pub under_of : (h : Option ℕ) (n : ℕ) → T (under h n) → Under h n
unfolding under Under
under_of None n t = t
under_of (Some h) n t = ltb→lt n h t

pub under_to : (h : Option ℕ) (n : ℕ) → Under h n → T (under h n)
unfolding under Under
under_to None n t = t
under_to (Some h) n t = lt→ltb n h t

pub ahead_of : (mode : RtpInboundQueueMode) (r : Option ℕ) (n : ℕ) → T (not (passed mode r n)) → Ahead mode r n
unfolding passed at_most Ahead
ahead_of Passthrough r n t = tt
ahead_of (SortedQueue sorted) None n t = tt
ahead_of (SortedQueue sorted) (Some m) n t = nleb→lt n m t

pub ahead_to : (mode : RtpInboundQueueMode) (r : Option ℕ) (n : ℕ) → Ahead mode r n → T (not (passed mode r n))
unfolding passed at_most Ahead
ahead_to Passthrough r n t = tt
ahead_to (SortedQueue sorted) None n t = tt
ahead_to (SortedQueue sorted) (Some m) n t = not_T (leb n m) (λ u. absurd (omega (arith, leb→le n m u)))

pub returned_of_lem : (h r : Option ℕ) → T (returned_sound h r) → Returned h r
unfolding returned_sound Returned
returned_of_lem h None t = tt
returned_of_lem h (Some n) t = reached_of h n t

pub returned_to : (h r : Option ℕ) → Returned h r → T (returned_sound h r)
unfolding returned_sound Returned
returned_to h None t = tt
returned_to h (Some n) t = reached_to h n t

pub by_of : (clock : ℕ) (i : Option ℕ) → T (by_clock clock i) → By clock i
unfolding by_clock By
by_of clock None t = tt
by_of clock (Some i) t = leb→le i clock t

pub by_to : (clock : ℕ) (i : Option ℕ) → By clock i → T (by_clock clock i)
unfolding by_clock By
by_to clock None t = tt
by_to clock (Some i) t = le→leb i clock t

-- ---- the records

module _ (clock : ℕ) (highest : Option ℕ) (mode : RtpInboundQueueMode) (returned : Option ℕ) where
  pub record GapIn (g : Gap) : Type 0 where
    pub under : Under highest g.number
    pub ahead : Ahead mode returned g.number
    pub detected-by : g.detected ≤ clock
    pub nacked-by : g.nacked_at ≤ clock

  pub record EntryIn (e : Entry) : Type 0 where
    pub reached : Reached highest e.number
    pub ahead : Ahead mode returned e.number
    pub timestamp-fits : e.timestamp ≤ largest
    pub came_by : By clock e.arrival
    pub payload-fits : length e.payload ≤ largest_payload

-- no gap has the number
abbrev pub Apart : List Gap → ℕ → Type 0
Apart gaps n = Each (λ (g : Gap). g.number ≢ n) gaps

pub record RememberedIn (clock : ℕ) (r : Remembered) : Type 0 where
  pub number_fits : r.number ≤ largest
  pub nacked-by : r.nacked_at ≤ clock

-- what check 16 says of the three lists
pub record ListsIn (clock : ℕ) (highest : Option ℕ) (mode : RtpInboundQueueMode) (returned : Option ℕ) (gaps : List Gap) (entries : List Entry) (remembered : List Remembered) : Type 0 where
  pub returned_in : Returned highest returned
  pub gaps_rise : Rising (λ (g : Gap). g.number) gaps
  pub gaps_in : Each (GapIn clock highest mode returned) gaps
  pub entries_rise : Rising (λ (e : Entry). e.number) entries
  pub entries_in : Each (EntryIn clock highest mode returned) entries
  pub apart : Each (λ (e : Entry). Apart gaps e.number) entries
  pub remembered_in : Each (RememberedIn clock) remembered

pub record CountersIn (c : Counters) : Type 0 where
  pub dropped_fits : c.dropped ≤ largest
  pub received-fits : c.received ≤ largest
  pub bytes_fit : c.bytes ≤ largest
  pub lost_fits : c.lost ≤ largest

pub record RtxIn (r : RtxState) : Type 0 where
  pub rtt_in : T (opt_rtt_in_range r.rtt)
  pub in_time_fits : r.received_in_time ≤ largest
  pub too_late_fits : r.received_too_late ≤ largest
  pub redundant_fits : r.received_redundant ≤ largest
  pub bytes_fit : r.bytes_received ≤ largest

-- what it says of the settings and of the queue's own numbers
pub record QueueIn (q : Queue) : Type 0 where
  pub config_in : T (config_valid q.config)
  pub last_in : T (last_sound q.clock q.last)
  pub counters_in : CountersIn q.counters
  pub rtx_in : RtxIn q.rtx
  pub jitter_in : T (jitter_in_range q.config.settings.clock_rate q.jitter)
  pub loss_in : T (loss_in_range q.loss)

-- the records find places
pub record Fits (s : State) : Type 0 where
  pub entries_fit : length s.entries ≤ 2 * s.queue.config.settings.max_entries
  pub gaps-fit : length s.gaps ≤ s.queue.config.settings.max_gaps
  pub remembered-fit : length s.remembered ≤ max_lost_nacked

abbrev pub ListsOf : State → Type 0
ListsOf s = ListsIn s.queue.clock (highest_of s.queue.last) s.queue.config.settings.mode (number_of s.queue.returned) s.gaps s.entries s.remembered

-- all that it says, but for the lengths of the storage
pub record Sound (s : State) : Type 0 where
  pub fits : Fits s
  pub queue_in : QueueIn s.queue
  pub lists_in : ListsOf s
