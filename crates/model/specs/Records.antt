-- 01, "The records": entries, gaps and remembered numbers as plain lists beside the queue's own numbers.
use Rattle.std.specs.Prelude.{Bool, List, [], map, ℕ, Option, None, Some}
use Rattle.model.specs.declared.Received.{Received}
use Rattle.rtx_state.specs.declared.RtxState.{RtxState}
use Rattle.rtx_state.specs.Repair.{new_rtx_state}
use Rattle.jitter.specs.declared.Jitter.{Jitter}
use Rattle.jitter.specs.Interarrival.{new_jitter}
use Rattle.packet_loss.specs.declared.PacketLoss.{PacketLoss}
use Rattle.packet_loss.specs.Loss.{new_loss}
use Rattle.model.specs.declared.Config.{Config}
use Rattle.model.specs.declared.Counters.{Counters}
use Rattle.model.specs.declared.Queue.{Queue}

-- "arrival instant or none for a repair, extended timestamp and number, packet". Of the packet marker and payload are kept: payload type and
-- SSRC are the session's, by checks 6 and 7, and its own number and timestamp are the low bits of the extended ones.
pub record Entry : Type 0 where
  pub arrival : Option ℕ
  pub timestamp : ℕ
  pub number : ℕ
  pub marker : Bool
  pub payload : List ℕ

-- "number, instant detected, last NACK instant and NACK count"; where the count is 0 only check 16 looks at the instant
pub record Gap : Type 0 where
  pub number : ℕ
  pub detected : ℕ
  pub nacks : ℕ
  pub nacked_at : ℕ

-- a lost number that was NACKed just once, with the instant
pub record Remembered : Type 0 where
  pub number : ℕ
  pub nacked_at : ℕ

pub record State : Type 0 where
  pub queue : Queue
  -- ascending by number
  pub entries : List Entry
  pub gaps : List Gap
  -- oldest first
  pub remembered : List Remembered

abbrev pub entry_numbers : List Entry → List ℕ
entry_numbers l = map (λ (e : Entry). e.number) l

abbrev pub gap_numbers : List Gap → List ℕ
gap_numbers l = map (λ (g : Gap). g.number) l

-- ---- what the queue tells

-- the highest number, its timestamp: the references by which numbers are extended
unfoldable pub highest_of : Option Received → Option ℕ
highest_of None = None
highest_of (Some r) = Some r.number.0

unfoldable pub last_timestamp_of : Option Received → Option ℕ
last_timestamp_of None = None
last_timestamp_of (Some r) = Some r.timestamp.0

-- ---- a newly opened session

unfoldable pub new_queue : Config → Queue
new_queue c =
    record { config = c; clock = 0; last = None; returned = None; rtx = new_rtx_state; counters = record { dropped = 0; received = 0; bytes = 0; lost = 0 }; jitter = new_jitter c.settings.clock_rate; loss = new_loss }

unfoldable pub new_state : Config → State
unfolding new_queue
new_state c = record { queue = new_queue c; entries = []; gaps = []; remembered = [] }

-- ---- one field at a time: a record has no update

module _ (q : Queue) where
  abbrev pub with_clock : ℕ → Queue
  with_clock now = record { config = q.config; clock = now; last = q.last; returned = q.returned; rtx = q.rtx; counters = q.counters; jitter = q.jitter; loss = q.loss }

  abbrev pub with_last : Option Received → Queue
  with_last l = record { config = q.config; clock = q.clock; last = l; returned = q.returned; rtx = q.rtx; counters = q.counters; jitter = q.jitter; loss = q.loss }

  abbrev pub with_returned : ℕ → Queue
  with_returned n =
      record { config = q.config; clock = q.clock; last = q.last; returned = Some (record { 0 = n }); rtx = q.rtx; counters = q.counters; jitter = q.jitter; loss = q.loss }

  abbrev pub with_rtx : RtxState → Queue
  with_rtx r = record { config = q.config; clock = q.clock; last = q.last; returned = q.returned; rtx = r; counters = q.counters; jitter = q.jitter; loss = q.loss }

  abbrev pub with_counters : Counters → Queue
  with_counters c = record { config = q.config; clock = q.clock; last = q.last; returned = q.returned; rtx = q.rtx; counters = c; jitter = q.jitter; loss = q.loss }

  abbrev pub with_jitter : Jitter → Queue
  with_jitter j = record { config = q.config; clock = q.clock; last = q.last; returned = q.returned; rtx = q.rtx; counters = q.counters; jitter = j; loss = q.loss }

  abbrev pub with_loss : PacketLoss → Queue
  with_loss l = record { config = q.config; clock = q.clock; last = q.last; returned = q.returned; rtx = q.rtx; counters = q.counters; jitter = q.jitter; loss = l }
