-- The eight calls at the head of 01 and those that 02 adds, what each answers and what it leaves. The opening is in Did.
use Rattle.std.specs.Prelude.{Bool, cond, List, [], ◌∷◌, ℕ, zero, suc, length, Option}
use Rattle.words.specs.Words.{over}
use Rattle.rtp.specs.Numbers.{low_bits}
use Rattle.stats.specs.declared.RtpInboundRtxStats.{RtpInboundRtxStats}
use Rattle.model.specs.declared.Queue.{Queue}
use Rattle.model.specs.Records.{Entry, State, highest_of}
use Rattle.model.specs.Rules.{Place, waits}
use Rattle.model.specs.Push.{media_entry_of, media_place, after_media, Fate, repair_entry, repair_fate, after_repair}
use Rattle.model.specs.Poll.{delay_of, going_out, after_poll, due_gaps, nack_numbers, nack_entries_of, after_poll_nack, receive_timeout_of, timings_of, nack_timeout_of, repair_figures_of}

-- A call with its own arguments: `now`, then the datagram, or the lent output.
pub data Call : Type 0 where
  media repair : ℕ → List ℕ → Call
  poll poll_nack : ℕ → List ℕ → Call
  -- 02, point 1: a `poll_nack` whose output is on the wire
  nack_wire : ℕ → List ℕ → Call
  timeout_receive timeout_nack : ℕ → Call
  rtx_stats highest_received : Call

-- What `poll` returns beside the payload: the packet's own fields, its arrival and the delay.
pub record Packet : Type 0 where
  pub pt : ℕ
  pub number : ℕ
  pub timestamp : ℕ
  pub ssrc : ℕ
  pub marker : Bool
  pub arrival : Option ℕ
  pub delay : ℕ
  -- how many bytes of the output are its payload
  pub size : ℕ

pub data Answer : Type 0 where
  -- with the number of the first check that catches the call
  refused : ℕ → Answer
  queued dropped : Answer
  -- recovered, redundant or too late
  repaired : Fate → Answer
  -- `poll` and `poll_nack` where nothing is handed out or due
  nothing : Answer
  packet : Packet → Answer
  -- how many numbers stand in the output
  nack : ℕ → Answer
  -- how many bytes do, 0 where nothing is due (02, point 1: "the answer to a call that writes counts the bytes .. written")
  wire : ℕ → Answer
  timeout : Option ℕ → Answer
  stats : Option RtpInboundRtxStats → Answer
  highest : Option ℕ → Answer

-- ---- what an accepted call leaves

unfoldable pub taken : Call → State → State
taken (media now d) s = after_media now d s
taken (repair now d) s = after_repair now d s
taken (poll now out) s = after_poll now s
taken (poll_nack now out) s = after_poll_nack now s
-- 02, point 1: "with the same effect on the session"
taken (nack_wire now out) s = after_poll_nack now s
taken (timeout_receive now) s = s
taken (timeout_nack now) s = s
taken rtx_stats s = s
taken highest_received s = s

-- ---- what it answers

unfoldable pub packet_of : Queue → Entry → Packet
packet_of q e =
    record { pt = q.config.senders.pt; number = low_bits 16 e.number; timestamp = low_bits 32 e.timestamp; ssrc = q.config.senders.ssrc.0; marker = e.marker; arrival = e.arrival; delay = delay_of q; size = length e.payload }

unfoldable pub handed : Queue → List Entry → Answer
handed q [] = nothing
handed q (e ∷ es) = packet (packet_of q e)

-- so many numbers are due
unfoldable pub nack_answer : ℕ → Answer
nack_answer zero = nothing
nack_answer (suc n) = nack (suc n)

unfoldable pub placed_answer : Place → Answer
placed_answer p = cond (waits p) queued dropped

unfoldable pub answered : Call → State → Answer
unfolding placed_answer
answered (media now d) s = placed_answer (media_place s (media_entry_of now d s.queue).number)
answered (repair now d) s = repaired (repair_fate s (repair_entry d s.queue).number)
answered (poll now out) s = handed s.queue (going_out now s s.entries)
answered (poll_nack now out) s = nack_answer (length (due_gaps now s.queue s.gaps))
answered (nack_wire now out) s = wire (length (nack_entries_of now s))
answered (timeout_receive now) s = timeout (receive_timeout_of s.queue s.entries now)
answered (timeout_nack now) s = timeout (nack_timeout_of (timings_of s.queue) now s.gaps)
answered rtx_stats s = stats (repair_figures_of s.queue)
answered highest_received s = highest (highest_of s.queue.last)

-- ---- the lent output

-- the payload of the entry that goes out, if one does
unfoldable pub payload_out : List Entry → List ℕ
payload_out [] = []
payload_out (e ∷ es) = e.payload

unfoldable pub output_of : Call → List ℕ
output_of (media now d) = []
output_of (repair now d) = []
output_of (poll now out) = out
output_of (poll_nack now out) = out
output_of (nack_wire now out) = out
output_of (timeout_receive now) = []
output_of (timeout_nack now) = []
output_of rtx_stats = []
output_of highest_received = []

-- "Hand-out": "Output after the payload or the last NACK number keeps its bytes." 02, point 1: "lent output after them is kept"
unfoldable pub output_after : Call → State → List ℕ
output_after (media now d) s = []
output_after (repair now d) s = []
output_after (poll now out) s = over (payload_out (going_out now s s.entries)) out
output_after (poll_nack now out) s = over (nack_numbers now s) out
output_after (nack_wire now out) s = over (nack_entries_of now s) out
output_after (timeout_receive now) s = []
output_after (timeout_nack now) s = []
output_after rtx_stats s = []
output_after highest_received s = []
