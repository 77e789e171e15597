-- The queue's floats are values of their formats after each call, if they were before it: each is one that was there, or an operation's result.
use mathlib.Core.Bool.{Bool, true, false, cond}
use mathlib.Core.List.{List, [], ◌∷◌}
use Prim.Native.Nat.{ℕ, zero, suc}
use lib.Dec.{T, eqb}
use lib.ListN.{length}
use lib.Ieee.{Float, binary32, binary64, fits, lt, sub, mul, div}
use lib.Ieee.Bits.{of_bits-fits}
use lib.Ieee.Fits.{add-fits, of_int-fits}
use Rattle.jitter.specs.declared.Jitter.{Jitter}
use Rattle.jitter.specs.Interarrival.{tiny, one64, sixteen, sixty_four, magnitude, recv_delta, rtp_ts_delta, moved, sampled, jitter_updated}
use Rattle.packet_loss.specs.declared.PacketLoss.{PacketLoss}
use Rattle.packet_loss.specs.Loss.{record_received, record_lost}
use Rattle.model.specs.declared.Config.{Config}
use Rattle.model.specs.declared.Received.{Received}
use Rattle.std.specs.Prelude.{Option, None, Some}
use Rattle.model.specs.declared.Queue.{Queue}
use Rattle.model.specs.Records.{Entry, State, new_queue, new_state}
use Rattle.model.specs.Rules.{Place, waits, overfull}
use Rattle.model.specs.Push.{Fate, too_late, recovered, redundant, jitter_after, heard, after_dropped, after_queued, front_out_of, within_depth, after_placed, after_media, after_fate, after_repair}
use Rattle.model.specs.Poll.{lose, drained, going_out, hand_out, after_poll, nack_all, after_poll_nack}
use Rattle.model.specs.Calls.{Call, media, repair, poll, poll_nack, nack_wire, timeout_receive, timeout_nack, rtx_stats, highest_received, taken}
use Rattle.ffi_words.specs.Words.{FloatsFit}

-- ---- a property of either branch

either : {A : Type 0} (P : A → Type 0) (b : Bool) (x y : A) → P x → P y → P (cond b x y)
either P true x y h k = h
either P false x y h k = k

-- ---- jitter and loss

record JitterFits (j : Jitter) : Type 0 where
  rate_fits : T (fits binary64 j.clock_rate)
  jitter_fits : T (fits binary64 j.jitter)

moved-fits : (x d : Float) → T (fits binary64 (moved x d))
unfolding moved
moved-fits x d = add-fits binary64 x (div binary64 (sub binary64 d x) (cond (lt x d) sixteen sixty_four))

updated_fits : (j : Jitter) (now ts last last_ts : ℕ) → JitterFits j → JitterFits (jitter_updated j now ts last last_ts)
unfolding jitter_updated sampled
updated_fits j now ts last last_ts h =
    let received = recv_delta j now last in
    let sent = rtp_ts_delta ts last_ts in
    let d = magnitude (sub binary64 received sent) in
    or_same (eqb ts last_ts) _ (or_same (lt received tiny) _ (or_same (lt sent tiny) _ (or_same (lt (mul binary64 one64 j.clock_rate) d) _ (record { rate_fits = h.rate_fits; jitter_fits = moved-fits j.jitter d }))))
  where
    or_same : (b : Bool) (k : Jitter) → JitterFits k → JitterFits (cond b j k)
    or_same b k fit = either JitterFits b j k h fit

after-fits : (now ts : ℕ) (l : Option Received) (j : Jitter) → JitterFits j → JitterFits (jitter_after now ts l j)
unfolding jitter_after
after-fits now ts None j h = h
after-fits now ts (Some r) j h = updated_fits j now ts r.instant r.timestamp.0 h

lost_fits : (p : PacketLoss) (n : ℕ) → T (fits binary32 p.loss) → T (fits binary32 (record_lost p n).loss)
unfolding record_lost
lost_fits p zero h = h
lost_fits p (suc n) h = add-fits binary32 _ _

-- ---- each call

abbrev StateFits : State → Type 0
StateFits s = FloatsFit s.queue

heard-fits : (now ts : ℕ) (q : Queue) → FloatsFit q → FloatsFit (heard now ts q)
unfolding heard
heard-fits now ts q h =
    let j = after-fits now ts q.last q.jitter (record { rate_fits = h.rate_fits; jitter_fits = h.jitter_fits }) in
    record { rate_fits = j.rate_fits; jitter_fits = j.jitter_fits; loss_fits = h.loss_fits }

lose-fits : (n : ℕ) (q : Queue) → FloatsFit q → FloatsFit (lose n q)
unfolding lose
lose-fits n q h = record { rate_fits = h.rate_fits; jitter_fits = h.jitter_fits; loss_fits = lost_fits q.loss n h.loss_fits }

front_fits : (es : List Entry) (s : State) → StateFits s → StateFits (front_out_of es s)
unfolding front_out_of
front_fits [] s h = h
front_fits (e ∷ es) s h = record { rate_fits = h.rate_fits; jitter_fits = h.jitter_fits; loss_fits = h.loss_fits }

depth_fits : (s : State) → StateFits s → StateFits (within_depth s)
unfolding within_depth
depth_fits s h = either StateFits (overfull s.queue.config.settings (length s.entries)) (front_out_of s.entries s) s (front_fits s.entries s h) h

module _ (now : ℕ) (s : State) (h : StateFits s) where
  queued_fits : (e : Entry) (p : Place) → StateFits (after_queued now e p s)
  unfolding after_queued record_received
  queued_fits e p =
      let k = heard-fits now e.timestamp s.queue h in
      record { rate_fits = k.rate_fits; jitter_fits = k.jitter_fits; loss_fits = add-fits binary32 _ _ }

  dropped_fits : (ts : ℕ) → StateFits (after_dropped now ts s)
  unfolding after_dropped
  dropped_fits ts =
      let k = heard-fits now ts s.queue h in
      record { rate_fits = k.rate_fits; jitter_fits = k.jitter_fits; loss_fits = k.loss_fits }

  placed_fits : (e : Entry) (p : Place) → StateFits (after_placed now e p s)
  unfolding after_placed
  placed_fits e p =
      let queued = after_queued now e p s in
      either StateFits (waits p) (within_depth queued) (after_dropped now e.timestamp s) (depth_fits queued (queued_fits e p)) (dropped_fits e.timestamp)

  fate-fits : (e : Entry) (f : Fate) → StateFits (after_fate now e f s)
  unfolding after_fate
  fate-fits e too_late = record { rate_fits = h.rate_fits; jitter_fits = h.jitter_fits; loss_fits = h.loss_fits }
  fate-fits e redundant = record { rate_fits = h.rate_fits; jitter_fits = h.jitter_fits; loss_fits = h.loss_fits }
  fate-fits e recovered = record { rate_fits = h.rate_fits; jitter_fits = h.jitter_fits; loss_fits = lost_fits s.queue.loss 1 h.loss_fits }

  drained-fits : StateFits (drained now s)
  unfolding drained
  drained-fits = lose-fits _ _ (record { rate_fits = h.rate_fits; jitter_fits = h.jitter_fits; loss_fits = h.loss_fits })

hand_out-fits : (es : List Entry) (s : State) → StateFits s → StateFits (hand_out es s)
unfolding hand_out
hand_out-fits [] s h = h
hand_out-fits (e ∷ es) s h =
    let k = lose-fits _ s.queue h in
    record { rate_fits = k.rate_fits; jitter_fits = k.jitter_fits; loss_fits = k.loss_fits }

pub taken-fits : (k : Call) (s : State) → StateFits s → StateFits (taken k s)
unfolding taken after_media after_repair after_poll after_poll_nack nack_all
taken-fits (media now d) s h = placed_fits now s h _ _
taken-fits (repair now d) s h = fate-fits now s h _ _
taken-fits (poll now out) s h = hand_out-fits (going_out now s s.entries) (drained now s) (drained-fits now s h)
taken-fits (poll_nack now out) s h = drained-fits now s h
taken-fits (nack_wire now out) s h = drained-fits now s h
taken-fits (timeout_receive now) s h = h
taken-fits (timeout_nack now) s h = h
taken-fits rtx_stats s h = h
taken-fits highest_received s h = h

-- ---- the opening

pub new_fits : (c : Config) → StateFits (new_state c)
unfolding new_state new_queue
new_fits c = record { rate_fits = of_int-fits binary64 _; jitter_fits = of_bits-fits binary64 _; loss_fits = of_bits-fits binary32 _ }
