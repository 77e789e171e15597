-- What a call that is not refused says of its values, and that the queue's own numbers then stay within check 16's bounds.
use mathlib.Core.Path.{◌≡◌}
use mathlib.Core.Bool.{Bool, true, false, not, ◌&&◌, ◌||◌}
use mathlib.Core.List.{List}
use Prim.Native.Nat.{ℕ, ◌+◌, ◌-◌, ◌≤◌, ◌<◌}
use native.Mathlib.Omega.{arith}
use lib.Dec.{T, leb, ltb, leb→le, le→leb, nltb→le, lit<}
use lib.Ieee.Fits.{and_l, and_r, and_i}
use Rattle.rtx_state.specs.declared.RtxRtt.{RtxRtt}
use Rattle.model.specs.declared.Received.{Received}
use Rattle.std.specs.Prelude.{Option, None, Some}
use Rattle.refusals.specs.Refusals.{CLOCK, COUNT, refuse_if}
use Rattle.durations.specs.Seconds.{largest}
use Rattle.jitter.specs.declared.Jitter.{Jitter}
use Rattle.jitter.specs.Interarrival.{jitter_in_range}
use Rattle.jitter.proofs.Range.{updated_in}
use Rattle.packet_loss.specs.declared.PacketLoss.{PacketLoss}
use Rattle.packet_loss.specs.Loss.{loss_in_range}
use Rattle.packet_loss.proofs.Range.{lost_in}
use Rattle.rtx_state.specs.declared.RtxState.{RtxState}
use Rattle.rtx_state.specs.RoundTrip.{opt_rtt_in_range}
use Rattle.rtx_state.proofs.Range.{sampled_in}
use Rattle.model.specs.declared.Queue.{Queue}
use Rattle.model.specs.Lists.{some?}
use Rattle.model.specs.declared.Counters.{Counters}
use Rattle.model.specs.Records.{highest_of, with_clock, with_last, with_returned, with_rtx, with_counters, with_jitter, with_loss}
use Rattle.model.specs.Rules.{Place, first, near, far, fills, other, sampled_at}
use Rattle.model.specs.Push.{jitter_after, heard, last_after, count_dropped}
use Rattle.model.specs.Poll.{count_lost, lose}
use Rattle.model.specs.Valid.{last_sound}
use Rattle.model.specs.Table.{clock_refusal, count_refusal}
use Rattle.model.proofs.Lists.{by_nor, Each, each_imp, each_not_of_some}
use Rattle.model.proofs.Sound.{Under, CountersIn, RtxIn, QueueIn}
use Rattle.model.proofs.SoundTest.{rate-small}

-- ---- checks that pass

pub not-refused : (t : Bool) (k : ℕ) → 0 < k → refuse_if t k ≡ 0 → T (not t)
unfolding refuse_if
not-refused true k h e = absurd (omega arith)
not-refused false k h e = tt

pub clock_of : (q : Queue) (now : ℕ) → clock_refusal q now ≡ 0 → (q.clock ≤ now) × (now ≤ largest)
unfolding clock_refusal
clock_of q now e =
    by_nor (ltb largest now) (ltb now q.clock) (not-refused (ltb largest now || ltb now q.clock) CLOCK (lit< tt) e) (λ a b. (nltb→le now q.clock b, nltb→le largest now a))

pub counts_of : (values : List ℕ) → count_refusal values ≡ 0 → Each (λ v. v ≤ largest) values
unfolding count_refusal
counts_of values e = each_imp (λ v h. nltb→le largest v h) (each_not_of_some (ltb largest) values (not-refused (some? (ltb largest) values) COUNT (lit< tt) e))

-- ---- the last media packet

pub last-later : {clock now : ℕ} (l : Option Received) → clock ≤ now → T (last_sound clock l) → T (last_sound now l)
unfolding last_sound
last-later None le t = tt
last-later {clock} {now} (Some r) le t =
    let rest = leb r.timestamp.0 largest && leb r.number.0 largest in
    and_i (leb r.instant now) rest (le→leb r.instant now (omega (arith, leb→le r.instant clock (and_l (leb r.instant clock) rest t)))) (and_r (leb r.instant clock) rest t)

pub last-after : (now : ℕ) {ts n : ℕ} (p : Place) (l : Option Received) → ts ≤ largest → n ≤ largest → T (last_sound now l) → T (last_sound now (last_after now ts n p l))
unfolding last_after last_sound
last-after now {ts} {n} p l a b t = go p
  where
    new : T (leb now now && (leb ts largest && leb n largest))
    new = and_i (leb now now) (leb ts largest && leb n largest) (le→leb now now (omega arith)) (and_i (leb ts largest) (leb n largest) (le→leb ts largest a) (le→leb n largest b))

    go : (p : Place) → T (last_sound now (last_after now ts n p l))
    go first = new
    go (near h) = new
    go (far h) = new
    go fills = t
    go other = t

-- a number below the highest
pub under-fits : (clock : ℕ) {n : ℕ} (l : Option Received) → T (last_sound clock l) → Under (highest_of l) n → n ≤ largest
unfolding last_sound highest_of Under
under-fits clock None t u = absurd u
under-fits clock (Some r) t u =
    let last = leb r.number.0 largest in
    omega (arith, leb→le r.number.0 largest (and_r (leb r.timestamp.0 largest) last (and_r (leb r.instant clock) (leb r.timestamp.0 largest && last) t)))

-- ---- jitter and round trip

jitter_after_lem : (clock : ℕ) {now ts rate : ℕ} (l : Option Received) (j : Jitter) → rate ≤ 1000000 → now ≤ largest → ts ≤ largest → T (last_sound clock l) → T (jitter_in_range rate j) → T (jitter_in_range rate (jitter_after now ts l j))
unfolding jitter_after last_sound
jitter_after_lem clock None j small a b t h = h
jitter_after_lem clock {now} {ts} {rate} (Some r) j small a b t h =
    let c = leb→le r.timestamp.0 largest (and_l (leb r.timestamp.0 largest) (leb r.number.0 largest) (and_r (leb r.instant clock) (leb r.timestamp.0 largest && leb r.number.0 largest) t)) in
    updated_in rate (omega arith) j h now ts r.instant r.timestamp.0 (omega arith) (omega arith) (omega arith)

pub sample_in : {now : ℕ} (instant : Option ℕ) (rtt : Option RtxRtt) → now ≤ largest → T (opt_rtt_in_range rtt) → T (opt_rtt_in_range (sampled_at now instant rtt))
unfolding sampled_at
sample_in None rtt le t = t
sample_in {now} (Some i) rtt le t = sampled_in rtt (now - i) t (omega arith)

-- ---- one part of the queue set

module _ {q : Queue} (h : QueueIn q) where
  pub clock-set : {now : ℕ} → q.clock ≤ now → QueueIn (with_clock q now)
  clock-set later = record { config_in = h.config_in; last_in = last-later q.last later h.last_in; counters_in = h.counters_in; rtx_in = h.rtx_in; jitter_in = h.jitter_in; loss_in = h.loss_in }

  pub last_set : {l : Option Received} → T (last_sound q.clock l) → QueueIn (with_last q l)
  last_set k = record { config_in = h.config_in; last_in = k; counters_in = h.counters_in; rtx_in = h.rtx_in; jitter_in = h.jitter_in; loss_in = h.loss_in }

  pub returned-set : (n : ℕ) → QueueIn (with_returned q n)
  returned-set n = record { config_in = h.config_in; last_in = h.last_in; counters_in = h.counters_in; rtx_in = h.rtx_in; jitter_in = h.jitter_in; loss_in = h.loss_in }

  pub rtx_set : {r : RtxState} → RtxIn r → QueueIn (with_rtx q r)
  rtx_set k = record { config_in = h.config_in; last_in = h.last_in; counters_in = h.counters_in; rtx_in = k; jitter_in = h.jitter_in; loss_in = h.loss_in }

  pub counters_set : {c : Counters} → CountersIn c → QueueIn (with_counters q c)
  counters_set k = record { config_in = h.config_in; last_in = h.last_in; counters_in = k; rtx_in = h.rtx_in; jitter_in = h.jitter_in; loss_in = h.loss_in }

  pub jitter_set : {j : Jitter} → T (jitter_in_range q.config.settings.clock_rate j) → QueueIn (with_jitter q j)
  jitter_set k = record { config_in = h.config_in; last_in = h.last_in; counters_in = h.counters_in; rtx_in = h.rtx_in; jitter_in = k; loss_in = h.loss_in }

  pub loss-set : {l : PacketLoss} → T (loss_in_range l) → QueueIn (with_loss q l)
  loss-set k = record { config_in = h.config_in; last_in = h.last_in; counters_in = h.counters_in; rtx_in = h.rtx_in; jitter_in = h.jitter_in; loss_in = k }

-- one more dropped, n more lost
pub dropped_in : {q : Queue} → QueueIn q → q.counters.dropped + 1 ≤ largest → QueueIn (with_counters q (count_dropped q.counters))
unfolding count_dropped
dropped_in h d = let c = h.counters_in in counters_set h (record { dropped_fits = d; received-fits = c.received-fits; bytes_fit = c.bytes_fit; lost_fits = c.lost_fits })

pub lose_in : {q : Queue} (n : ℕ) → QueueIn q → q.counters.lost + n ≤ largest → QueueIn (lose n q)
unfolding lose count_lost
lose_in {q} n h k =
    let c = h.counters_in in
    loss-set (counters_set h (record { dropped_fits = c.dropped_fits; received-fits = c.received-fits; bytes_fit = c.bytes_fit; lost_fits = k })) (lost_in q.loss n h.loss_in)

-- ---- a packet is heard

pub heard_in_lem : {now ts : ℕ} (q : Queue) → QueueIn q → q.clock ≤ now → now ≤ largest → ts ≤ largest → QueueIn (heard now ts q)
unfolding heard
heard_in_lem q h later a b = jitter_set (clock-set h later) (jitter_after_lem q.clock q.last q.jitter (rate-small q.config h.config_in) a b h.last_in h.jitter_in)
