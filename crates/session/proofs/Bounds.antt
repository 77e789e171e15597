-- What check 16 bounds in the records that go by value.
use mathlib.Core.Path.{◌≡◌, sym, subst}
use mathlib.Core.Bool.{Bool, true, false, ◌&&◌}
use Prim.Native.Nat.{ℕ, ◌≤◌}
use lib.Dec.{T, leb, leb→le}
use lib.Ieee.Fits.{and_l, and_r}
use Rattle.durations.specs.Seconds.{largest}
use Rattle.rtx_state.specs.declared.RtxRtt.{RtxRtt}
use Rattle.std.specs.Prelude.{Option, Some}
use Rattle.rtx_state.specs.RoundTrip.{opt_rtt_in_range}
use Rattle.model.specs.declared.Received.{Received}
use Rattle.config.specs.declared.NackTimings.{NackTimings}
use Rattle.config.specs.Valid.{longest, settings_valid}
use Rattle.config.proofs.Bounds.{delay-le}
use Rattle.config.proofs.Facts.{usable}
use Rattle.model.specs.declared.Queue.{Queue}
use Rattle.model.specs.Rules.{estimate_in, timings_in}
use Rattle.model.specs.Poll.{estimate_of, timings_of, delay_of}
use Rattle.model.specs.Valid.{last_sound}
use Rattle.packet_gaps.specs.Gaps.{Small}
use Rattle.packet_gaps.proofs.Model.{small-timings}

some_in : (clock : ℕ) (r : Received) → T (last_sound clock (Some r)) → (r.instant ≤ clock) × (r.timestamp.0 ≤ largest)
unfolding last_sound
some_in clock r t =
    let a = leb r.instant clock in
    let b = leb r.timestamp.0 largest in
    let n = leb r.number.0 largest in
    (leb→le r.instant clock (and_l a (b && n) t), leb→le r.timestamp.0 largest (and_l b n (and_r a (b && n) t)))

pub last_in : (clock : ℕ) (l : Option Received) (r : Received) → l ≡ Some r → T (last_sound clock l) → (r.instant ≤ clock) × (r.timestamp.0 ≤ largest)
last_in clock l r e t = some_in clock r (subst (λ (x : Option Received). T (last_sound clock x)) e t)

pub estimate_in_lem : (rtx : Bool) (rtt : Option RtxRtt) → T (opt_rtt_in_range rtt) → T (opt_rtt_in_range (estimate_in rtx rtt))
unfolding estimate_in opt_rtt_in_range
estimate_in_lem true rtt t = t
estimate_in_lem false rtt t = tt

-- valid settings give a delay of a minute at most
pub delay_bound : (q : Queue) → T (settings_valid q.config.settings) → delay_of q ≤ longest
unfolding delay_of
delay_bound q v = delay-le q.config.settings q.jitter q.loss (estimate_of q) v

-- valid settings and an estimate in range give small timings
pub timings-small : (q : Queue) (t : NackTimings) → t ≡ timings_of q → T (settings_valid q.config.settings) → T (opt_rtt_in_range q.rtx.rtt) → Small t
unfolding timings_in
timings-small q t e v r =
    let set = q.config.settings in
    let rtx = q.config.senders.has_rtx in
    let u = usable set v in
    subst Small (sym e) (small-timings set (estimate_in rtx q.rtx.rtt) u.initial u.resend (estimate_in_lem rtx q.rtx.rtt r))
