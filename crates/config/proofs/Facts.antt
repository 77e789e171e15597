-- What valid settings are, as facts: the test is a conjunction, so each part holds. Their delays are below 2 ^ 54.
use mathlib.Core.Bool.{Bool, ◌&&◌}
use Prim.Native.Nat.{ℕ, ◌≤◌, ◌<◌, ◌^◌}
use native.Mathlib.Omega.{arith}
use lib.Dec.{T, leb, leb→le}
use lib.Ieee.Fits.{and_l, and_r}
use Rattle.rtx_state.specs.RoundTrip.{opt_rtt_in_range}
use Rattle.rtx_state.specs.declared.RtxRtt.{RtxRtt}
use Rattle.std.specs.Prelude.{Option, None, Some}
use Rattle.rtx_state.proofs.Range.{delay-lt}
use Rattle.config.specs.Timings.{resend_delay_of}
use Rattle.config.specs.Valid.{within, longest, most_attempts, mode_valid, settings_valid}
use Rattle.config.specs.declared.Settings.{Settings}

pub record Usable (s : Settings) : Type 0 where
  pub rate-some : 1 ≤ s.clock_rate
  pub rate : s.clock_rate ≤ 1000000
  pub entries : s.max_entries ≤ 1024
  pub gaps : s.max_gaps ≤ 4096
  pub delay : s.delay ≤ longest
  pub initial : s.initial_nack_delay ≤ longest
  pub resend : s.default_nack_resend_delay ≤ longest
  -- Stays: `target_delay` has a goal that needs it, and the tactic finds it there without its name.
  pub attempts-some : 1 ≤ s.max_nack_attempts
  pub attempts : s.max_nack_attempts ≤ most_attempts s.mode
  pub mode : T (mode_valid s.mode)

-- the parts of a conjunction of eight
parts : (a b c d e f g h : Bool) → T (a && b && c && d && e && f && g && h) → T a × T b × T c × T d × T e × T f × T g × T h
parts a b c d e f g h t =
    let t7 = and_l (a && b && c && d && e && f && g) h t in
    let t6 = and_l (a && b && c && d && e && f) g t7 in
    let t5 = and_l (a && b && c && d && e) f t6 in
    let t4 = and_l (a && b && c && d) e t5 in
    let t3 = and_l (a && b && c) d t4 in
    let t2 = and_l (a && b) c t3 in (
      and_l a b t2,
      and_r a b t2,
      and_r (a && b) c t3,
      and_r (a && b && c) d t4,
      and_r (a && b && c && d) e t5,
      and_r (a && b && c && d && e) f t6,
      and_r (a && b && c && d && e && f) g t7,
      and_r (a && b && c && d && e && f && g) h t,
    )

ends : (l h n : ℕ) → T (within l h n) → (l ≤ n) × (n ≤ h)
ends l h n t = (leb→le l n (and_l (leb l n) (leb n h) t), leb→le n h (and_r (leb l n) (leb n h) t))

pub usable : (s : Settings) → T (settings_valid s) → Usable s
unfolding settings_valid
usable s t =
    let p =
    parts (within 1 1000000 s.clock_rate) (within 1 1024 s.max_entries) (within 999 4096 s.max_gaps) (leb s.delay longest) (leb s.initial_nack_delay longest) (leb s.default_nack_resend_delay longest) (within 1 (most_attempts s.mode) s.max_nack_attempts) (mode_valid s.mode) t in
    let rate = ends 1 1000000 s.clock_rate p.0 in
    let entries = ends 1 1024 s.max_entries p.1 in
    let gaps = ends 999 4096 s.max_gaps p.2 in
    let attempts = ends 1 (most_attempts s.mode) s.max_nack_attempts p.6 in
    record {
      rate-some = rate.0;
      rate = rate.1;
      entries = entries.1;
      gaps = gaps.1;
      delay = leb→le s.delay longest p.3;
      initial = leb→le s.initial_nack_delay longest p.4;
      resend = leb→le s.default_nack_resend_delay longest p.5;
      attempts-some = attempts.0;
      attempts = attempts.1;
      mode = p.7;
    }

pub resend-lt : (s : Settings) (rtt : Option RtxRtt) → s.default_nack_resend_delay ≤ longest → T (opt_rtt_in_range rtt) → resend_delay_of s rtt < 2 ^ 54
unfolding resend_delay_of opt_rtt_in_range
resend-lt s None d h = omega arith
resend-lt s (Some e) d h = delay-lt e h
