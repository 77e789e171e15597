-- The delay of a dynamic queue: what repairs ask for fits a word, and the delay is from min to max and grows with the loss.
use mathlib.Core.Path.{◌≡◌, refl, subst}
use mathlib.Core.Bool.{Bool, true, false, cond, ◌&&◌}
use Prim.Native.Nat.{ℕ, max, min, ◌*◌, ◌^◌, ◌≤◌, ◌<◌}
use native.Mathlib.Nat.{le_refl, le_trans, mul-le-mul, mul-le-mul_right}
use native.Mathlib.Omega.{arith}
use borrow.Author.Tests.{ltb-true, ltb-false}
use lib.Dec.{T, leb, ltb, leb→le}
use lib.Ieee.{le}
use lib.Ieee.Fits.{and_l, and_r}
use Rattle.jitter.specs.declared.Jitter.{Jitter}
use Rattle.packet_loss.specs.Loss.{loss_in_range}
use Rattle.packet_loss.specs.declared.PacketLoss.{PacketLoss}
use Rattle.rtx_state.specs.RoundTrip.{nack_resend_delay, rtt_in_range}
use Rattle.rtx_state.specs.declared.RtxRtt.{RtxRtt}
use Rattle.rtx_state.proofs.Range.{delay-lt}
use Rattle.std.specs.Prelude.{Option, None, Some}
use Rattle.nack_attempts.specs.Attempts.{loss_of, attempts_of}
use Rattle.nack_attempts.proofs.Bits.{loss-grows}
use Rattle.nack_attempts.proofs.Powers.{attempts_grow, attempts_most}
use Rattle.config.specs.declared.RtpInboundStreamDynamicConfig.{RtpInboundStreamDynamicConfig}
use Rattle.config.specs.declared.RtpInboundStreamSortedQueueMode.TheVariants.{Fixed, Dynamic}
use Rattle.config.specs.declared.RtpInboundQueueMode.{RtpInboundQueueMode}
use Rattle.config.specs.declared.RtpInboundQueueMode.TheVariants.{Passthrough, SortedQueue}
use Rattle.config.specs.declared.Settings.{Settings}
use Rattle.config.specs.Valid.{longest, most_attempts, dynamic_valid, mode_valid, settings_valid}
use Rattle.config.specs.Delay.{clamp, jitter_delay, nack_delay, with_repairs, dynamic_delay, delay_in, target_delay}
use Rattle.config.proofs.Facts.{usable}

-- ---- what repairs ask for fits a word: a resend delay is below 2 ^ 54, and there are at most four attempts
product_lt : (r n : ℕ) → r < 2 ^ 54 → n ≤ 4 → r * n < 2 ^ 57
product_lt r n h k = let p : r * n ≤ 18014398509481983 * 4 = mul-le-mul {n₁ = r} {n₂ = 18014398509481983} (omega arith) k in omega arith

pub repairs_lt : (e : RtxRtt) (k t most : ℕ) → T (rtt_in_range e) → 1 ≤ most → most ≤ 4 → nack_resend_delay e * attempts_of k t most < 2 ^ 57
repairs_lt e k t most h l m = product_lt (nack_resend_delay e) (attempts_of k t most) (delay-lt e h) (le_trans (attempts_most k t most l) m)

-- ---- from min to max

-- the library's `clamp`
pub clamp_is : (low high n : ℕ) → low ≤ high → max low (min n high) ≡ clamp low high n
unfolding clamp
clamp_is low high n h = go (ltb n low) (ltb high n) refl refl
  where
    go : (a b : Bool) → ltb n low ≡ a → ltb high n ≡ b → max low (min n high) ≡ cond a low (cond b high n)
    go true b e f = omega (arith, ltb-true n low e)
    go false true e f = omega (arith, ltb-true high n f)
    go false false e f = omega (arith, ltb-false n low e, ltb-false high n f)

clamp-within : (low high n : ℕ) → low ≤ high → (low ≤ clamp low high n) × (clamp low high n ≤ high)
unfolding clamp
clamp-within low high n h = go (ltb n low) (ltb high n) refl refl
  where
    go : (a b : Bool) → ltb n low ≡ a → ltb high n ≡ b → (low ≤ cond a low (cond b high n)) × (cond a low (cond b high n) ≤ high)
    go true b e f = (omega arith, omega arith)
    go false true e f = (omega arith, omega arith)
    go false false e f = (omega (arith, ltb-false n low e), omega (arith, ltb-false high n f))

-- what refusal 1 leaves of a dynamic queue's own settings
pub record Ranged (d : RtpInboundStreamDynamicConfig) : Type 0 where
  pub ordered : d.min ≤ d.max
  pub most : d.max ≤ longest
  pub target : d.target_recovery ≤ 9999

pub ranged : (d : RtpInboundStreamDynamicConfig) → T (dynamic_valid d) → Ranged d
unfolding dynamic_valid
ranged d t =
    let a = leb d.min d.max in
    let b = leb d.max longest in
    let c = leb d.target_recovery 9999 in
    let ab = and_l (a && b) c t in
    record { ordered = leb→le d.min d.max (and_l a b ab); most = leb→le d.max longest (and_r a b ab); target = leb→le d.target_recovery 9999 (and_r (a && b) c t) }

-- valid settings whose mode is this one
module _ (s : Settings) (d : RtpInboundStreamDynamicConfig) (e : s.mode ≡ SortedQueue (Dynamic d)) (v : T (settings_valid s)) where
  pub own : Ranged d
  unfolding mode_valid
  own = ranged d (subst (λ (m : RtpInboundQueueMode). T (mode_valid m)) e (usable s v).mode)

  pub few : s.max_nack_attempts ≤ 4
  unfolding most_attempts
  few = subst (λ (m : RtpInboundQueueMode). s.max_nack_attempts ≤ most_attempts m) e (usable s v).attempts

  pub within : (j : Jitter) (p : PacketLoss) (rtt : Option RtxRtt) → (d.min ≤ target_delay s j p rtt) × (target_delay s j p rtt ≤ d.max)
  unfolding delay_in dynamic_delay
  within j p rtt = rw e (clamp-within d.min d.max (with_repairs d.target_recovery s.max_nack_attempts p rtt (jitter_delay j)) own.ordered)

-- in every mode a minute at most
pub delay-le : (s : Settings) (j : Jitter) (p : PacketLoss) (rtt : Option RtxRtt) → T (settings_valid s) → target_delay s j p rtt ≤ longest
unfolding delay_in
delay-le s j p rtt v = go s.mode refl
  where
    go : (m : RtpInboundQueueMode) → s.mode ≡ m → delay_in m s j p rtt ≤ longest
    go Passthrough e = omega arith
    go (SortedQueue Fixed) e = (usable s v).delay
    go (SortedQueue (Dynamic d)) e = subst (λ (m : RtpInboundQueueMode). delay_in m s j p rtt ≤ longest) e (le_trans (within s d e v j p rtt).1 (own s d e v).most)

-- ---- no less for more loss
clamp_mono : (low high a b : ℕ) → low ≤ high → a ≤ b → clamp low high a ≤ clamp low high b
unfolding clamp
clamp_mono low high a b o h = go (ltb a low) (ltb high a) (ltb b low) (ltb high b) refl refl refl refl
  where
    go : (p q r s : Bool) → ltb a low ≡ p → ltb high a ≡ q → ltb b low ≡ r → ltb high b ≡ s → cond p low (cond q high a) ≤ cond r low (cond s high b)
    go true q true s e f g k = omega arith
    go true q false true e f g k = o
    go true q false false e f g k = omega (arith, ltb-false b low g)
    go false q true s e f g k = absurd (omega (arith, ltb-false a low e, ltb-true b low g))
    go false true false true e f g k = omega arith
    go false true false false e f g k = absurd (omega (arith, ltb-true high a f, ltb-false high b k))
    go false false false true e f g k = omega (arith, ltb-false high a f)
    go false false false false e f g k = h

module _ (j : Jitter) (p q : PacketLoss) (P : T (loss_in_range p)) (Q : T (loss_in_range q)) (h : T (le p.loss q.loss)) where
  repairs_grow : (target most : ℕ) (rtt : Option RtxRtt) (delay : ℕ) → with_repairs target most p rtt delay ≤ with_repairs target most q rtt delay
  unfolding with_repairs nack_delay
  repairs_grow target most None delay = le_refl delay
  repairs_grow target most (Some e) delay =
      let n : attempts_of (loss_of p.loss) target most ≤ attempts_of (loss_of q.loss) target most = attempts_grow (loss_of p.loss) (loss_of q.loss) target most (loss-grows p q P Q h) in
      omega (arith, mul-le-mul_right 2 (mul-le-mul (le_refl (nack_resend_delay e)) n))

  pub grows : (s : Settings) (rtt : Option RtxRtt) → T (settings_valid s) → target_delay s j p rtt ≤ target_delay s j q rtt
  unfolding delay_in dynamic_delay
  grows s rtt v = go s.mode refl
    where
      go : (m : RtpInboundQueueMode) → s.mode ≡ m → delay_in m s j p rtt ≤ delay_in m s j q rtt
      go Passthrough e = omega arith
      go (SortedQueue Fixed) e = le_refl s.delay
      go (SortedQueue (Dynamic d)) e = clamp_mono d.min d.max _ _ (own s d e v).ordered (repairs_grow d.target_recovery s.max_nack_attempts rtt (jitter_delay j))

-- ---- without an estimate the loss is not looked at
pub jitter_alone : (s : Settings) (j : Jitter) (p q : PacketLoss) → target_delay s j p None ≡ target_delay s j q None
unfolding delay_in dynamic_delay with_repairs
jitter_alone s j p q = go s.mode
  where
    go : (m : RtpInboundQueueMode) → delay_in m s j p None ≡ delay_in m s j q None
    go Passthrough = refl
    go (SortedQueue Fixed) = refl
    go (SortedQueue (Dynamic d)) = refl
