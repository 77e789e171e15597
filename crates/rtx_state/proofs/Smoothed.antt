-- One sample: 8 · srtt' is at most 7 · srtt + R, and at most 14 below it. Times the denominator, and with 7 · 14 + 14 = 8 · 14, both bounds go on.
use Rattle.std.proofs.Common.{◌≡◌, ℕ, ◌+◌, ◌*◌, ◌/◌, ◌^◌, ◌<◌, ◌≤◌, List, [], ◌∷◌, length, sym, refl, ap, ◌∙◌, mul-le-mul_right, mul_assoc, mul_comm, add-mul, mul-one, mul_left_comm, arith}
use mathlib.Core.List.{foldl}
use native.Mathlib.Nat.{pow-succ'}
use Rattle.rtx_state.specs.declared.RtxRtt.{RtxRtt}
use Rattle.std.specs.Prelude.{None, Some}
use Rattle.rtx_state.specs.RoundTrip.{from_first_sample, rtt_updated, sampled_rtt, srtt_of}
use Rattle.rtx_state.specs.Drift.{Ratio, begun, smoothed, recurrence, BOUND, Within, Tracks, Drift}

-- ---- one sample

module _ (s r t p e : ℕ) (low : 8 * t ≤ 7 * s + r) (high : 7 * s + r ≤ 8 * t + 14) where
  -- (7 · s + r) · p, by its parts
  spread : (7 * s + r) * p ≡ 7 * (s * p) + r * p
  spread = add-mul (7 * s) r p ∙ ap (λ (n : ℕ). n + r * p) (mul_assoc 7 s p)

  next_below : s * p ≤ e → t * (8 * p) ≤ 7 * e + p * r
  next_below h =
      let m : 8 * t * p ≤ (7 * s + r) * p = mul-le-mul_right p low in
      omega (arith, spread, mul_assoc 8 t p, mul_left_comm t 8 p, mul_comm p r)

  next_above : e < (s + BOUND) * p → 7 * e + p * r < (t + BOUND) * (8 * p)
  next_above h =
      let m : (7 * s + r) * p ≤ (8 * t + 14) * p = mul-le-mul_right p high in
      omega (arith, spread, add-mul s BOUND p, add-mul (8 * t) 14 p, mul_assoc 8 t p, add-mul t BOUND (8 * p), mul_left_comm t 8 p, mul_comm p r)

next : (e : RtxRtt) (x : Ratio) (r : ℕ) → Within BOUND e.srtt x → Within BOUND (rtt_updated e r).srtt (smoothed x r)
unfolding rtt_updated smoothed
next e x r w =
    let t = 7 * e.srtt / 8 + r / 8 in
    record {
      never_above = next_below e.srtt r t x.denominator x.numerator (omega arith) (omega arith) w.never_above;
      less_below = next_above e.srtt r t x.denominator x.numerator (omega arith) (omega arith) w.less_below;
    }

-- ---- any number of them

goes_on : (e : RtxRtt) (x : Ratio) (first : ℕ) (later : List ℕ) → Within BOUND e.srtt x → (rs : List ℕ) → foldl smoothed x rs ≡ recurrence first later
    → Tracks (srtt_of (foldl sampled_rtt (Some e) rs)) (first ∷ later)
unfolding Tracks srtt_of sampled_rtt
goes_on e x first later w [] q = rw (← q) w
goes_on e x first later w (r ∷ rs) q = goes_on (rtt_updated e r) (smoothed x r) first later (next e x r w) rs q

first-within : (r : ℕ) → Within BOUND r (begun r)
first-within r = record { never_above = omega (arith, mul-one r); less_below = omega (arith, mul-one (r + BOUND)) }

tracks : (samples : List ℕ) → Tracks (srtt_of (foldl sampled_rtt None samples)) samples
unfolding Tracks srtt_of sampled_rtt recurrence
tracks [] = tt
tracks (r ∷ rs) = goes_on (from_first_sample r) (begun r) r rs (first-within r) rs refl

-- ---- the denominator

powers : (x : Ratio) (n : ℕ) → x.denominator ≡ 8 ^ n → (later : List ℕ) → (foldl smoothed x later).denominator ≡ 8 ^ (n + length later)
unfolding smoothed
powers x n e [] = e ∙ ap (λ (k : ℕ). 8 ^ k) {y = n + 0} (omega arith)
powers x n e (r ∷ rs) =
    powers (smoothed x r) (n + 1) (ap (λ (d : ℕ). 8 * d) e ∙ sym (pow-succ' 8 n) ∙ ap (λ (k : ℕ). 8 ^ k) {y = n + 1} (omega arith)) rs
    ∙ ap (λ (k : ℕ). 8 ^ k) {y = n + length (r ∷ rs)} (omega arith)

pub drift : Drift
unfolding recurrence
drift =
    record {
      tracks = tracks;
      power = λ first later. powers (begun first) 0 refl later ∙ ap (λ (k : ℕ). 8 ^ k) {y = length later} (omega arith);
    }
