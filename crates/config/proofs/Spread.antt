-- The jitter of a session that check 16 passes is at most a second, so the delay that it asks for is never refused: it is the nearest nanosecond
-- to the product, as the Rust has it.
use mathlib.Core.Path.{◌≡◌, refl, sym, ap, ◌∙◌, subst}
use mathlib.Core.Logic.{◌⊎◌, inl, inr}
use mathlib.Core.Bool.{true, false, ◌&&◌, true≢false}
use Prim.Native.Nat.{ℕ, zero, suc, ◌*◌, ◌^◌, ◌≤◌, ◌<◌}
use native.Mathlib.Nat.{le_trans, le_of_eq, lt_irrefl, zero-mul, one-mul, mul-one, mul-pos, eq-zero-or-pos, le_refl, lt_of_lt_of_le}
use native.Mathlib.Omega.{arith}
use lib.IntN.{pos, negsuc}
use lib.Dec.{T, lt→ltb, lit≤, lit<}
use lib.Ieee.{Float, nan, inf, fin, binary64, of_bits, of_int, mul, div, le, eq, up}
use lib.Ieee.Fits.{and_l, and_r}
use lib.Ieee.Positive.{num, den, den_pos, positive, value→cross}
use Rattle.float_laws.proofs.Upto.{NonNeg, Upto, upto_of_le, whole_to, mul-upto, eq→cross, of_int_upto, of_int_value, round-upto, div_rounds_by}
use Rattle.durations.specs.Seconds.{as_secs_f64, nearest_nanos, zero64, giga}
use Rattle.durations.proofs.Bound.{zero_is, secs_upto, nanos_in, nanos_le}
use Rattle.jitter.specs.Interarrival.{jitter_get, jitter_within, jitter_in_range}
use Rattle.jitter.specs.declared.Jitter.{Jitter}
use Rattle.config.specs.Delay.{five_halves, jitter_delay}

five_halves_is : five_halves ≡ fin false 5 (negsuc 0)
unfolding of_bits
five_halves_is = refl

positive_of : (y : Float) → NonNeg y → 0 < num y → T (positive y)
positive_of nan p h = absurd p
positive_of (inf s) p h = absurd p
positive_of (fin false zero e) p h = absurd (lt_irrefl 0 (lt_of_lt_of_le h (le_of_eq (zero-mul (up e)))))
positive_of (fin false (suc m) e) p h = lt→ltb 0 (suc m) (omega arith)
positive_of (fin true m e) (inl q) h = absurd (true≢false q)
positive_of (fin true m e) (inr q) h = absurd (lt_irrefl 0 (lt_of_lt_of_le h (le_of_eq (ap (λ (k : ℕ). k * up e) q ∙ zero-mul (up e)))))

module _ (n : ℕ) (some : 1 ≤ n) (small : n < 2 ^ 32) (j : Jitter) (ok : T (jitter_in_range n j)) where
  abbrev x : Float
  x = j.jitter

  abbrev y : Float
  y = j.clock_rate

  abbrev rate : Float
  rate = of_int binary64 (pos n)

  same : T (eq y rate)
  unfolding jitter_in_range
  same = and_l (eq y rate) (jitter_within j) ok

  within : T (le zero64 x && le x y)
  unfolding jitter_in_range jitter_within
  within = and_r (eq y rate) (le zero64 x && le x y) ok

  fits : n ≤ 2 ^ 53
  fits = omega arith

  level : NonNeg y × (num y * den rate ≡ num rate * den y)
  level = eq→cross y rate (of_int_upto binary64 n fits).0 same

  rate-pos : 0 < num rate
  rate-pos =
      let e : num rate * 1 ≡ n * den rate = value→cross rate n 1 (of_int_value binary64 n fits) in
      let p : 0 < n * den rate = mul-pos (omega arith) (den_pos rate) in
      omega arith

  clock-pos : 0 < num y
  clock-pos = go (eq-zero-or-pos (num y))
    where
      some_product : 0 < num y * den rate
      some_product = lt_of_lt_of_le (mul-pos rate-pos (den_pos y)) (le_of_eq (sym level.1))

      go : (num y ≡ 0) ⊎ (0 < num y) → 0 < num y
      go (inl z) = absurd (lt_irrefl 0 (lt_of_lt_of_le some_product (le_of_eq (ap (λ (k : ℕ). k * den rate) z ∙ zero-mul (den rate)))))
      go (inr p) = p

  -- at most a second
  ratio_upto : Upto (div binary64 x y) 1 1
  ratio_upto =
      let u : Upto x (num y) (den y) = upto_of_le x y level.0 (subst (λ (k : Float). T (le k x)) zero_is (and_l (le zero64 x) (le x y) within)) (and_r (le zero64 x) (le x y) within) in
      round-upto binary64 (div binary64 x y) (num x * den y) (num y * den x) 1 1 1 1 (mul-pos clock-pos (den_pos x)) (lit< tt) (whole_to binary64 1 (lit≤ tt))
      (le_trans (le_of_eq (mul-one (num x * den y))) (le_trans u.1 (le_of_eq (sym (one-mul (num y * den x))))))
      (div_rounds_by binary64 x y u.0 (positive_of y level.0 clock-pos))

  pub second : jitter_get j ≤ giga
  unfolding jitter_get
  second = le_trans (nanos_le (div binary64 x y) 1 (lit< tt) ratio_upto) (le_of_eq (one-mul giga))

  pub spread_upto : Upto (mul binary64 (as_secs_f64 (jitter_get j)) five_halves) 5 1
  spread_upto =
      let s = as_secs_f64 (jitter_get j) in
      let h = second in
      let u : Upto s 2 1 = secs_upto (jitter_get j) 1 (omega arith) (omega arith) (lit< tt) in
      subst (λ (k : Float). Upto (mul binary64 s k) 5 1) (sym five_halves_is)
      (mul-upto binary64 s (fin false 5 (negsuc 0)) 2 1 5 2 5 1 5 1 (lit< tt) (lit< tt) (lit< tt) (whole_to binary64 5 (lit≤ tt)) u (inl refl, le_refl _) (lit≤ tt))

  pub spread_is : jitter_delay j ≡ nearest_nanos (mul binary64 (as_secs_f64 (jitter_get j)) five_halves)
  unfolding jitter_delay
  spread_is = nanos_in (mul binary64 (as_secs_f64 (jitter_get j)) five_halves) 5 (lit< tt) spread_upto
