-- Signed sums and differences as the machine has them: with operands this small they fit 64 bits, so they come back from their bits as they are.
use mathlib.Core.Path.{◌≡◌, refl, sym, ◌∙◌, subst}
use mathlib.Core.Bool.{Bool, true, false, cond, true≢false}
use Prim.Native.Nat.{ℕ, zero, suc, ◌+◌, ◌-◌, ◌^◌, ◌≤◌, ◌<◌}
use native.Mathlib.Omega.{arith}
use borrow.Author.Tests.{ltb-true, lt-ltb}
use lib.Dec.{T, ltb, lit≤, lit<}
use lib.IntN.{ℤ, pos, negsuc, neg_ℤ, nat_abs, ◌+ℤ◌, ◌-ℤ◌}
use lib.Signed.{mag, lt_z, non_neg, quot_z, rem_z}
use lib.Ieee.{Float, binary64, of_int, mul, div, to_signed}
use lib.Ieee.Positive.{den_pos}
use mir.Syntax.{w64}
use mir.Val.{Fits, SFits, to_z, of_z}
use mir.ValLaws.{to_z_pos, to_z-of_z}
use Rattle.float_laws.proofs.Upto.{whole_to}
use Rattle.float_laws.proofs.Size.{Size, of_int_size, add-size, mul-size, div-size, ticks_mag}
use Rattle.std.specs.Prelude.{None, Some}
use Rattle.durations.specs.Seconds.{largest, giga, giga64, signed_seconds}
use Rattle.durations.proofs.Bound.{giga64-is}
use Rattle.durations.proofs.Signed.{quot_abs, rem_abs}
use Rattle.config.specs.Valid.{longest}
use Rattle.handout.specs.Bits.{Below52}
use Rattle.handout.specs.Limit.{delta_in_rtp_timesteps, as_timestamp}

-- ---- sums and differences
pub sum-mag : (x y : ℤ) (b c : ℕ) → mag x < b → mag y < c → mag (x +ℤ y) < b + c
sum-mag (pos m) (pos n) b c h k = omega arith
sum-mag (negsuc m) (negsuc n) b c h k = omega arith
sum-mag (pos m) (negsuc n) b c h k = go (ltb m (suc n))
  where
    go : (t : Bool) → mag (cond t (negsuc (suc n - suc m)) (pos (m - suc n))) < b + c
    go true = omega arith
    go false = omega arith
sum-mag (negsuc m) (pos n) b c h k = go (ltb n (suc m))
  where
    go : (t : Bool) → mag (cond t (negsuc (suc m - suc n)) (pos (n - suc m))) < b + c
    go true = omega arith
    go false = omega arith

pub diff_mag : (x : ℤ) (n b c : ℕ) → mag x < b → n < c → mag (x -ℤ pos n) < b + c
diff_mag x zero b c h k = sum-mag x (pos 0) b c h k
diff_mag x (suc n) b c h k = sum-mag x (negsuc n) b c h (omega arith)

-- y is what the machine worked out, z what it stands for
module _ {y z : ℤ} (is : y ≡ z) (small : mag z < 2 ^ 63) where
  pub fits : SFits w64 y
  fits = subst (λ (x : ℤ). SFits w64 x) (sym is) (record { sfits = small })

  pub back : to_z w64 (of_z w64 y) ≡ z
  back = to_z-of_z w64 y fits ∙ is

-- ---- a whole part, and its negative
zero_minus : (n : ℕ) → pos 0 -ℤ pos n ≡ neg_ℤ (pos n)
zero_minus zero = refl
zero_minus (suc n) =
    let less : suc n - 1 ≡ n = omega arith in
    rw (lt-ltb 0 (suc n) (omega arith), less)

neg-mag : (n : ℕ) → n < 2 ^ 53 → mag (neg_ℤ (pos n)) < 2 ^ 63
neg-mag zero h = omega arith
neg-mag (suc n) h = omega arith

module _ (whole : ℕ) (h : whole < 2 ^ 53) where
  pub plain_is : to_z w64 whole ≡ pos whole
  plain_is = to_z_pos w64 whole (omega arith)

  minus : pos 0 -ℤ to_z w64 whole ≡ neg_ℤ (pos whole)
  minus = rw plain_is (zero_minus whole)

  pub minus_fits : SFits w64 (pos 0 -ℤ to_z w64 whole)
  minus_fits = fits minus (neg-mag whole h)

  pub minus_is : to_z w64 (of_z w64 (pos 0 -ℤ to_z w64 whole)) ≡ neg_ℤ (pos whole)
  minus_is = back minus (neg-mag whole h)

pub ruleset signed = (plain_is, minus_fits, minus_is)

-- ---- now less the delay
module _ (now delay : ℕ) (n : now ≤ largest) (d : delay ≤ longest) where
  abbrev here : ℤ
  here = to_z w64 now -ℤ to_z w64 delay

  here_is : here ≡ pos now -ℤ pos delay
  here_is = rw (to_z_pos w64 now (omega arith), to_z_pos w64 delay (omega arith))

  pub passed_small : mag (pos now -ℤ pos delay) < 2 ^ 53
  passed_small = diff_mag (pos now) delay (2 ^ 52) (2 ^ 52) (omega arith) (omega arith)

  pub passed_fits : SFits w64 here
  passed_fits = fits here_is (let h = passed_small in omega arith)

  pub passed_is : to_z w64 (of_z w64 here) ≡ pos now -ℤ pos delay
  passed_is = back here_is (let h = passed_small in omega arith)

pub ruleset passed = (passed_small, passed_fits, passed_is)

-- ---- an instant less the one that it is measured from
module _ (instant : ℤ) (from : ℕ) (i : mag instant < 2 ^ 53) (f : from ≤ largest) where
  abbrev there : ℤ
  there = to_z w64 (of_z w64 instant) -ℤ to_z w64 from

  there_is : there ≡ instant -ℤ pos from
  there_is = rw (to_z-of_z w64 instant (record { sfits = omega arith }), to_z_pos w64 from (omega arith))

  pub since_small : mag (instant -ℤ pos from) < 2 ^ 54
  since_small = diff_mag instant from (2 ^ 53) (2 ^ 53) i (omega arith)

  pub since_fits : SFits w64 there
  since_fits = fits there_is (let h = since_small in omega arith)

  pub since_is : to_z w64 (of_z w64 there) ≡ instant -ℤ pos from
  since_is = back there_is (let h = since_small in omega arith)

pub ruleset since = (since_small, since_fits, since_is, back)

-- ---- a timestamp and steps: the sign of the sum says whether there is a limit
none_below : (n : ℕ) → ltb n 0 ≡ true → ⊥
none_below n h = clash (ltb-true n 0 h)
  where
    clash : n < 0 → ⊥
    clash l = omega arith

nothing : (z : ℤ) → lt_z z (pos 0) ≡ true → None ≡ as_timestamp z
unfolding as_timestamp
nothing (pos n) h = absurd (none_below n h)
nothing (negsuc n) h = refl

something : (z : ℤ) → lt_z z (pos 0) ≡ false → Some (nat_abs z) ≡ as_timestamp z
unfolding as_timestamp
something (pos n) h = refl
something (negsuc n) h = absurd (true≢false h)

-- what the cast of the sum to a `u64` asks
cast_ok : (z : ℤ) → lt_z z (pos 0) ≡ false → mag z < 2 ^ 63 → T (non_neg z) × Fits w64 (nat_abs z)
cast_ok (pos n) h l = (tt, record { fits = wide l })
  where
    wide : n < 2 ^ 63 → n < 2 ^ 64
    wide l = omega arith
cast_ok (negsuc n) h l = absurd (true≢false h)

module _ (t : ℕ) (steps : ℤ) (h : t ≤ largest) (m : mag steps < 2 ^ 62) where
  abbrev sum : ℤ
  sum = to_z w64 t +ℤ to_z w64 (of_z w64 steps)

  sum_is : sum ≡ pos t +ℤ steps
  sum_is = rw (to_z_pos w64 t (omega arith), to_z-of_z w64 steps (record { sfits = omega arith }))

  small : mag (pos t +ℤ steps) < 2 ^ 63
  small = sum-mag (pos t) steps (2 ^ 62) (2 ^ 62) (omega arith) m

  pub added_fits : SFits w64 sum
  added_fits = fits sum_is small

  added_is : to_z w64 (of_z w64 sum) ≡ pos t +ℤ steps
  added_is = back sum_is small

  pub added_none : lt_z (to_z w64 (of_z w64 sum)) (pos 0) ≡ true → None ≡ as_timestamp (pos t +ℤ steps)
  added_none e = nothing _ (rw added_is at e)

  pub added_cast : lt_z (to_z w64 (of_z w64 sum)) (pos 0) ≡ false → T (non_neg (to_z w64 (of_z w64 sum))) × Fits w64 (nat_abs (to_z w64 (of_z w64 sum)))
  added_cast e = rw added_is (cast_ok _ (rw added_is at e) small)

  pub added_some : lt_z (to_z w64 (of_z w64 sum)) (pos 0) ≡ false → Some (nat_abs (to_z w64 (of_z w64 sum))) ≡ as_timestamp (pos t +ℤ steps)
  added_some e = rw added_is (something _ (rw added_is at e))

pub ruleset added = (added_fits, added_none, added_cast, added_some)

-- ---- a time of less than 2 ^ 54 nanoseconds, in seconds, times a clock rate of at most a million
secs_size : (z : ℤ) → mag z < 2 ^ 54 → Size (signed_seconds z) 18014400 1
unfolding signed_seconds
secs_size z h =
    let x = of_int binary64 (quot_z z (pos giga)) in
    let y = of_int binary64 (rem_z z (pos giga)) in
    let a : Size x 18014399 1 = of_int_size binary64 (quot_z z (pos giga)) 18014399 (quot_abs z 18014399 (omega arith)) (lit≤ tt) in
    let b : Size y giga 1 = of_int_size binary64 (rem_z z (pos giga)) giga (rem_abs z) (lit≤ tt) in
    let d : Size (div binary64 y giga64) 1 1 =
    subst (λ (k : Float). Size (div binary64 y k) 1 1) (sym giga64-is)
    (div-size binary64 y 1953125 (pos 9) giga 1 1 1 1 1 (lit< tt) (lit< tt) (lit< tt) (whole_to binary64 1 (lit≤ tt)) b (lit≤ tt)) in
    add-size binary64 x (div binary64 y giga64) 18014399 1 1 1 18014400 1 18014400 1 (lit< tt) (lit< tt) (lit< tt) (whole_to binary64 18014400 (lit≤ tt)) a d (lit≤ tt)

pub product_size : (z : ℤ) (rate : ℕ) → mag z < 2 ^ 54 → rate ≤ 1000000 → Size (mul binary64 (signed_seconds z) (of_int binary64 (pos rate))) 18014400000000 1
product_size z rate h k =
    mul-size binary64 (signed_seconds z) (of_int binary64 (pos rate)) 18014400 1 1000000 1 18014400000000 1 18014400000000 1 (lit< tt) (lit< tt) (lit< tt) (whole_to binary64 18014400000000 (lit≤ tt)) (secs_size z h) (of_int_size binary64 (pos rate) 1000000 k (lit≤ tt)) (lit≤ tt)

pub steps-lt : (z : ℤ) (rate : ℕ) → mag z < 2 ^ 54 → rate ≤ 1000000 → mag (delta_in_rtp_timesteps z rate) < 2 ^ 62
unfolding delta_in_rtp_timesteps
steps-lt z rate h k =
    let m : mag (to_signed 63 (mul binary64 (signed_seconds z) (of_int binary64 (pos rate)))) ≤ 18014400000000 = ticks_mag (mul binary64 (signed_seconds z) (of_int binary64 (pos rate))) 18014400000000 (product_size z rate h k) in
    omega arith

pub below_52 : (z : ℤ) (rate : ℕ) → mag z < 2 ^ 54 → rate ≤ 1000000 → Below52 (mul binary64 (signed_seconds z) (of_int binary64 (pos rate)))
below_52 z rate h k =
    let x = mul binary64 (signed_seconds z) (of_int binary64 (pos rate)) in
    let s = product_size z rate h k in
    let d = den_pos x in
    (s.0, omega (arith, s.1))

pub ruleset steps = (steps-lt, to_z-of_z)
