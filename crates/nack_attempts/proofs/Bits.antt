-- What `loss_of` works out from the bit pattern of an x from 0 to 1 is the least number of ten thousandths not below x.
use mathlib.Core.Path.{◌≡◌, refl, sym, ap, ◌∙◌, subst}
use mathlib.Core.Logic.{inl}
use mathlib.Core.Bool.{Bool, true, false, not}
use Prim.Native.Nat.{ℕ, ◌+◌, ◌-◌, ◌*◌, ◌/◌, ◌%◌, ◌^◌, ◌≤◌, ◌<◌, min, max}
use native.Mathlib.Nat.{le_of_eq, le_of_lt, le_trans, lt_of_lt_of_le, one-mul, mul_comm, mul_assoc, mul_right_comm, mul-le-mul, mul-le-mul_right, le_of_mul-le-mul_right, eq_of_mul-eq-mul_right, mod-lt}
use native.Mathlib.Omega.{arith}
use borrow.Author.Tests.{le-leb, leb-true}
use lib.IntN.{pos}
use lib.Dec.{T, leb, leb→le, nleb→lt, le→leb, lit≤, lit<}
use lib.Pow.{pow_pos, pow-add, pow_mono, shl_lt, shl_exact}
use lib.Ieee.{Float, fin, binary32, of_bits, to_bits, fits, le}
use lib.Ieee.Fits.{and_l, and_r}
use lib.Ieee.Positive.{num, den, den_pos}
use Rattle.packet_loss.specs.Loss.{zero32, one32, loss_in_range}
use Rattle.packet_loss.specs.declared.PacketLoss.{PacketLoss}
use Rattle.float_laws.proofs.Pattern.{lead, lead-lt, lead_ge, lead_is, pattern}
use Rattle.float_laws.proofs.Upto.{NonNeg, nought, nonneg_between, le→cross}
use Rattle.nack_attempts.specs.Attempts.{least, not_below, loss_of}
use Rattle.nack_attempts.proofs.Least.{least_at, least-same, least_mono, test_same, clamped}

zero_is : zero32 ≡ nought
unfolding of_bits
zero_is = refl

one_is : one32 ≡ fin false 1 (pos 0)
unfolding of_bits
one_is = refl

-- ---- from 0 to 1
module _ (x : Float) (lo : T (le zero32 x)) (hi : T (le x one32)) where
  pub nonneg : NonNeg x
  nonneg = nonneg_between x (fin false 1 (pos 0)) (inl refl) (subst (λ (k : Float). T (le k x)) zero_is lo) (subst (λ (k : Float). T (le x k)) one_is hi)

  at_most_one : num x ≤ den x
  at_most_one =
      let c : num x * 1 ≤ 1 * den x = le→cross x (fin false 1 (pos 0)) nonneg (inl refl) (subst (λ (k : Float). T (le x k)) one_is hi) in omega arith

  -- at any fraction a / d that x equals
  by_ratio : (a d : ℕ) → 0 < d → num x * d ≡ a * den x → loss_of x ≡ least 10 9900 (λ j. leb (a * 10000) (j * d))
  unfolding loss_of
  by_ratio a d D e = least-same (not_below x) (λ j. leb (a * 10000) (j * d)) 9890 10 (λ j. test_same (10000 * num x) (den x) (a * 10000) d j (den_pos x) D scaled)
    where
      scaled : 10000 * num x * d ≡ a * 10000 * den x
      scaled = mul_assoc 10000 (num x) d ∙ ap (λ (k : ℕ). 10000 * k) e ∙ sym (mul_assoc 10000 a (den x)) ∙ ap (λ (k : ℕ). k * den x) (mul_comm 10000 a)

  -- ---- by the bits b
  module _ (F : fits binary32 x ≡ true) where
    abbrev b : ℕ
    b = to_bits binary32 x

    abbrev e : ℕ
    e = b / 8388608 % 256

    abbrev q : ℕ
    q = lead binary32 e (b % 8388608)

    v : num x * 2 ^ 149 ≡ q * 2 ^ (e - 1) * den x
    v = pattern binary32 x (subst T (sym F) tt) nonneg

    -- what the test on the exponent's field leaves is below a ten thousandth
    tiny : e < 112 → q * 2 ^ (e - 1) * 1000 ≤ 2 ^ 149
    tiny h =
        let k : 24 + (e - 1) ≤ 134 = omega arith in
        let l : q < 2 ^ 24 = lead-lt binary32 e (b % 8388608) (mod-lt b (lit< tt)) in
        go (q * 2 ^ (e - 1)) (lt_of_lt_of_le (shl_lt 24 (e - 1) l) (pow_mono k))
      where
        go : (y : ℕ) → y < 2 ^ 134 → y * 1000 ≤ 2 ^ 149
        go y h = le_trans (mul-le-mul_right 1000 (le_of_lt h)) (lit≤ tt)

    tens : (y z : ℕ) → y * 1000 ≤ z → y * 10000 ≤ 10 * z
    tens y z h = omega arith

    pub least-loss : e < 112 → 10 ≡ loss_of x
    least-loss h =
        sym (by_ratio (q * 2 ^ (e - 1)) (2 ^ 149) (pow_pos 149) v
        ∙ least_at (λ j. leb (q * 2 ^ (e - 1) * 10000) (j * 2 ^ 149)) 9890 10 10 (omega arith) (omega arith) (λ k p r. absurd (omega arith))
        (λ p. le-leb (q * 2 ^ (e - 1) * 10000) (10 * 2 ^ 149) (tens (q * 2 ^ (e - 1)) (2 ^ 149) (tiny h))))

    -- up to 1 the field is at most 127
    pub field-le : e ≤ 127
    field-le = go (leb e 127) (leb→le e 127) (nleb→lt e 127)
      where
        small : q * 2 ^ (e - 1) ≤ 2 ^ 149
        small = le_of_mul-le-mul_right {m = q * 2 ^ (e - 1)} {n = 2 ^ 149} {k = den x} (le_trans (le_of_eq (sym v)) (le_trans (mul-le-mul_right (2 ^ 149) at_most_one) (le_of_eq (mul_comm (den x) (2 ^ 149))))) (den_pos x)

        clash : 127 < e → ⊥
        clash h =
            let p : 0 < e = omega arith in
            let k : 127 ≤ e - 1 = omega arith in
            let l : 2 ^ 23 ≤ q = lead_ge binary32 e (b % 8388608) p in
            le→leb (2 ^ 23 * 2 ^ 127) (2 ^ 149) (le_trans (mul-le-mul l (pow_mono k)) small)

        go : (t : Bool) → (T t → e ≤ 127) → (T (not t) → 127 < e) → e ≤ 127
        go true h k = h tt
        go false h k = absurd (clash (k tt))

    -- ---- from the field 112 on: what the code works out, by its names
    module _ (big : 112 ≤ e) where
      abbrev digits : ℕ
      digits = b % 8388608 + 8388608

      shifts : (150 - e) + (e - 1) ≡ 149
      shifts = let h = field-le in omega arith

      -- the code's unit, `1 << (150 - exponent)`: x is digits / u
      abbrev u : ℕ
      u = 1 * 2 ^ (150 - e) % 2 ^ 64

      unit_is : u ≡ 2 ^ (150 - e)
      unit_is = shl_exact 1 (150 - e) 64 (lit< tt) (omega arith) ∙ one-mul (2 ^ (150 - e))

      pub unit_pos : 0 < u
      unit_pos = subst (λ (k : ℕ). 0 < k) (sym unit_is) (pow_pos (150 - e))

      value : num x * u ≡ digits * den x
      value =
          let p : 0 < e = omega arith in
          let t : num x * 2 ^ (150 - e) ≡ q * den x =
          eq_of_mul-eq-mul_right (2 ^ (e - 1)) (pow_pos (e - 1)) (num x * 2 ^ (150 - e)) (q * den x)
          (mul_assoc (num x) (2 ^ (150 - e)) (2 ^ (e - 1)) ∙ ap (λ (k : ℕ). num x * k) (sym (pow-add 2 (150 - e) (e - 1)) ∙ ap (λ (k : ℕ). 2 ^ k) shifts) ∙ v ∙ mul_right_comm q (2 ^ (e - 1)) (den x)) in
          ap (λ (k : ℕ). num x * k) unit_is ∙ t ∙ ap (λ (k : ℕ). k * den x) (lead_is binary32 e (b % 8388608) p)

      pub loss_is : max 10 (min (digits * 10000 / u + min 1 (digits * 10000 % u)) 9900) ≡ loss_of x
      loss_is = clamped (digits * 10000) u unit_pos 10 9900 (omega arith) ∙ sym (by_ratio digits u unit_pos value)

-- what the check of `loss_of` needs
pub ruleset rounding = (nonneg, least-loss, field-le, unit_pos, loss_is)

-- ---- more loss is no smaller k

grows : (x y : Float) → NonNeg x → NonNeg y → T (le x y) → loss_of x ≤ loss_of y
unfolding loss_of
grows x y X Y h = least_mono (not_below x) (not_below y) 9890 10 (λ j e. le-leb (10000 * num x) (j * den x) (less j (leb-true (10000 * num y) (j * den y) e)))
  where
    c : num x * den y ≤ num y * den x
    c = le→cross x y X Y h

    less : (j : ℕ) → 10000 * num y ≤ j * den y → 10000 * num x ≤ j * den x
    less j l =
        le_of_mul-le-mul_right {m = 10000 * num x} {n = j * den x} {k = den y}
        (le_trans (le_of_eq (mul_assoc 10000 (num x) (den y)))
        (le_trans (mul-le-mul {n₁ = 10000} {n₂ = 10000} (omega arith) c)
        (le_trans (le_of_eq (sym (mul_assoc 10000 (num y) (den x))))
        (le_trans (mul-le-mul_right (den x) l) (le_of_eq (mul_right_comm j (den y) (den x)))))))
        (den_pos y)

in_range : (p : PacketLoss) → T (loss_in_range p) → NonNeg p.loss
unfolding loss_in_range
in_range p h = nonneg p.loss (and_l (le zero32 p.loss) (le p.loss one32) h) (and_r (le zero32 p.loss) (le p.loss one32) h)

pub loss-grows : (p q : PacketLoss) → T (loss_in_range p) → T (loss_in_range q) → T (le p.loss q.loss) → loss_of p.loss ≤ loss_of q.loss
loss-grows p q P Q h = grows p.loss q.loss (in_range p P) (in_range q Q) h
