-- A float cut toward zero by its bits. x is lead * 2 ^ (field - 1) of the smallest units, 2 ^ -1074; below 2 ^ 52 in size its field is at most 1074, and
-- 1074 - (field - 1) digits stand after the point.
use mathlib.Core.Path.{◌≡◌, refl, sym, ap, ◌∙◌, subst}
use mathlib.Core.Bool.{Bool, true, false, cond, not}
use Prim.Native.Nat.{ℕ, ◌+◌, ◌-◌, ◌*◌, ◌/◌, ◌%◌, ◌^◌, ◌≤◌, ◌<◌, min}
use native.Mathlib.Nat.{le_of_eq, lt_of_lt_of_le, lt_of_le_of_lt, lt_irrefl, mul_comm, mul_right_comm, mul-le-mul, mul-lt-mul_of_pos_right, lt_of_mul-lt-mul_right, mod-lt, div-eq_of_lt, div-lt_iff_lt-mul, mul-div-mul_right, one-mul}
use native.Mathlib.Omega.{arith}
use borrow.Author.Tests.{ltb-true, ltb-false, leb-true, leb-false, eq-eqb, ne_eqb}
use lib.Dec.{T, leb, ltb, eqb, leb→le, nleb→lt, lit<}
use lib.IntN.{pos, neg_ℤ}
use lib.Pow.{pow_pos, pow-add, pow_mono, shl_lt, shl_exact}
use lib.Ieee.{Float, nan, inf, fin, binary64, to_bits, fits, is_nan, to_signed, up, down}
use lib.Ieee.Bits.{to_bits-lt}
use lib.Ieee.Nearest.{div_same}
use lib.Ieee.Scale.{finite}
use lib.Ieee.Positive.{num, den, den_pos}
use mir.ValLaws.{to_z-of_z}
use Rattle.float_laws.proofs.Pattern.{lead, expo, frac, sign, lead-lt, lead_ge, lead_is, size_pattern, sign_pattern}
use Rattle.handout.specs.Bits.{exponent_of, whole_of, with_sign}

pub number : (y : Float) → T (finite y) → T (not (is_nan y))
unfolding is_nan
number nan f = absurd f
number (inf s) f = absurd f
number (fin s m e) f = tt

top-is : (b : ℕ) → b < 2 ^ 64 → eqb (b / 2 ^ 63) 1 ≡ leb (2 ^ 63) b
top-is b h = by_test (leb (2 ^ 63) b) refl
  where
    by_test : (t : Bool) → leb (2 ^ 63) b ≡ t → eqb (b / 2 ^ 63) 1 ≡ t
    by_test true e = let l : 2 ^ 63 ≤ b = leb-true (2 ^ 63) b e in eq-eqb (b / 2 ^ 63) 1 (omega arith)
    by_test false e = let l : b < 2 ^ 63 = leb-false (2 ^ 63) b e in ne_eqb (b / 2 ^ 63) 1 (λ z. omega arith)

-- the sign and the whole part of the size are the cast, where the size is below 2 ^ 52
cast_is : (x : Float) (n : ℕ) → T (finite x) → num x / den x ≡ n → n < 2 ^ 52 → to_signed 63 x ≡ with_sign (sign x) n
unfolding to_signed with_sign
cast_is nan n f e h = absurd f
cast_is (inf s) n f e h = absurd f
cast_is (fin true m g) n f e h =
    let k : min (m * up g / down g) (2 ^ 63) ≡ n = omega arith in
    ap (λ (r : ℕ). neg_ℤ (pos r)) k
cast_is (fin false m g) n f e h =
    let k : min (m * up g / down g) (2 ^ 63 - 1) ≡ n = omega arith in
    ap (λ (r : ℕ). pos r) k

-- x is a value of the format, below 2 ^ 52 in size
module _ (x : Float) (F : fits binary64 x ≡ true) (f : T (finite x)) (l : num x < 2 ^ 52 * den x) where
  abbrev b : ℕ
  b = to_bits binary64 x

  abbrev e : ℕ
  e = expo binary64 b

  abbrev q : ℕ
  q = lead binary64 e (frac binary64 b)

  v : num x * 2 ^ 1074 ≡ q * 2 ^ (e - 1) * den x
  v = size_pattern binary64 x (subst T (sym F) tt) f

  in_units : num x / den x ≡ q * 2 ^ (e - 1) / 2 ^ 1074
  in_units = div_same (num x) (den x) (q * 2 ^ (e - 1)) (2 ^ 1074) (den_pos x) (pow_pos 1074) v

  digits_lt : frac binary64 b < 2 ^ 52
  digits_lt = mod-lt b (pow_pos 52)

  pub field-le : exponent_of b ≤ 1074
  field-le = go (leb e 1074) (leb→le e 1074) (nleb→lt e 1074)
    where
      under : q * 2 ^ (e - 1) < 2 ^ 1126
      under =
          lt_of_mul-lt-mul_right (den x)
          (lt_of_le_of_lt (le_of_eq (sym v))
          (lt_of_lt_of_le (mul-lt-mul_of_pos_right l (pow_pos 1074)) (le_of_eq (mul_right_comm (2 ^ 52) (den x) (2 ^ 1074)))))

      clash : 1074 < e → ⊥
      clash h =
          let p : 0 < e = omega arith in
          let k : 1074 ≤ e - 1 = omega arith in
          lt_irrefl (2 ^ 1126) (lt_of_le_of_lt (mul-le-mul (lead_ge binary64 e (frac binary64 b) p) (pow_mono k)) under)

      go : (t : Bool) → (T t → e ≤ 1074) → (T (not t) → 1074 < e) → e ≤ 1074
      go true h k = h tt
      go false h k = absurd (clash (k tt))

  -- below the field 1023 the size is below 1
  none : e < 1023 → num x / den x ≡ 0
  none h =
      let k : 53 + (e - 1) ≤ 1074 = omega arith in
      in_units ∙ div-eq_of_lt (lt_of_lt_of_le (shl_lt 53 (e - 1) (lead-lt binary64 e (frac binary64 b) digits_lt)) (pow_mono k))

  some : 1023 ≤ e → num x / den x ≡ (frac binary64 b + 2 ^ 52) / 2 ^ (1075 - e)
  some h =
      let p : 0 < e = omega arith in
      let shifts : (1075 - e) + (e - 1) ≡ 1074 = let k = field-le in omega arith in
      let unit : 2 ^ (1075 - e) * 2 ^ (e - 1) ≡ 2 ^ 1074 = sym (pow-add 2 (1075 - e) (e - 1)) ∙ ap (λ (k : ℕ). 2 ^ k) shifts in
      in_units ∙ ap (λ (k : ℕ). q * 2 ^ (e - 1) / k) (sym unit) ∙ mul-div-mul_right q (2 ^ (1075 - e)) (pow_pos (e - 1)) ∙ ap (λ (k : ℕ). k / 2 ^ (1075 - e)) (lead_is binary64 e (frac binary64 b) p)

  whole_is : num x / den x ≡ whole_of b
  unfolding whole_of
  whole_is = by_test (ltb e 1023) refl
    where
      by_test : (t : Bool) → ltb e 1023 ≡ t → num x / den x ≡ cond t 0 ((b % 2 ^ 52 + 2 ^ 52) / 2 ^ (1075 - e))
      by_test true t = none (ltb-true e 1023 t)
      by_test false t = some (ltb-false e 1023 t)

  below : num x / den x < 2 ^ 52
  below = (div-lt_iff_lt-mul (den_pos x)).1 l

  pub whole-lt : whole_of b < 2 ^ 53
  whole-lt = let k = below in omega (arith, whole_is)

  -- the sign is the top bit
  pub cut-is : with_sign (eqb (b / 2 ^ 63) 1) (whole_of b) ≡ to_signed 63 x
  cut-is =
      ap (λ (t : Bool). with_sign t (whole_of b)) (top-is b (to_bits-lt binary64 x (subst T (sym F) tt)))
      ∙ sym (cast_is x (whole_of b) f whole_is (let k = below in omega (arith, whole_is))
      ∙ ap (λ (s : Bool). with_sign s (whole_of b)) (sign_pattern binary64 x (subst T (sym F) tt) f))

-- what the check of `truncated` needs
pub ruleset cut = (number, field-le, whole-lt, cut-is, to_z-of_z)

-- ---- the code's unit, `1 << (1075 - e)`
pub unit_is : (e : ℕ) → 1023 ≤ e → 1 * 2 ^ (1075 - e) % 2 ^ 64 ≡ 2 ^ (1075 - e)
unit_is e h = shl_exact 1 (1075 - e) 64 (lit< tt) (omega arith) ∙ one-mul (2 ^ (1075 - e))

pub unit_pos : (e : ℕ) → 1023 ≤ e → 0 < 1 * 2 ^ (1075 - e) % 2 ^ 64
unit_pos e h = subst (λ (k : ℕ). 0 < k) (sym (unit_is e h)) (pow_pos (1075 - e))

pub ruleset unit = (unit_is, unit_pos)
