-- The least number that passes a test: where it is, that it falls where more passes, and where the test is one against a fraction.
use mathlib.Core.Path.{◌≡◌, refl, sym, ap, ◌∙◌}
use mathlib.Core.Bool.{Bool, true, false, cond}
use Prim.Native.Nat.{ℕ, zero, suc, ◌+◌, ◌*◌, ◌-◌, ◌/◌, ◌%◌, ◌≤◌, ◌<◌, min, max}
use native.Mathlib.Nat.{le_trans, le_of_eq, suc-mul, mul_right_comm, mul-le-mul_right, le_of_mul-le-mul_right}
use native.Mathlib.Omega.{arith}
use borrow.Author.Tests.{le-leb, lt-leb, leb-true, leb-false, ltb-true, ltb-false}
use lib.Dec.{leb, ltb}
use Rattle.std.proofs.lemmas.Grind.{div_ceil_times}
use Rattle.nack_attempts.specs.Attempts.{least_from, least}

module _ (P : ℕ → Bool) where
  -- c is the least that passes, or the end
  pub least_at : (d low c : ℕ) → low ≤ c → c ≤ low + d → ((k : ℕ) → low ≤ k → k < c → P k ≡ false) → (c < low + d → P c ≡ true) → least_from d low P ≡ c
  unfolding least_from
  least_at zero low c h l f t = omega arith
  least_at (suc d) low c h l f t = go (least_at d (suc low) c) (P low) refl (ltb low c) refl
    where
      go : (suc low ≤ c → c ≤ suc low + d → ((k : ℕ) → suc low ≤ k → k < c → P k ≡ false) → (c < suc low + d → P c ≡ true) → least_from d (suc low) P ≡ c) → (p : Bool) → P low ≡ p → (q : Bool) → ltb low c ≡ q → cond p low (least_from d (suc low) P) ≡ c
      go ih true e true r = absurd (let z : false ≡ true = sym (f low (omega arith) (ltb-true low c r)) ∙ e in let w : ◌≡◌ {A = ℕ} 0 1 = cc in omega arith)
      go ih true e false r = omega (arith, ltb-false low c r)
      go ih false e true r = ih (ltb-true low c r) (omega arith) (λ k a b. f k (omega arith) b) (λ a. t (omega arith))
      go ih false e false r =
          let s : c ≡ low = omega (arith, ltb-false low c r) in
          let y : P c ≡ true = t (omega arith) in
          absurd (let z : false ≡ true = sym e ∙ ap P (sym s) ∙ y in let w : ◌≡◌ {A = ℕ} 0 1 = cc in omega arith)

  pub least_most : (d low : ℕ) → least_from d low P ≤ low + d
  unfolding least_from
  least_most zero low = omega arith
  least_most (suc d) low = go (least_most d (suc low)) (P low)
    where
      go : least_from d (suc low) P ≤ suc low + d → (p : Bool) → cond p low (least_from d (suc low) P) ≤ low + suc d
      go h true = omega arith
      go h false = omega arith

  module _ (Q : ℕ → Bool) where
    pub least-same : (d low : ℕ) → ((k : ℕ) → P k ≡ Q k) → least_from d low P ≡ least_from d low Q
    unfolding least_from
    least-same zero low e = refl
    least-same (suc d) low e = rw (e low, least-same d (suc low) e)

    pub low-least : (d low : ℕ) → low ≤ least_from d low Q
    unfolding least_from
    low-least zero low = omega arith
    low-least (suc d) low = go (low-least d (suc low)) (Q low)
      where
        go : suc low ≤ least_from d (suc low) Q → (q : Bool) → low ≤ cond q low (least_from d (suc low) Q)
        go h true = omega arith
        go h false = omega arith

    -- where more passes, the least is no larger
    pub least_mono : (d low : ℕ) → ((k : ℕ) → Q k ≡ true → P k ≡ true) → least_from d low P ≤ least_from d low Q
    unfolding least_from
    least_mono zero low f = omega arith
    least_mono (suc d) low f = go (least_mono d (suc low) f) (low-least d (suc low)) (P low) (Q low) refl refl
      where
        go : least_from d (suc low) P ≤ least_from d (suc low) Q → suc low ≤ least_from d (suc low) Q → (p q : Bool) → P low ≡ p → Q low ≡ q → cond p low (least_from d (suc low) P) ≤ cond q low (least_from d (suc low) Q)
        go i l true true a b = omega arith
        go i l true false a b = omega arith
        go i l false false a b = i
        go i l false true a b = absurd (let z : false ≡ true = sym a ∙ f low b in let w : ◌≡◌ {A = ℕ} 0 1 = cc in omega arith)

-- a test against a fraction is one against any that equals it
pub test_same : (a b c d j : ℕ) → 0 < b → 0 < d → a * d ≡ c * b → leb a (j * b) ≡ leb c (j * d)
test_same a b c d j B D e = go (leb a (j * b)) (leb c (j * d)) refl refl
  where
    there : a ≤ j * b → c ≤ j * d
    there h = le_of_mul-le-mul_right {m = c} {n = j * d} {k = b} (le_trans (le_of_eq (sym e)) (le_trans (mul-le-mul_right d h) (le_of_eq (mul_right_comm j b d)))) B

    back : c ≤ j * d → a ≤ j * b
    back h = le_of_mul-le-mul_right {m = a} {n = j * b} {k = d} (le_trans (le_of_eq e) (le_trans (mul-le-mul_right b h) (le_of_eq (mul_right_comm j d b)))) D

    go : (p q : Bool) → leb a (j * b) ≡ p → leb c (j * d) ≡ q → leb a (j * b) ≡ leb c (j * d)
    go true true x y = cc
    go false false x y = cc
    go true false x y = absurd (omega (arith, there (leb-true a (j * b) x), leb-false c (j * d) y))
    go false true x y = absurd (omega (arith, back (leb-true c (j * d) y), leb-false a (j * b) x))

-- a / u rounded up is the least number whose u-fold is not below a
module _ (a u : ℕ) (U : 0 < u) where
  -- as `div_ceil` of the library has it
  abbrev up : ℕ
  up = a / u + min 1 (a % u)

  passes : (j : ℕ) → up ≤ j → leb a (j * u) ≡ true
  passes j h =
      let p : up * u ≤ j * u = mul-le-mul_right u h in
      le-leb a (j * u) (omega (arith, (div_ceil_times a u U).0))

  fails : (j : ℕ) → j < up → leb a (j * u) ≡ false
  fails j h =
      let p : suc j * u ≤ up * u = mul-le-mul_right u h in
      let q : suc j * u ≡ j * u + u = suc-mul j u in
      lt-leb a (j * u) (omega (arith, (div_ceil_times a u U).1))

  -- and kept from low to high it is the least of those
  pub clamped : (low high : ℕ) → low ≤ high → max low (min up high) ≡ least low high (λ j. leb a (j * u))
  clamped low high h =
      sym (least_at (λ j. leb a (j * u)) (high - low) low (max low (min up high)) (omega arith) (omega arith) (λ k p q. fails k (omega arith)) (λ p. passes (max low (min up high)) (omega arith)))
