-- Attempts one by one: each number passed did not do, and power and bound are those of the number that comes next. Neither passes 10 ^ 16.
use mathlib.Core.Path.{◌≡◌, refl, sym, ap, ◌∙◌}
use mathlib.Core.Bool.{Bool, true, false}
use Prim.Native.Nat.{ℕ, suc, ◌+◌, ◌*◌, ◌-◌, ◌^◌, ◌≤◌, ◌<◌}
use native.Mathlib.Nat.{le_trans, mul_comm, mul-one, mul_assoc, mul-le-mul, pow-zero, pow-succ', pow-le-pow_left, pow-le-pow_right}
use native.Mathlib.Numerals.{add-one}
use native.Mathlib.Omega.{arith}
use borrow.Author.Tests.{le-leb, lt-leb, leb-true, ltb-true, ltb-false}
use lib.Dec.{ltb}
use lib.Ieee.{Float}
use Rattle.nack_attempts.specs.Attempts.{not_below, loss_of, enough, attempts_of}
use Rattle.nack_attempts.proofs.Least.{least_at, least_most, least_mono}

pub record Trying (k t max n power bound : ℕ) : Type 0 where
  pub loss : k ≤ 10000
  pub most : max ≤ 4
  pub some : 1 ≤ n
  pub upto : n ≤ max
  pub power-is : power ≡ k ^ n
  pub bound_is : bound ≡ (10000 - t) * 10000 ^ (n - 1)
  pub failed : (j : ℕ) → 1 ≤ j → j < n → enough k t j ≡ false

pow_one : (k : ℕ) → k ^ 1 ≡ k
pow_one k = pow-succ' k 0 ∙ ap (λ (p : ℕ). k * p) (pow-zero k) ∙ mul-one k

pub trying_first : (k t max : ℕ) → k ≤ 10000 → 1 ≤ max → max ≤ 4 → Trying k t max 1 k (10000 - t)
trying_first k t max h l m =
    record { loss = h; most = m; some = omega arith; upto = l; power-is = sym (pow_one k); bound_is = sym (mul-one (10000 - t)); failed = λ j a b. absurd (omega arith) }

module _ (k t max n power bound : ℕ) (r : Trying k t max n power bound) where
  pub trying_more : n < max → bound < power → Trying k t max (n + 1) (power * k) (bound * 10000)
  trying_more h l =
      let some : 1 ≤ n = r.some in
      let e : n + 1 - 1 ≡ suc (n - 1) = omega arith in
      record {
        loss = r.loss;
        most = r.most;
        some = omega arith;
        upto = omega arith;
        power-is = ap (λ (p : ℕ). p * k) r.power-is ∙ mul_comm (k ^ n) k ∙ sym (pow-succ' k n) ∙ ap (λ (m : ℕ). k ^ m) (sym (add-one n));
        bound_is =
            ap (λ (p : ℕ). p * 10000) r.bound_is
            ∙ mul_assoc (10000 - t) (10000 ^ (n - 1)) 10000
            ∙ ap (λ (p : ℕ). (10000 - t) * p) (mul_comm (10000 ^ (n - 1)) 10000 ∙ sym (pow-succ' 10000 (n - 1)) ∙ ap (λ (m : ℕ). 10000 ^ m) (sym e));
        failed = λ j a b. go j a b (ltb j n) refl;
      }
    where
      this : enough k t n ≡ false
      this = rw (← r.power-is, ← r.bound_is) (lt-leb power bound l)

      go : (j : ℕ) → 1 ≤ j → j < n + 1 → (s : Bool) → ltb j n ≡ s → enough k t j ≡ false
      go j a b true e = r.failed j a (ltb-true j n e)
      go j a b false e = let z : j ≡ n = omega (arith, ltb-false j n e) in ap (enough k t) z ∙ this

  pub trying_found : power ≤ bound → n ≡ attempts_of k t max
  unfolding attempts_of
  trying_found h =
      let some : 1 ≤ n = r.some in
      let upto : n ≤ max = r.upto in
      sym (least_at (enough k t) (max - 1) 1 n some (omega arith) r.failed (λ p. rw (← r.power-is, ← r.bound_is) (le-leb power bound h)))

  pub trying_none : max ≤ n → n ≡ attempts_of k t max
  unfolding attempts_of
  trying_none h =
      let some : 1 ≤ n = r.some in
      let upto : n ≤ max = r.upto in
      sym (least_at (enough k t) (max - 1) 1 n some (omega arith) r.failed (λ p. absurd (omega arith)))

  -- ---- nothing wraps

  module _ (h : n < max) where
    n_most : n ≤ 3
    n_most = omega (arith, r.most)

    pub power-lt : power * k < 2 ^ 64
    power-lt =
        let a : k ^ n ≤ 10000 ^ 3 = le_trans (pow-le-pow_left r.loss n) (pow-le-pow_right (omega arith) n_most) in
        let b : power ≤ 1000000000000 = omega (arith, r.power-is) in
        let c : power * k ≤ 1000000000000 * 10000 = mul-le-mul b r.loss in
        omega arith

    pub bound_lt : bound * 10000 < 2 ^ 64
    bound_lt =
        let a : 10000 ^ (n - 1) ≤ 10000 ^ 2 = pow-le-pow_right {n = 10000} (omega arith) {i = n - 1} {j = 2} (omega (arith, n_most)) in
        let b : (10000 - t) * 10000 ^ (n - 1) ≤ 10000 * 10000 ^ 2 = mul-le-mul {n₁ = 10000 - t} {n₂ = 10000} (omega arith) a in
        let c : bound ≤ 1000000000000 = omega (arith, r.bound_is) in
        omega arith

-- what the two returns of `attempts_of` need
pub ruleset trials = (trying_found, trying_none)

-- ---- a larger k, no fewer attempts

pub attempts_grow : (k k' t max : ℕ) → k ≤ k' → attempts_of k t max ≤ attempts_of k' t max
unfolding attempts_of
attempts_grow k k' t max h =
    least_mono (enough k t) (enough k' t) (max - 1) 1
    (λ n e. le-leb (k ^ n) ((10000 - t) * 10000 ^ (n - 1)) (le_trans (pow-le-pow_left h n) (leb-true (k' ^ n) ((10000 - t) * 10000 ^ (n - 1)) e)))

-- ---- ranges, for callers

pub loss_most : (x : Float) → loss_of x ≤ 9900
unfolding loss_of
loss_most x = least_most (not_below x) 9890 10

pub attempts_most : (k t max : ℕ) → 1 ≤ max → attempts_of k t max ≤ max
unfolding attempts_of
attempts_most k t max h = omega (arith, least_most (enough k t) (max - 1) 1)
