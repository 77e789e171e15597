-- The time from the earliest timestamp to the last is finite and not below zero, so `from_secs_f64` refuses it only from 2 ^ 26 s on.
use mathlib.Core.Path.{◌≡◌, refl, sym, ◌∙◌, subst}
use mathlib.Core.Logic.{inl}
use mathlib.Core.Bool.{Bool, true, false, cond}
use Prim.Native.Nat.{ℕ, ◌*◌, ◌≤◌, ◌^◌}
use native.Mathlib.Nat.{le_trans, le_of_eq, mul-one, mul-le-mul_right, one-mul}
use native.Mathlib.Omega.{arith}
use lib.IntN.{pos}
use lib.Dec.{lit≤, lit<}
use lib.Ieee.{Float, binary64, of_int, sub, lt}
use lib.Ieee.Positive.{num, den, value→cross, positive_of_value}
use Rattle.float_laws.proofs.Upto.{NonNeg, Upto, of_int_upto, of_int_value, upto_more, whole_to, over-upto}
use Rattle.float_laws.proofs.Size.{Size, size_of_upto, sub-size, above-upto}
use Rattle.durations.specs.Seconds.{largest, zero64}
use Rattle.durations.proofs.Bound.{zero_is}
use Rattle.handout.specs.Timeout.{behind}

module _ (last earliest : ℕ) (a : last ≤ largest) (b : earliest ≤ largest) where
  abbrev delta : Float
  delta = sub binary64 (of_int binary64 (pos last)) (of_int binary64 (pos earliest))

  delta-size : Size delta (2 ^ 53) 1
  delta-size =
      let x = of_int binary64 (pos last) in
      let y = of_int binary64 (pos earliest) in
      let u : Upto x (2 ^ 52) 1 = upto_more x last 1 (2 ^ 52) 1 (lit< tt) (of_int_upto binary64 last (omega arith)) (omega arith) in
      let v : Upto y (2 ^ 52) 1 = upto_more y earliest 1 (2 ^ 52) 1 (lit< tt) (of_int_upto binary64 earliest (omega arith)) (omega arith) in
      sub-size binary64 x y (2 ^ 52) 1 (2 ^ 52) 1 (2 ^ 53) 1 (2 ^ 53) 1 (lit< tt) (lit< tt) (lit< tt) (whole_to binary64 (2 ^ 53) (lit≤ tt)) (size_of_upto x (2 ^ 52) 1 u) (size_of_upto y (2 ^ 52) 1 v) (lit≤ tt)

  max-upto : Upto (cond (lt zero64 delta) delta zero64) (2 ^ 53) 1
  max-upto = go (lt zero64 delta) refl
    where
      go : (t : Bool) → lt zero64 delta ≡ t → Upto (cond t delta zero64) (2 ^ 53) 1
      go true h = above-upto delta (2 ^ 53) 1 delta-size (subst (λ (z : Float). lt z delta ≡ true) zero_is h)
      go false h = subst (λ (z : Float). Upto z (2 ^ 53) 1) (sym zero_is) (inl refl, lit≤ tt)

  pub behind_nonneg : (rate : ℕ) → 1 ≤ rate → rate ≤ 2 ^ 53 → NonNeg (behind last earliest rate)
  unfolding behind
  behind_nonneg rate some small =
      let y = of_int binary64 (pos rate) in
      let v = of_int_value binary64 rate small in
      let e : num y ≡ rate * den y = sym (mul-one (num y)) ∙ value→cross y rate 1 v in
      (over-upto binary64 (cond (lt zero64 delta) delta zero64) y (2 ^ 53) (whole_to binary64 (2 ^ 53) (lit≤ tt)) max-upto (positive_of_value y rate 1 v some)
      (le_trans (le_of_eq (sym (one-mul (den y)))) (le_trans (mul-le-mul_right (den y) some) (le_of_eq (sym e))))).0
