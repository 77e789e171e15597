-- A float cut toward zero by its bits (IEEE 754, binary64: a sign, 11 bits of exponent, 52 digits): what `truncated` works out on the way to `to_signed`.
use Rattle.std.specs.Prelude.{Bool, cond, ℕ, ◌+◌, ◌-◌, ◌*◌, ◌/◌, ◌%◌, ◌<◌, ◌^◌, T, ltb, ℤ, pos, neg_ℤ, Float}
use Rattle.std.specs.Float.Ieee.Scale.{finite}
use Rattle.std.specs.Float.Ieee.Positive.{num, den}

-- finite, and below 2^52 in size: its exact value is `num x` / `den x`, but for the sign
abbrev pub Below52 : Float → Type 0
Below52 x = T (finite x) × (num x < 2 ^ 52 * den x)

abbrev pub exponent_of : ℕ → ℕ
exponent_of bits = bits / 2 ^ 52 % 2048

unfoldable pub whole_of : ℕ → ℕ
whole_of bits = cond (ltb (exponent_of bits) 1023) 0 ((bits % 2 ^ 52 + 2 ^ 52) / 2 ^ (1075 - exponent_of bits))

unfoldable pub with_sign : Bool → ℕ → ℤ
with_sign negative whole = cond negative (neg_ℤ (pos whole)) (pos whole)
