-- 02, point 7, "Dynamic delay": the loss in ten thousandths and the number of attempts, over whole numbers and exact fractions.
use Rattle.std.specs.Prelude.{Bool, cond, ℕ, zero, suc, ◌*◌, ◌-◌, ◌^◌, leb, Float}
use Rattle.std.specs.Float.Ieee.Positive.{num, den}

-- of the d numbers from k on the least that passes, or the one after them
unfoldable pub least_from : ℕ → ℕ → (ℕ → Bool) → ℕ
least_from zero k passes = k
least_from (suc d) k passes = cond (passes k) k (least_from d (suc k) passes)

-- "the least whole number from" low "to" high that passes, "or" high "if there is none"
abbrev pub least : ℕ → ℕ → (ℕ → Bool) → ℕ
least low high passes = least_from (high - low) low passes

-- "not below 10,000 times the f32 loss, the product taken exactly": the loss is `num x` / `den x`
abbrev pub not_below : Float → ℕ → Bool
not_below x k = leb (10000 * num x) (k * den x)

-- "Loss k is the least whole number from 10 to 9,900 not below 10,000 times the f32 loss .., or 9,900 if there is none"
unfoldable pub loss_of : Float → ℕ
loss_of x = least 10 9900 (not_below x)

-- "k^n at most (10,000 − t) · 10,000^(n − 1)"
abbrev pub enough : ℕ → ℕ → ℕ → Bool
enough k t n = leb (k ^ n) ((10000 - t) * 10000 ^ (n - 1))

-- "Attempts n is the least number from 1 to max attempts with" that, "or max attempts if none fits"
unfoldable pub attempts_of : ℕ → ℕ → ℕ → ℕ
attempts_of k t max = least 1 max (enough k t)
