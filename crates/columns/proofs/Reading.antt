-- Digits one by one: the first of those left goes behind the number read so far, and after something else nothing is a number. Blanks
-- at the front: what follows them stays.
use mathlib.Core.Path.{◌≡◌, refl, ap, ◌∙◌}
use mathlib.Core.Bool.{Bool, true, false, cond}
use mathlib.Core.List.{List, [], ◌∷◌}
use Prim.Native.Nat.{ℕ, suc, ◌+◌, ◌≤◌, ◌<◌}
use native.Mathlib.Numerals.{add-one}
use native.Mathlib.Omega.{arith}
use lib.Dec.{eqb}
use lib.ListN.{length, drop, get_or, drop_of_length-le}
use lib.Seq.{drop-cons}
use Rattle.std.specs.Prelude.{None, Some}
use Rattle.std.specs.List.{prefix_len}
use Rattle.columns.specs.Columns.{with_digit, next_digit, digits_of, after_blanks}

pub digits-none : (s : List ℕ) → digits_of s None ≡ None
unfolding digits_of next_digit
digits-none [] = refl
digits-none (b ∷ s) = digits-none s

pub digits_step : (s : List ℕ) (i v : ℕ) → i < length s → digits_of (drop i s) (Some v) ≡ digits_of (drop (i + 1) s) (with_digit v (get_or s i 0))
unfolding digits_of next_digit
digits_step s i v h = rw (add-one, drop-cons s i 0)

pub digits-end : (s : List ℕ) (i v : ℕ) → length s ≤ i → digits_of (drop i s) (Some v) ≡ Some v
unfolding digits_of
digits-end s i v h = rw (drop_of_length-le s h)

-- what the check of `digits` needs
pub ruleset reading = (digits-none, digits_step, digits-end)

-- as many as the library's `take_while` passes
passed : (s : List ℕ) → (prefix_len (λ b. eqb b 32) s ≤ length s) × (drop (prefix_len (λ b. eqb b 32) s) s ≡ after_blanks s)
unfolding after_blanks
passed [] = (omega arith, refl)
passed (b ∷ s) = go (prefix_len (λ b. eqb b 32) s) (passed s) (eqb b 32)
  where
    go : (k : ℕ) → (k ≤ length s) × (drop k s ≡ after_blanks s) → (t : Bool) → (cond t (1 + k) 0 ≤ suc (length s)) × (drop (cond t (1 + k) 0) (b ∷ s) ≡ cond t (after_blanks s) (b ∷ s))
    go k ih true = let e : 1 + k ≡ suc k = omega arith in (omega (arith, ih.0), ap (λ (n : ℕ). drop n (b ∷ s)) e ∙ ih.1)
    go k ih false = (omega arith, refl)

pub blanks_dropped : (s : List ℕ) (k : ℕ) → k ≡ prefix_len (λ b. eqb b 32) s → (k ≤ length s) × (drop k s ≡ after_blanks s)
blanks_dropped s k e = rw e (passed s)
