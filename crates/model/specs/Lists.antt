-- Parts of a list by a test, and runs of numbers that follow one another.
use Rattle.std.specs.Prelude.{Bool, true, false, cond, ◌||◌, ◌&&◌, List, [], ◌∷◌, ℕ, zero, suc}

-- the k numbers a, a + 1, ..
unfoldable pub following : ℕ → ℕ → List ℕ
following a zero = []
following a (suc k) = a ∷ following (suc a) k

module _ {A : Type 0} where
  -- those that pass the test, in order
  unfoldable pub keep : (A → Bool) → List A → List A
  keep p [] = []
  keep p (x ∷ xs) = cond (p x) (x ∷ keep p xs) (keep p xs)

  -- those before the first that fails the test, and the rest
  unfoldable pub leading : (A → Bool) → List A → List A
  leading p [] = []
  leading p (x ∷ xs) = cond (p x) (x ∷ leading p xs) []

  unfoldable pub trailing : (A → Bool) → List A → List A
  trailing p [] = []
  trailing p (x ∷ xs) = cond (p x) (trailing p xs) (x ∷ xs)

  -- whether one passes the test, and whether each does
  unfoldable pub some? : (A → Bool) → List A → Bool
  some? p [] = false
  some? p (x ∷ xs) = p x || some? p xs

  unfoldable pub every? : (A → Bool) → List A → Bool
  every? p [] = true
  every? p (x ∷ xs) = p x && every? p xs
