-- Lists by counting: `count n l` is how often n stands in l, and two sorted lists that count alike are equal. The counts are native numbers, so
-- that one `omega` joins the laws of all lists that a call moves.
use mathlib.Core.Path.{◌≡◌, refl, sym, ap, ap₂, ◌∙◌}
use mathlib.Core.Logic.{◌⊎◌, inl, inr, ◌≢◌}
use mathlib.Core.Bool.{Bool, true, false, cond, not}
use mathlib.Core.List.{List, [], ◌∷◌, ◌++◌}
use Prim.Native.Nat.{ℕ, zero, suc, ◌+◌, ◌≤◌, ◌<◌}
use native.Mathlib.Omega.{arith}
use lib.Dec.{T, leb, eqb, leb→le, nleb→lt, eqb→eq}
use lib.Ieee.Bits.{cond_no}
use borrow.Author.Tests.{eq-eqb}
use Rattle.model.specs.Lists.{following}
use Rattle.model.proofs.Lists.{by_cases, eqb_no, no_eqb}
use Rattle.book.specs.Sorted.{put_in, put_all_in, sort}

-- ---- cases

pub either : (b : Bool) → T b ⊎ T (not b)
either true = inl tt
either false = inr tt

-- a number is 0 or more
by_zero : {P : Type 0} (k : ℕ) → (k ≡ 0 → P) → (1 ≤ k → P) → P
by_zero zero f g = f refl
by_zero (suc k) f g = g (omega arith)

-- ---- counting

-- 1 where the two are equal, else 0
pub same : ℕ → ℕ → ℕ
same n x = cond (eqb n x) 1 0

pub same-yes : (n x : ℕ) → n ≡ x → same n x ≡ 1
unfolding same
same-yes n x e = rw eq-eqb

pub same_no : (n x : ℕ) → n ≢ x → same n x ≡ 0
unfolding same
same_no n x ne = cond_no (eqb n x) 1 0 (no_eqb n x ne)

-- the one place where two numbers are compared
pub by-compare : {P : Type 0} (n x : ℕ) → (n ≡ x → same n x ≡ 1 → P) → (n ≢ x → same n x ≡ 0 → P) → P
by-compare {P} n x f g = go (either (eqb n x))
  where
    go : T (eqb n x) ⊎ T (not (eqb n x)) → P
    go (inl t) = f (eqb→eq n x t) (same-yes n x (eqb→eq n x t))
    go (inr t) = g (eqb_no n x t) (same_no n x (eqb_no n x t))

unfoldable pub count : ℕ → List ℕ → ℕ
count n [] = 0
count n (x ∷ xs) = same n x + count n xs

pub count_one : (n x : ℕ) → count n (x ∷ []) ≡ same n x
unfolding count
count_one n x = omega arith

pub count_cons : (n x : ℕ) (l : List ℕ) → count n (x ∷ l) ≡ same n x + count n l
unfolding count
count_cons n x l = refl

pub count_nil : (n : ℕ) → count n [] ≡ 0
unfolding count
count_nil n = refl

-- a list in which nothing is counted is empty
pub none-counted : (l : List ℕ) → ((n : ℕ) → count n l ≡ 0) → l ≡ []
unfolding count
none-counted [] h = refl
none-counted (x ∷ xs) h = absurd (omega (arith, h x, same-yes x x refl))

pub count_append : (n : ℕ) (xs ys : List ℕ) → count n (xs ++ ys) ≡ count n xs + count n ys
unfolding count
count_append n [] ys = omega arith
count_append n (x ∷ xs) ys = let ih = count_append n xs ys in omega arith

pub count-put_in : (n x : ℕ) (l : List ℕ) → count n (put_in x l) ≡ same n x + count n l
unfolding count put_in
count-put_in n x [] = refl
count-put_in n x (y ∷ ys) =
    let ih = count-put_in n x ys in
    by_cases (λ l. count n l ≡ same n x + (same n y + count n ys)) (leb x y) (λ t. refl) (λ t. omega arith)

pub count-put_all_in : (n : ℕ) (xs l : List ℕ) → count n (put_all_in xs l) ≡ count n xs + count n l
unfolding count put_all_in
count-put_all_in n [] l = omega arith
count-put_all_in n (x ∷ xs) l = let ih = count-put_all_in n xs l in omega (arith, count-put_in n x (put_all_in xs l))

pub count-sort : (n : ℕ) (xs : List ℕ) → count n (sort xs) ≡ count n xs
unfolding sort count
count-sort n xs = omega (arith, count-put_all_in n xs [])

-- ---- order

-- every number of the list is at least a
unfoldable From : ℕ → List ℕ → Type 0
From a l = (n : ℕ) → 1 ≤ count n l → a ≤ n

unfoldable pub Sorted : List ℕ → Type 0
unfolding From
Sorted [] = Unit {0}
Sorted (x ∷ xs) = From x xs × Sorted xs

from_cons : (a x : ℕ) (l : List ℕ) → a ≤ x → From a l → From a (x ∷ l)
unfolding From count
from_cons a x l h f n c = by-compare n x (λ e s. omega arith) (λ ne s. f n (omega arith))

from-put_in : (a x : ℕ) (l : List ℕ) → a ≤ x → From a l → From a (put_in x l)
unfolding From count
from-put_in a x l h f n c = from_cons a x l h f n (omega (arith, count-put_in n x l))

sorted_put_in : (x : ℕ) (l : List ℕ) → Sorted l → Sorted (put_in x l)
unfolding Sorted put_in From count
sorted_put_in x [] s = ((λ n c. omega arith), tt)
sorted_put_in x (y ∷ ys) s =
    let ih = sorted_put_in x ys s.1 in
    by_cases Sorted (leb x y)
    (λ t. (from_cons x y ys (leb→le x y t) (λ n c. omega (arith, leb→le x y t, s.0 n c)), s))
    (λ t. (from-put_in y x ys (omega (arith, nleb→lt x y t)) s.0, ih))

pub sorted_put_all_in : (xs l : List ℕ) → Sorted l → Sorted (put_all_in xs l)
unfolding put_all_in
sorted_put_all_in [] l s = s
sorted_put_all_in (x ∷ xs) l s = sorted_put_in x (put_all_in xs l) (sorted_put_all_in xs l s)

pub sorted_sort : (xs : List ℕ) → Sorted (sort xs)
unfolding sort Sorted
sorted_sort xs = sorted_put_all_in xs [] tt

-- two sorted lists that count alike are equal
pub sorted_same : (xs ys : List ℕ) → Sorted xs → Sorted ys → ((n : ℕ) → count n xs ≡ count n ys) → xs ≡ ys
unfolding Sorted From count
sorted_same [] [] s t h = refl
sorted_same [] (y ∷ ys) s t h = absurd (omega (arith, h y, same-yes y y refl))
sorted_same (x ∷ xs) [] s t h = absurd (omega (arith, h x, same-yes x x refl))
sorted_same (x ∷ xs) (y ∷ ys) s t h =
    by-compare x y (λ e q. ap₂ ◌∷◌ e (sorted_same xs ys s.1 t.1 (λ n. omega (arith, h n, ap (same n) e))))
    (λ ne q.
    absurd
    (ne (omega (arith, s.0 y (omega (arith, h y, same-yes y y refl, same_no y x (λ e. ne (sym e)))), t.0 x (omega (arith, h x, same-yes x x refl))))))

-- ---- a run of numbers

pub following_append : (a j k : ℕ) → following a (j + k) ≡ following a j ++ following (a + j) k
unfolding following
following_append a zero k = rw (native.Mathlib.Nat.zero-add, native.Mathlib.Nat.add-zero)
following_append a (suc j) k =
    rw native.Mathlib.Nat.suc-add (ap (λ (l : List ℕ). a ∷ l) (following_append (suc a) j k ∙ ap (λ (x : ℕ). following (suc a) j ++ following x k) (omega arith)))

count-following : (n a k : ℕ) → 1 ≤ count n (following a k) → (a ≤ n) × (n < a + k)
unfolding following count
count-following n a zero c = absurd (omega arith)
count-following n a (suc k) c = by-compare n a (λ e s. omega arith) (λ ne s. let ih = count-following n (suc a) k (omega arith) in omega arith)

pub count-following-le : (n a k : ℕ) → count n (following a k) ≤ 1
unfolding following count
count-following-le n a zero = omega arith
count-following-le n a (suc k) =
    by-compare n a (λ e s. by_zero (count n (following (suc a) k)) (λ z. omega arith) (λ p. absurd (omega (arith, count-following n (suc a) k p))))
    (λ ne s. let ih = count-following-le n (suc a) k in omega arith)

pub sorted_following : (a k : ℕ) → Sorted (following a k)
unfolding following Sorted From
sorted_following a zero = tt
sorted_following a (suc k) = ((λ n c. omega (arith, count-following n (suc a) k c)), sorted_following (suc a) k)
