-- A turn of a loop over a list's places, from place i on: what the element there decides, and what the rest does.
use mathlib.Core.Path.{◌≡◌, refl, sym, ap, ◌∙◌}
use mathlib.Core.Bool.{Bool, true, false, ◌&&◌, and-false}
use mathlib.Core.List.{List, [], ◌∷◌, ◌++◌, map}
use Prim.Native.Nat.{ℕ, zero, suc, ◌+◌, ◌≤◌, ◌<◌}
use native.Mathlib.Numerals.{add-one}
use native.Mathlib.Omega.{arith}
use lib.Dec.{ltb}
use lib.ListN.{length, take, drop, get_or, length-map, drop_of_length-le}
use lib.Seq.{drop-cons, take-suc}
use borrow.Author.Tests.{lt-ltb, le-ltb}
use Rattle.words.specs.Order.{ascends}
use Rattle.words.proofs.Ordered.{and_left, and_right, ascends_more, ascends-end}
use Rattle.model.specs.Lists.{keep, leading, some?, every?}

pub every-at : {A : Type 0} (p : A → Bool) (xs : List A) (d : A) (i : ℕ) → every? p xs ≡ true → i < length xs → p (get_or xs i d) ≡ true
unfolding every?
every-at p [] d i e h = absurd (omega arith)
every-at p (x ∷ xs) d zero e h = and_left (p x) (every? p xs) e
every-at p (x ∷ xs) d (suc i) e h = every-at p xs d i (and_right (p x) (every? p xs) e) (omega arith)

-- a weaker test
pub every_weaker : {A : Type 0} (p q : A → Bool) → ((x : A) → p x ≡ true → q x ≡ true) → (xs : List A) → every? p xs ≡ true → every? q xs ≡ true
unfolding every?
every_weaker p q w [] e = refl
every_weaker p q w (x ∷ xs) e = rw (w x (and_left (p x) (every? p xs) e)) (every_weaker p q w xs (and_right (p x) (every? p xs) e))

module _ {A : Type 0} (d : A) (xs : List A) (i : ℕ) (h : i < length xs) where
  pub drop_next : drop i xs ≡ get_or xs i d ∷ drop (i + 1) xs
  drop_next = drop-cons xs i d h ∙ ap (λ (k : ℕ). get_or xs i d ∷ drop k xs) (sym (add-one i))

  pub take_next : take (i + 1) xs ≡ take i xs ++ (get_or xs i d ∷ [])
  take_next = ap (λ (k : ℕ). take k xs) (add-one i) ∙ take-suc xs i d h

  -- one that passes p is looked for among those that pass q
  module _ (q p : A → Bool) where
    pub some_found : q (get_or xs i d) ≡ true → p (get_or xs i d) ≡ true → some? p (keep q (drop i xs)) ≡ true
    unfolding some? keep
    some_found a b = rw (drop_next, a, b)

    pub some-other : q (get_or xs i d) ≡ true → p (get_or xs i d) ≡ false → some? p (keep q (drop i xs)) ≡ some? p (keep q (drop (i + 1) xs))
    unfolding some? keep
    some-other a b = rw (drop_next, a, b)

    pub some_skip : q (get_or xs i d) ≡ false → some? p (keep q (drop i xs)) ≡ some? p (keep q (drop (i + 1) xs))
    unfolding some? keep
    some_skip a = rw (drop_next, a)

  -- those at the front that pass p
  module _ (p : A → Bool) where
    pub leading-none : p (get_or xs i d) ≡ false → length (leading p (drop i xs)) ≡ 0
    unfolding leading
    leading-none a = rw (drop_next, a)

    pub leading_more : p (get_or xs i d) ≡ true → length (leading p (drop i xs)) ≡ 1 + length (leading p (drop (i + 1) xs))
    unfolding leading
    leading_more a = let e : 1 + length (leading p (drop (i + 1) xs)) ≡ suc (length (leading p (drop (i + 1) xs))) = omega arith in rw (drop_next, a, e)

-- past the end
pub keep-end : {A : Type 0} (q p : A → Bool) (xs : List A) (i : ℕ) → length xs ≤ i → some? p (keep q (drop i xs)) ≡ false
unfolding some? keep
keep-end q p xs i h = let e : drop i xs ≡ [] = drop_of_length-le xs {i = i} h in rw e

pub leading_end : {A : Type 0} (p : A → Bool) (xs : List A) (i : ℕ) → length xs ≤ i → length (leading p (drop i xs)) ≡ 0
unfolding leading
leading_end p xs i h = let e : drop i xs ≡ [] = drop_of_length-le xs {i = i} h in rw e

-- ---- one pass for two properties: the numbers ascend, and each passes the test

-- what a loop over n places has read at place i: the number there, and whether the test passes
pub record Turn {A : Type 0} (number : A → ℕ) (test : A → Bool) (d : A) (xs : List A) (n i x : ℕ) (passes : Bool) : Type 0 where
  pub count : length xs ≡ n
  pub inside : i < n
  pub here : x ≡ get_or (map number xs) i 0
  pub tested : passes ≡ test (get_or xs i d)

-- what is left from place i on decides
unfoldable pub left : {A : Type 0} → (A → ℕ) → (A → Bool) → List A → ℕ → Bool
left number test xs i = ascends (drop i (map number xs)) && every? test (drop i xs)

module _ {A : Type 0} {number : A → ℕ} {test : A → Bool} {d : A} {xs : List A} {n i x : ℕ} {passes : Bool} (t : Turn number test d xs n i x passes) where
  next : drop i xs ≡ get_or xs i d ∷ drop (i + 1) xs
  next = drop_next d xs i (omega (arith, t.count, t.inside))

  pub left_bad : passes ≡ false → left number test xs i ≡ false
  unfolding left every?
  left_bad e = rw (next, ← t.tested, e) (and-false (ascends (drop i (map number xs))))

  pub left-last : passes ≡ true → n ≤ i + 1 → left number test xs i ≡ left number test xs (i + 1)
  unfolding left every?
  left-last e l =
      let m = length-map xs number in
      let c = t.count in
      rw (next, ← t.tested, e, ascends-end i (map number xs) (omega arith), ascends-end (i + 1) (map number xs) (omega arith))

  module _ {y : ℕ} (k : i + 1 < n) (ey : y ≡ get_or (map number xs) (i + 1) 0) where
    more : ascends (drop i (map number xs)) ≡ (ltb x y && ascends (drop (i + 1) (map number xs)))
    more = let m = length-map xs number in let c = t.count in ascends_more i (map number xs) (omega arith) ∙ rw (t.here, ey)

    pub left_unordered : y ≤ x → left number test xs i ≡ false
    unfolding left
    left_unordered e = rw (more, le-ltb x y e)

    pub left_more : passes ≡ true → x < y → left number test xs i ≡ left number test xs (i + 1)
    unfolding left every?
    left_more e l = rw (more, lt-ltb x y l, next, ← t.tested, e)

pub left_end : {A : Type 0} (number : A → ℕ) (test : A → Bool) (xs : List A) (i : ℕ) → length xs ≤ i → left number test xs i ≡ true
unfolding left every?
left_end number test xs i h =
    let e : drop i xs ≡ [] = drop_of_length-le xs {i = i} h in
    let m = length-map xs number in
    rw (e, ascends-end i (map number xs) (omega arith))
