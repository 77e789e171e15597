-- What holds of each element of a list, and that its numbers rise: kept by every part of the list, and by an element put in its place.
-- Each law is by induction on the list; a test is taken by cases.
use mathlib.Core.Path.{◌≡◌, refl, ap, subst}
use mathlib.Core.Logic.{◌≢◌}
use mathlib.Core.Bool.{Bool, true, false, cond, not, ◌&&◌, ◌||◌}
use mathlib.Core.List.{List, [], ◌∷◌, ◌++◌, map}
use Prim.Native.Nat.{ℕ, zero, suc, ◌+◌, ◌≤◌, ◌<◌}
use native.Mathlib.Omega.{arith}
use lib.Dec.{T, leb, ltb, eqb, leb→le, nleb→lt, ltb→lt, lt→ltb, eqb→eq, eqb_refl, T_not, not_T}
use lib.Ieee.Fits.{and_l, and_r, and_i}
use lib.ListN.{length, drop}
use Rattle.words.specs.Order.{leads, ascends}
use Rattle.model.specs.Lists.{following, keep, trailing, some?, every?}
use Rattle.model.specs.Records.{Entry, Gap, gap_numbers}
use Rattle.model.specs.Rules.{is, fresh}
use Rattle.model.specs.Push.{insert_sorted}

-- ---- a test, by cases

-- what holds of both arms, each where its test says so, holds of `cond`
pub by_cases {κ} : {A : Type 0} (P : A → Type κ) (b : Bool) {x y : A} → (T b → P x) → (T (not b) → P y) → P (cond b x y)
by_cases P true f g = f tt
by_cases P false f g = g tt

-- what holds of `cond` holds of the arm that its test says
pub arm_yes {κ} : {A : Type 0} (P : A → Type κ) (b : Bool) (x y : A) → T b → P (cond b x y) → P x
arm_yes P true x y t h = h
arm_yes P false x y t h = absurd t

pub arm_no {κ} : {A : Type 0} (P : A → Type κ) (b : Bool) (x y : A) → T (not b) → P (cond b x y) → P y
arm_no P true x y t h = absurd t
arm_no P false x y t h = h

pub by_or : {P : Type 0} (a b : Bool) → T (a || b) → (T a → P) → (T b → P) → P
by_or true b t f g = f t
by_or false b t f g = g t

pub by_nor : {P : Type 0} (a b : Bool) → T (not (a || b)) → (T (not a) → T (not b) → P) → P
by_nor true b t f = absurd t
by_nor false b t f = f tt t

pub by_nand : {P : Type 0} (a b : Bool) → T (not (a && b)) → (T (not a) → P) → (T (not b) → P) → P
by_nand true b t f g = g t
by_nand false b t f g = f tt

nor_i : (a b : Bool) → T (not a) → T (not b) → T (not (a || b))
nor_i true b s t = absurd s
nor_i false b s t = t

pub not-not : (b : Bool) → T (not (not b)) → T b
not-not true t = tt
not-not false t = t

pub eqb_no : (m n : ℕ) → T (not (eqb m n)) → m ≢ n
eqb_no m n t e = T_not (eqb m n) t (subst (λ (x : ℕ). T (eqb m x)) e (eqb_refl m))

pub no_eqb : (m n : ℕ) → m ≢ n → T (not (eqb m n))
no_eqb m n ne = not_T (eqb m n) (λ t. ne (eqb→eq m n t))

-- ---- each element

module _ {A : Type 0} where
  -- P holds of each element
  pub data Each (P : A → Type 0) : List A → Type 0 where
    none : Each P []
    more : {x : A} {xs : List A} → P x → Each P xs → Each P (x ∷ xs)

  pub each_first : {P : A → Type 0} {x : A} {xs : List A} → Each P (x ∷ xs) → P x
  each_first (more h t) = h

  pub each_rest : {P : A → Type 0} {x : A} {xs : List A} → Each P (x ∷ xs) → Each P xs
  each_rest (more h t) = t

  pub each_imp : {P Q : A → Type 0} {l : List A} → ((x : A) → P x → Q x) → Each P l → Each Q l
  each_imp f none = none
  each_imp f (more {x = x} h t) = more (f x h) (each_imp f t)

  pub each_both : {P Q : A → Type 0} {l : List A} → Each P l → Each Q l → Each (λ x. P x × Q x) l
  each_both none none = none
  each_both (more h t) (more k u) = more (h, k) (each_both t u)

  pub each_append : {P : A → Type 0} {l m : List A} → Each P l → Each P m → Each P (l ++ m)
  each_append none k = k
  each_append (more h t) k = more h (each_append t k)

  pub each_drop : {P : A → Type 0} {l : List A} (n : ℕ) → Each P l → Each P (drop n l)
  each_drop zero h = h
  each_drop (suc n) none = none
  each_drop {P = P} (suc n) (more {x = x} {xs = xs} h t) = each_drop {P = P} {l = xs} n t

  pub each_keep : {P : A → Type 0} {l : List A} (p : A → Bool) → Each P l → Each P (keep p l)
  unfolding keep
  each_keep p none = none
  each_keep {P} p (more {x = x} h t) = by_cases (Each P) (p x) (λ y. more h (each_keep p t)) (λ n. each_keep p t)

  -- what passes the test is known to pass it
  pub each_kept : (p : A → Bool) (l : List A) → Each (λ x. T (p x)) (keep p l)
  unfolding keep
  each_kept p [] = none
  each_kept p (x ∷ xs) = by_cases (Each (λ x. T (p x))) (p x) (λ y. more y (each_kept p xs)) (λ n. each_kept p xs)

  pub each_trailing : {P : A → Type 0} {l : List A} (p : A → Bool) → Each P l → Each P (trailing p l)
  unfolding trailing
  each_trailing p none = none
  each_trailing {P} p (more {x = x} h t) = by_cases (Each P) (p x) (λ y. each_trailing p t) (λ n. more h t)

  -- the test `every?`, and what it says
  pub each_of_every : {P : A → Type 0} (p : A → Bool) (l : List A) → ((x : A) → T (p x) → P x) → T (every? p l) → Each P l
  unfolding every?
  each_of_every p [] f t = none
  each_of_every p (x ∷ xs) f t = more (f x (and_l (p x) (every? p xs) t)) (each_of_every p xs f (and_r (p x) (every? p xs) t))

  pub every_of_each : {P : A → Type 0} {l : List A} (p : A → Bool) → ((x : A) → P x → T (p x)) → Each P l → T (every? p l)
  unfolding every?
  every_of_each p f none = tt
  every_of_each p f (more {x = x} {xs = xs} h t) = and_i (p x) (every? p xs) (f x h) (every_of_each p f t)

  some_of_every-not : (p : A → Bool) (l : List A) → Each (λ x. T (not (p x))) l → T (not (some? p l))
  unfolding some?
  some_of_every-not p [] none = tt
  some_of_every-not p (x ∷ xs) (more h t) = nor_i (p x) (some? p xs) h (some_of_every-not p xs t)

  pub each_not_of_some : (p : A → Bool) (l : List A) → T (not (some? p l)) → Each (λ x. T (not (p x))) l
  unfolding some?
  each_not_of_some p [] t = none
  each_not_of_some p (x ∷ xs) t = by_nor (p x) (some? p xs) t (λ h k. more h (each_not_of_some p xs k))

  -- ---- lengths

  pub length-keep : (p : A → Bool) (l : List A) → length (keep p l) ≤ length l
  unfolding keep
  length-keep p [] = omega arith
  length-keep p (x ∷ xs) = let ih = length-keep p xs in by_cases (λ (l : List A). length l ≤ suc (length xs)) (p x) (λ y. omega arith) (λ n. omega arith)

  pub length-trailing : (p : A → Bool) (l : List A) → length (trailing p l) ≤ length l
  unfolding trailing
  length-trailing p [] = omega arith
  length-trailing p (x ∷ xs) = let ih = length-trailing p xs in by_cases (λ (l : List A). length l ≤ suc (length xs)) (p x) (λ y. omega arith) (λ n. omega arith)

module _ {A B : Type 0} where
  pub each_map : {P : B → Type 0} (f : A → B) {l : List A} → Each (λ x. P (f x)) l → Each P (map f l)
  each_map f none = none
  each_map f (more h t) = more h (each_map f t)

-- ---- numbers that rise

module _ {A : Type 0} (f : A → ℕ) where
  -- the number of each element is above those of all before it
  pub data Rising : List A → Type 0 where
    empty : Rising []
    above : {x : A} {xs : List A} → Each (λ y. f x < f y) xs → Rising xs → Rising (x ∷ xs)

  pub rising_rest : {x : A} {xs : List A} → Rising (x ∷ xs) → Rising xs
  rising_rest (above h t) = t

  pub rising_first : {x : A} {xs : List A} → Rising (x ∷ xs) → Each (λ y. f x < f y) xs
  rising_first (above h t) = h

  pub rising_of_ascends : (l : List A) → T (ascends (map f l)) → Rising l
  unfolding ascends leads
  rising_of_ascends [] t = empty
  rising_of_ascends (x ∷ []) t = above none empty
  rising_of_ascends (x ∷ y ∷ ys) t =
      let ih = rising_of_ascends (y ∷ ys) (and_r (ltb (f x) (f y)) (ascends (map f (y ∷ ys))) t) in
      let h : f x < f y = ltb→lt (f x) (f y) (and_l (ltb (f x) (f y)) (ascends (map f (y ∷ ys))) t) in
      above (more h (each_imp (λ z k. omega arith) (rising_first ih))) ih

  pub ascends_of_rising : (l : List A) → Rising l → T (ascends (map f l))
  unfolding ascends leads
  ascends_of_rising [] r = tt
  ascends_of_rising (x ∷ []) r = tt
  ascends_of_rising (x ∷ y ∷ ys) (above h t) = and_i (ltb (f x) (f y)) (ascends (map f (y ∷ ys))) (lt→ltb (f x) (f y) (each_first h)) (ascends_of_rising (y ∷ ys) t)

  pub rising_keep : {l : List A} (p : A → Bool) → Rising l → Rising (keep p l)
  unfolding keep
  rising_keep p empty = empty
  rising_keep p (above {x = x} h t) = by_cases Rising (p x) (λ y. above (each_keep p h) (rising_keep p t)) (λ n. rising_keep p t)

  pub rising_trailing : {l : List A} (p : A → Bool) → Rising l → Rising (trailing p l)
  unfolding trailing
  rising_trailing p empty = empty
  rising_trailing p (above {x = x} h t) = by_cases Rising (p x) (λ y. rising_trailing p t) (λ n. above h t)

  -- all of the first list are below m, and none of the second is
  pub rising_append : {l k : List A} (m : ℕ) → Rising l → Rising k → Each (λ x. f x < m) l → Each (λ x. m ≤ f x) k → Rising (l ++ k)
  rising_append m empty r b a = r
  rising_append m (above {x = x} h t) r (more lt b) a = above (each_append h (each_imp (λ y le. omega arith) a)) (rising_append m t r b a)

module _ {A B : Type 0} (f : A → ℕ) (f' : B → ℕ) where
  -- other elements with the same numbers
  pub rising_map : {l : List A} (g : A → B) → ((x : A) → f' (g x) ≡ f x) → Rising f l → Rising f' (map g l)
  rising_map g e empty = empty
  rising_map g e (above {x = x} h t) =
      above {x = g x} (each_map {P = λ y. f' (g x) < f' y} g (each_imp (λ y lt. omega (arith, e x, e y)) h)) (rising_map g e t)

-- ---- runs of numbers

pub length-following : (a k : ℕ) → length (following a k) ≡ k
unfolding following
length-following a zero = refl
length-following a (suc k) = let ih = length-following (suc a) k in omega arith

pub each_following : (a k : ℕ) → Each (λ n. (a ≤ n) × (n < a + k)) (following a k)
unfolding following
each_following a zero = none
each_following a (suc k) = more {x = a} (omega arith) (each_imp (λ n h. omega arith) (each_following (suc a) k))

pub rising_following : (a k : ℕ) → Rising (λ n. n) (following a k)
unfolding following
rising_following a zero = empty
rising_following a (suc k) = above (each_imp (λ n h. h.0) (each_following (suc a) k)) (rising_following (suc a) k)

-- ---- an entry put in its place

pub length_insert : (e : Entry) (l : List Entry) → length (insert_sorted e l) ≡ suc (length l)
unfolding insert_sorted
length_insert e [] = refl
length_insert e (x ∷ xs) =
    let ih = length_insert e xs in
    by_cases (λ (l : List Entry). length l ≡ suc (suc (length xs))) (leb e.number x.number) (λ y. refl) (λ n. omega arith)

pub each_insert : {P : Entry → Type 0} {l : List Entry} (e : Entry) → P e → Each P l → Each P (insert_sorted e l)
unfolding insert_sorted
each_insert e p none = more p none
each_insert {P} e p (more {x = x} h t) = by_cases (Each P) (leb e.number x.number) (λ y. more p (more h t)) (λ n. more h (each_insert e p t))

abbrev entry_number : Entry → ℕ
entry_number e = e.number

-- where none has its number yet
pub rising_insert : {l : List Entry} (e : Entry) → Each (λ (x : Entry). x.number ≢ e.number) l → Rising entry_number l → Rising entry_number (insert_sorted e l)
unfolding insert_sorted
rising_insert e other empty = above none empty
rising_insert e (more ne other) (above {x = x} h t) =
    by_cases (Rising entry_number) (leb e.number x.number)
    (λ y. let lt : e.number < x.number = omega (arith, leb→le e.number x.number y) in above (more lt (each_imp (λ z k. omega arith) h)) (above h t))
    (λ n. above (each_insert e (nleb→lt e.number x.number n) h) (rising_insert e other t))

-- ---- a number among the gaps

pub apart_of_not-some : (n : ℕ) (l : List Gap) → T (not (some? (is n) l)) → Each (λ (g : Gap). g.number ≢ n) l
unfolding is
apart_of_not-some n l t = each_imp (λ g h. eqb_no g.number n h) (each_not_of_some (is n) l t)

pub not-some_of_apart : (n : ℕ) (l : List Gap) → Each (λ (g : Gap). g.number ≢ n) l → T (not (some? (is n) l))
unfolding is
not-some_of_apart n l h = some_of_every-not (is n) l (each_imp (λ g ne. no_eqb g.number n ne) h)

-- what holds of the number of each gap holds of a number that is among them
pub holds_of_some : (P : ℕ → Type 0) (n : ℕ) (l : List Gap) → T (some? (is n) l) → Each (λ (g : Gap). P g.number) l → P n
unfolding some? is
holds_of_some P n [] t h = absurd t
holds_of_some P n (g ∷ gs) t (more h k) =
    by_or (eqb g.number n) (some? (is n) gs) t (λ y. subst P (eqb→eq g.number n y) h) (λ u. holds_of_some P n gs u k)

-- ---- gaps that just opened

pub numbers-fresh : (now : ℕ) (l : List ℕ) → gap_numbers (map (fresh now) l) ≡ l
unfolding fresh
numbers-fresh now [] = refl
numbers-fresh now (x ∷ xs) = ap (λ (l : List ℕ). x ∷ l) (numbers-fresh now xs)
