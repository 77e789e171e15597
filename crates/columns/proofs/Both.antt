-- Reading is the inverse of writing. The digits that are written make their number again, digit by digit from the last; and digits that
-- make a number, without a leading zero, are those that would be written: the last is its rest by ten, those before make its tenth.
use mathlib.Core.Path.{◌≡◌, refl, sym, ap, ◌∙◌}
use mathlib.Core.Bool.{Bool, true, false, cond, ◌&&◌, ◌||◌}
use mathlib.Core.List.{List, [], ◌∷◌, ◌++◌}
use Prim.Native.Nat.{ℕ, zero, suc, ◌+◌, ◌*◌, ◌-◌, ◌/◌, ◌%◌, ◌^◌, ◌≤◌, ◌<◌}
use native.Mathlib.Nat.{pow-succ', pow-le-pow_right}
use native.Mathlib.Omega.{arith}
use borrow.Author.Tests.{lt-ltb, le-ltb, le-leb, ltb-true, ltb-false, leb-true, ne_eqb, eqb-true, eqb-false}
use lib.Dec.{eqb, leb, ltb}
use lib.ListN.{length, take, get_or, replicate, length-append, get_or-append}
use lib.Seq.{take-suc, take_all, length-take-le, get_or-take}
use Rattle.std.specs.Prelude.{Option, None, Some}
use Rattle.columns.specs.Columns.{decimal_up_to, justified_in, justified, with_digit, next_digit, digits_of, number_of, after_blanks, field_number, Writes, Inverse}

-- ---- digits behind digits

digits_snoc : (s : List ℕ) (b : ℕ) (o : Option ℕ) → digits_of (s ++ (b ∷ [])) o ≡ next_digit (digits_of s o) b
unfolding digits_of
digits_snoc [] b o = refl
digits_snoc (a ∷ s) b o = digits_snoc s b (next_digit o a)

-- a digit d behind the number v
one_more : (v d : ℕ) → d < 10 → 10 * v + d < 2 ^ 64 → with_digit v (48 + d) ≡ Some (10 * v + d)
unfolding with_digit
one_more v d h k =
    let e : 48 + d - 48 ≡ d = omega arith in
    rw (le-leb 48 (48 + d) (omega arith), le-leb (48 + d) 57 (omega arith), e, lt-ltb (10 * v + d) (2 ^ 64) k)

-- ---- what is written is read

-- a number of ten or more is held by one digit fewer, without its last
tenth : (w n : ℕ) → 10 ≤ n → n < 10 ^ suc w → (0 < w) × (n / 10 < 10 ^ w)
tenth zero n h k = absurd (omega arith)
tenth (suc w) n h k = let e : n < 10 * 10 ^ suc w = rw (pow-succ' 10 (suc w)) at k in (omega arith, omega arith)

spelled : (w n : ℕ) → 0 < w → n < 10 ^ w → n < 2 ^ 64 → digits_of (decimal_up_to w n) (Some 0) ≡ Some n
unfolding decimal_up_to digits_of next_digit
spelled zero n p h k = absurd (omega arith)
spelled (suc w) n p h k = go (spelled w (n / 10)) (ltb n 10) refl
  where
    go : (0 < w → n / 10 < 10 ^ w → n / 10 < 2 ^ 64 → digits_of (decimal_up_to w (n / 10)) (Some 0) ≡ Some (n / 10)) → (t : Bool) → ltb n 10 ≡ t → digits_of (cond t ((48 + n) ∷ []) (decimal_up_to w (n / 10) ++ ((48 + n % 10) ∷ []))) (Some 0) ≡ Some n
    go ih true e = let l : n < 10 = ltb-true n 10 e in let z : 10 * 0 + n ≡ n = omega arith in one_more 0 n l (omega arith) ∙ ap Some z
    go ih false e =
        let l : 10 ≤ n = ltb-false n 10 e in
        let t = tenth w n l h in
        let z : 10 * (n / 10) + n % 10 ≡ n = omega arith in
        digits_snoc (decimal_up_to w (n / 10)) (48 + n % 10) (Some 0)
        ∙ ap (λ (o : Option ℕ). next_digit o (48 + n % 10)) (ih t.0 t.1 (omega arith))
        ∙ one_more (n / 10) (n % 10) (omega arith) (omega arith)
        ∙ ap Some z

some_digit : (w n : ℕ) → 0 < w → 0 < length (decimal_up_to w n)
unfolding decimal_up_to
some_digit zero n p = absurd (omega arith)
some_digit (suc w) n p = go (ltb n 10)
  where
    go : (t : Bool) → 0 < length (cond t ((48 + n) ∷ []) (decimal_up_to w (n / 10) ++ ((48 + n % 10) ∷ [])))
    go true = omega arith
    go false = omega (arith, length-append (decimal_up_to w (n / 10)) ((48 + n % 10) ∷ []))

-- the first digit is no zero, but of 0 alone
first_digit : (w n : ℕ) → 0 < w → 0 < n → n < 10 ^ w → 48 < get_or (decimal_up_to w n) 0 0
unfolding decimal_up_to
first_digit zero n p q h = absurd (omega arith)
first_digit (suc w) n p q h = go (first_digit w (n / 10)) (ltb n 10) refl
  where
    go : (0 < w → 0 < n / 10 → n / 10 < 10 ^ w → 48 < get_or (decimal_up_to w (n / 10)) 0 0) → (t : Bool) → ltb n 10 ≡ t → 48 < get_or (cond t ((48 + n) ∷ []) (decimal_up_to w (n / 10) ++ ((48 + n % 10) ∷ []))) 0 0
    go ih true e = omega arith
    go ih false e =
        let l : 10 ≤ n = ltb-false n 10 e in
        let t = tenth w n l h in
        let d : List ℕ = decimal_up_to w (n / 10) in
        rw (get_or-append d ((48 + n % 10) ∷ []) 0 0 (some_digit w (n / 10) t.0)) (ih t.0 (omega arith) t.1)

number-zero : (w : ℕ) → 0 < w → number_of (decimal_up_to w 0) ≡ Some 0
unfolding number_of decimal_up_to digits_of next_digit with_digit
number-zero zero p = absurd (omega arith)
number-zero (suc w) p = refl

pub number_back : (w n : ℕ) → 0 < w → n < 10 ^ w → n < 2 ^ 64 → number_of (decimal_up_to w n) ≡ Some n
unfolding number_of
number_back w zero p h k = number-zero w p
number_back w (suc n) p h k =
    let f = first_digit w (suc n) p (omega arith) h in
    let l = some_digit w (suc n) p in
    rw (ne_eqb (length (decimal_up_to w (suc n))) 0 (λ z. omega arith), ne_eqb (get_or (decimal_up_to w (suc n)) 0 0) 48 (λ z. omega arith)) (spelled w (suc n) p h k)

-- the first byte is a digit, and no blank
first_glyph : (w n : ℕ) → 0 < w → n < 10 ^ w → 32 < get_or (decimal_up_to w n) 0 0
unfolding decimal_up_to
first_glyph w zero p h = go w p
  where
    go : (w : ℕ) → 0 < w → 32 < get_or (decimal_up_to w 0) 0 0
    go zero p = absurd (omega arith)
    go (suc w) p = omega arith
first_glyph w (suc n) p h = omega (arith, first_digit w (suc n) p (omega arith) h)

skip_blanks : (k : ℕ) (d : List ℕ) → 0 < length d → 32 < get_or d 0 0 → after_blanks (replicate k 32 ++ d) ≡ d
unfolding after_blanks
skip_blanks zero [] p h = absurd (omega arith)
skip_blanks zero (b ∷ d) p h = rw (ne_eqb b 32 (λ e. omega arith))
skip_blanks (suc k) d p h = skip_blanks k d p h

pub read_back : (w n : ℕ) → 0 < w → n < 10 ^ w → n < 2 ^ 64 → field_number (justified w n) ≡ Some n
unfolding field_number justified
read_back w n p h k = ap number_of (skip_blanks (w - length (decimal_up_to w n)) (decimal_up_to w n) (some_digit w n p) (first_glyph w n p h)) ∙ number_back w n p h k

-- ---- only what would be written is read

-- the last of digits that make n
record Last (p : List ℕ) (b n : ℕ) : Type 0 where
  v : ℕ
  before : digits_of p (Some 0) ≡ Some v
  low : 48 ≤ b
  high : b ≤ 57
  sum : n ≡ 10 * v + (b - 48)
  word : n < 2 ^ 64

last_digit : (p : List ℕ) (b n : ℕ) → digits_of (p ++ (b ∷ [])) (Some 0) ≡ Some n → Last p b n
unfolding next_digit with_digit
last_digit p b n e = go (digits_of p (Some 0)) refl (sym (digits_snoc p b (Some 0)) ∙ e)
  where
    test : (v : ℕ) → digits_of p (Some 0) ≡ Some v → (x y z : Bool) → leb 48 b ≡ x → leb b 57 ≡ y → ltb (10 * v + (b - 48)) (2 ^ 64) ≡ z → cond (x && (y && z)) (Some (10 * v + (b - 48))) None ≡ Some n → Last p b n
    test v f true true true i j k q =
        let sum : n ≡ 10 * v + (b - 48) = cc in
        record { v = v; before = f; low = leb-true 48 b i; high = leb-true b 57 j; sum = sum; word = omega (arith, ltb-true (10 * v + (b - 48)) (2 ^ 64) k) }
    test v f true true false i j k q = let z : ◌≡◌ {A = ℕ} 0 1 = cc in absurd (omega arith)
    test v f true false z i j k q = let z : ◌≡◌ {A = ℕ} 0 1 = cc in absurd (omega arith)
    test v f false y z i j k q = let z : ◌≡◌ {A = ℕ} 0 1 = cc in absurd (omega arith)

    go : (o : Option ℕ) → digits_of p (Some 0) ≡ o → next_digit o b ≡ Some n → Last p b n
    go None f q = let z : ◌≡◌ {A = ℕ} 0 1 = cc in absurd (omega arith)
    go (Some v) f q = test v f (leb 48 b) (leb b 57) (ltb (10 * v + (b - 48)) (2 ^ 64)) refl refl refl q

-- digits t that make n, and no zero before another, are those of n
record Spells (w : ℕ) (t : List ℕ) (n : ℕ) : Type 0 where
  same : decimal_up_to w n ≡ t
  held : n < 10 ^ length t
  word : n < 2 ^ 64
  some : (get_or t 0 0 ≡ 48 → ⊥) → 0 < n

ends : (t : List ℕ) (m : ℕ) → length t ≡ suc m → t ≡ take m t ++ (get_or t m 0 ∷ [])
ends t m e = sym (take_all (suc m) t (omega arith)) ∙ take-suc t m 0 (omega arith)

spell : (m : ℕ) (t : List ℕ) (n w : ℕ) → length t ≡ suc m → m < w → digits_of t (Some 0) ≡ Some n → (1 < length t → get_or t 0 0 ≡ 48 → ⊥) → Spells w t n
unfolding decimal_up_to digits_of
spell m t n zero l r e z = absurd (omega arith)
spell zero [] n (suc w) l r e z = absurd (omega arith)
spell zero (a ∷ (b ∷ t)) n (suc w) l r e z = absurd (omega arith)
spell zero (b ∷ []) n (suc w) l r e z =
    let d : Last [] b n = last_digit [] b n e in
    let v : d.v ≡ 0 = cc d.before in
    let low : 48 ≤ b = d.low in
    let high : b ≤ 57 = d.high in
    let sum : n ≡ b - 48 = omega (arith, d.sum) in
    let g : 48 + n ≡ b = omega arith in
    record { same = rw (lt-ltb n 10 (omega arith), g); held = omega arith; word = d.word; some = λ q. pos q low sum }
  where
    pos : (b ≡ 48 → ⊥) → 48 ≤ b → n ≡ b - 48 → 0 < n
    pos q l s = omega arith
spell (suc m) t n (suc w) l r e z =
    let p : List ℕ = take (suc m) t in
    let b : ℕ = get_or t (suc m) 0 in
    let f : t ≡ p ++ (b ∷ []) = ends t (suc m) l in
    let lp : length p ≡ suc m = length-take-le (suc m) t (omega arith) in
    let g : get_or p 0 0 ≡ get_or t 0 0 = get_or-take (suc m) t 0 0 (omega arith) in
    let d : Last p b n = last_digit p b n (sym (ap (λ (x : List ℕ). digits_of x (Some 0)) f) ∙ e) in
    let z0 : get_or t 0 0 ≡ 48 → ⊥ = z (omega arith) in
    let z1 : get_or p 0 0 ≡ 48 → ⊥ = λ q. z0 (sym g ∙ q) in
    let i : Spells w p d.v = spell m p d.v w lp (omega arith) d.before (λ q. z1) in
    let v : 0 < d.v = i.some z1 in
    let low : 48 ≤ b = d.low in
    let high : b ≤ 57 = d.high in
    let sum : n ≡ 10 * d.v + (b - 48) = d.sum in
    let tens : n / 10 ≡ d.v = omega arith in
    let ones : 48 + n % 10 ≡ b = omega arith in
    let below : d.v < 10 ^ suc m = rw lp at i.held in
    let up : n < 10 * 10 ^ suc m = omega arith in
    record {
      same = rw (le-ltb n 10 (omega arith), tens, ones, i.same) (sym f);
      held = rw (l, pow-succ' 10 (suc m)) up;
      word = d.word;
      some = λ q. omega arith;
    }

-- a field is its blanks and what follows them
length-after : (s : List ℕ) → length (after_blanks s) ≤ length s
unfolding after_blanks
length-after [] = omega arith
length-after (b ∷ s) = go (length-after s) (eqb b 32)
  where
    go : length (after_blanks s) ≤ length s → (t : Bool) → length (cond t (after_blanks s) (b ∷ s)) ≤ suc (length s)
    go ih true = omega arith
    go ih false = omega arith

blanks_first : (s : List ℕ) → s ≡ justified_in (length s) (after_blanks s)
unfolding after_blanks
blanks_first [] = refl
blanks_first (b ∷ s) = go (blanks_first s) (eqb b 32) refl
  where
    go : s ≡ justified_in (length s) (after_blanks s) → (t : Bool) → eqb b 32 ≡ t → b ∷ s ≡ justified_in (suc (length s)) (cond t (after_blanks s) (b ∷ s))
    go ih true e =
        let k : suc (length s) - length (after_blanks s) ≡ suc (length s - length (after_blanks s)) = omega (arith, length-after s) in
        let c : b ≡ 32 = eqb-true b 32 e in
        rw (k, c) (ap (λ (t : List ℕ). 32 ∷ t) ih)
    go ih false e = let k : suc (length s) - suc (length s) ≡ 0 = omega arith in rw k

-- digits that are a number: at least one, and no zero before another
record Digits (t : List ℕ) (n : ℕ) : Type 0 where
  some : 0 < length t
  first : 1 < length t → get_or t 0 0 ≡ 48 → ⊥
  make : digits_of t (Some 0) ≡ Some n

digits : (t : List ℕ) (n : ℕ) → number_of t ≡ Some n → Digits t n
unfolding number_of
digits t n e = go (eqb (length t) 0) (eqb (get_or t 0 0) 48) (ltb 1 (length t)) refl refl refl e
  where
    go : (x y z : Bool) → eqb (length t) 0 ≡ x → eqb (get_or t 0 0) 48 ≡ y → ltb 1 (length t) ≡ z → cond (x || (y && z)) None (digits_of t (Some 0)) ≡ Some n → Digits t n
    go true y z i j k q = let z : ◌≡◌ {A = ℕ} 0 1 = cc in absurd (omega arith)
    go false true true i j k q = let z : ◌≡◌ {A = ℕ} 0 1 = cc in absurd (omega arith)
    go false true false i j k q =
        let l : length t ≡ 0 → ⊥ = eqb-false (length t) 0 i in
        let m : length t ≤ 1 = ltb-false 1 (length t) k in
        record { some = omega arith; first = λ h f. absurd (omega arith); make = q }
    go false false z i j k q =
        let l : length t ≡ 0 → ⊥ = eqb-false (length t) 0 i in
        record { some = omega arith; first = λ h f. eqb-false (get_or t 0 0) 48 j f; make = q }

read_only : (s : List ℕ) (n : ℕ) → field_number s ≡ Some n → Writes s n
unfolding field_number justified
read_only s n e =
    let t : List ℕ = after_blanks s in
    let d : Digits t n = digits t n e in
    let p : 0 < length t = d.some in
    let l : length t ≤ length s = length-after s in
    let i : Spells (length s) t n = spell (length t - 1) t n (length s) (omega arith) (omega arith) d.make d.first in
    let h : n < 10 ^ length t = i.held in
    let m : 10 ^ length t ≤ 10 ^ length s = pow-le-pow_right (omega arith) l in
    record { some_column = omega arith; held = omega arith; word = i.word; text = blanks_first s ∙ ap (justified_in (length s)) (sym i.same) }

pub inverse : (s : List ℕ) (n : ℕ) → Inverse s n
inverse s n =
    record { back = λ w. ap field_number w.text ∙ read_back (length s) n w.some_column w.held w.word; only = read_only s n }
