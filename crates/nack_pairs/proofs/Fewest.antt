-- No shorter list of pairs names the same numbers. The pairs' first numbers are more than sixteen apart, and a pair of any form that names one
-- of them begins at or below it, so it names none of the later ones: take it out, and go on with the rest.
use mathlib.Core.Path.{◌≡◌, refl, sym, ap, ◌∙◌}
use mathlib.Core.Bool.{Bool, true, false, cond, ◌&&◌, ◌||◌, false≢true}
use mathlib.Core.Logic.{⊎_elim}
use mathlib.Core.List.{List, [], ◌∷◌, ◌++◌}
use Prim.Native.Nat.{ℕ, zero, suc, ◌+◌, ◌/◌, ◌%◌, ◌≤◌, ◌<◌}
use native.Mathlib.Omega.{arith}
use lib.Dec.{leb, eqb}
use lib.ListN.{length}
use Rattle.std.proofs.lemmas.Bool.{le-leb, lt-leb, leb-true, eqb-true, eq-eqb, or_cases, or_left, or_right}
use Rattle.words.specs.Order.{ascends}
use Rattle.words.proofs.Ordered.{and_left}
use Rattle.nack_pairs.specs.Pairs.{Pair, pairs, put_if, marked, named, named_by, member}
use Rattle.nack_pairs.specs.Pairing.{Beyond, Apart}
use Rattle.nack_pairs.proofs.Chain.{pairs-names, pairs-apart}

member_append : (x : ℕ) (xs ys : List ℕ) → member x (xs ++ ys) ≡ (member x xs || member x ys)
unfolding member
member_append x [] ys = refl
member_append x (y ∷ xs) ys = go (eqb y x) (member_append x xs ys)
  where
    go : (b : Bool) → member x (xs ++ ys) ≡ (member x xs || member x ys) → (b || member x (xs ++ ys)) ≡ ((b || member x xs) || member x ys)
    go true e = refl
    go false e = e

-- x is p's first number or one of the sixteen after it
unfoldable covers : Pair → ℕ → Bool
covers p x = leb p.first x && leb x (p.first + 16)

covers-is : (p : Pair) (x : ℕ) → p.first ≤ x → x ≤ p.first + 16 → covers p x ≡ true
unfolding covers
covers-is p x h k = rw (le-leb p.first x h, le-leb x (p.first + 16) k)

record Among (at n x : ℕ) : Type 0 where
  low : at ≤ x
  high : x < at + n

marked_among : (n at mask x : ℕ) → member x (marked n at mask) ≡ true → Among at n x
unfolding marked member
marked_among zero at mask x e = absurd (false≢true e)
marked_among (suc n) at mask x e = go (eqb (mask % 2) 1) e (marked_among n (at + 1) (mask / 2) x)
  where
    wider : Among (at + 1) n x → Among at (suc n) x
    wider r = record { low = omega (arith, r.low); high = omega (arith, r.high) }

    go : (b : Bool) → member x (put_if b at (marked n (at + 1) (mask / 2))) ≡ true → (member x (marked n (at + 1) (mask / 2)) ≡ true → Among (at + 1) n x) → Among at (suc n) x
    go true e i =
        ⊎_elim (λ h. let q : at ≡ x = eqb-true at x h in record { low = omega arith; high = omega arith }) (λ h. wider (i h))
        (or_cases (eqb at x) (member x (marked n (at + 1) (mask / 2))) e)
    go false e i = wider (i e)

named-covers : (p : Pair) (x : ℕ) → member x (named p) ≡ true → covers p x ≡ true
unfolding named member
named-covers p x e =
    ⊎_elim (λ h. let q : p.first ≡ x = eqb-true p.first x h in covers-is p x (omega arith) (omega arith))
    (λ h. let r = marked_among 16 (p.first + 1) p.mask x h in covers-is p x (omega (arith, r.low)) (omega (arith, r.high)))
    (or_cases (eqb p.first x) (member x (marked 16 (p.first + 1) p.mask)) e)

covered : ℕ → List Pair → Bool
covered x [] = false
covered x (p ∷ ps) = covers p x || covered x ps

named_covered : (x : ℕ) (ps : List Pair) → member x (named_by ps) ≡ true → covered x ps ≡ true
unfolding named_by member covered
named_covered x [] e = e
named_covered x (p ∷ ps) e =
    ⊎_elim (λ h. or_left (covers p x) (covered x ps) (named-covers p x h)) (λ h. or_right (covers p x) (covered x ps) (named_covered x ps h))
    (or_cases (member x (named p)) (member x (named_by ps)) (sym (member_append x (named p) (named_by ps)) ∙ e))

-- without the first pair that covers x
without : ℕ → List Pair → List Pair
without x [] = []
without x (p ∷ ps) = cond (covers p x) ps (p ∷ without x ps)

length_without : (x : ℕ) (ps : List Pair) → covered x ps ≡ true → length ps ≡ suc (length (without x ps))
unfolding covered without
length_without x [] e = absurd (false≢true e)
length_without x (p ∷ ps) e = go (covers p x) e (length_without x ps)
  where
    go : (b : Bool) → (b || covered x ps) ≡ true → (covered x ps ≡ true → length ps ≡ suc (length (without x ps))) → suc (length ps) ≡ suc (length (cond b ps (p ∷ without x ps)))
    go true e i = refl
    go false e i = ap suc (i e)

still_covered : (x y : ℕ) (ps : List Pair) → x + 16 < y → covered y ps ≡ true → covered y (without x ps) ≡ true
unfolding covered without covers
still_covered x y [] h e = e
still_covered x y (p ∷ ps) h e = go (covers p x) refl (still_covered x y ps h)
  where
    far : covers p x ≡ true → covers p y ≡ false
    far k =
        let u : p.first ≤ x = leb-true p.first x (and_left (leb p.first x) (leb x (p.first + 16)) k) in
        rw (le-leb p.first y (omega arith), lt-leb y (p.first + 16) (omega arith))

    skip : (b c : Bool) → b ≡ false → (b || c) ≡ true → c ≡ true
    skip true c z w = absurd (false≢true (sym z))
    skip false c z w = w

    go : (b : Bool) → covers p x ≡ b → (covered y ps ≡ true → covered y (without x ps) ≡ true) → covered y (cond b ps (p ∷ without x ps)) ≡ true
    go true k i = skip (covers p y) (covered y ps) (far k) e
    go false k i = ⊎_elim (or_left (covers p y) (covered y (without x ps))) (λ w. or_right (covers p y) (covered y (without x ps)) (i w)) (or_cases (covers p y) (covered y ps) e)

-- each pair's first number is covered by ps
Covered : List Pair → List Pair → Type 0
Covered [] ps = Unit {0}
Covered (q ∷ qs) ps = (covered q.first ps ≡ true) × Covered qs ps

covered_rest : (x : ℕ) (qs ps : List Pair) → Beyond (x + 16) qs → Covered qs ps → Covered qs (without x ps)
unfolding Beyond Covered
covered_rest x [] ps b k = tt
covered_rest x (q ∷ qs) ps b k = (still_covered x q.first ps b.0 k.0, covered_rest x qs ps b.1 k.1)

fewest : (qs ps : List Pair) → Apart qs → Covered qs ps → length qs ≤ length ps
unfolding Apart Covered
fewest [] ps a k = omega arith
fewest (q ∷ qs) ps a k =
    let i = fewest qs (without q.first ps) a.1 (covered_rest q.first qs ps a.0 k.1) in
    let e = length_without q.first ps k.0 in
    omega arith

-- a list of pairs whose numbers ps names covers their firsts
firsts_covered : (qs ps : List Pair) (xs : List ℕ) → ((x : ℕ) → member x xs ≡ true → covered x ps ≡ true) → ((x : ℕ) → member x (named_by qs) ≡ true → member x xs ≡ true) → Covered qs ps
unfolding Covered named_by member
firsts_covered [] ps xs f g = tt
firsts_covered (q ∷ qs) ps xs f g =
    let m : member q.first (named_by (q ∷ qs)) ≡ true = rw (eq-eqb q.first q.first refl) in
    (f q.first (g q.first m), firsts_covered qs ps xs f (λ x h. g x (member_append x (named q) (named_by qs) ∙ or_right (member x (named q)) (member x (named_by qs)) h)))

pub pairs_fewest : (xs : List ℕ) → ascends xs ≡ true → (ps : List Pair) → ((x : ℕ) → member x (named_by ps) ≡ member x xs) → length (pairs xs) ≤ length ps
pairs_fewest xs a ps same =
    fewest (pairs xs) ps (pairs-apart xs a)
    (firsts_covered (pairs xs) ps xs (λ x h. named_covered x ps (same x ∙ h)) (λ x h. ap (member x) (sym (pairs-names xs a)) ∙ h))
