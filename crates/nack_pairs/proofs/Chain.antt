-- The pairs of ascending numbers, from the open pair on: what they name, and that each begins past the sixteen of those before it.
use mathlib.Core.Path.{◌≡◌, refl, sym, ap, ◌∙◌}
use mathlib.Core.Bool.{true}
use mathlib.Core.List.{List, [], ◌∷◌, ◌++◌, append_assoc}
use Prim.Native.Nat.{ℕ, ◌+◌, ◌≤◌, ◌<◌}
use native.Mathlib.Omega.{arith}
use lib.Dec.{ltb}
use borrow.Author.Tests.{ltb-true}
use Rattle.words.specs.Order.{leads, ascends}
use Rattle.words.proofs.Ordered.{and_left, and_right}
use Rattle.nack_pairs.specs.Pairs.{Pair, pair, grown, shut, from, pairs, named, named_by}
use Rattle.nack_pairs.specs.Pairing.{Beyond, Apart}
use Rattle.nack_pairs.proofs.Marks.{Bound, bound_begun, bound_grown, bound_mask, by_place, grown_in, grown_new, shut_in, shut_new, shut-names}

module _ (l x : ℕ) (xs : List ℕ) (a : ascends (l ∷ x ∷ xs) ≡ true) where
  pub next_above : l < x
  unfolding ascends leads
  next_above = ltb-true l x (and_left (ltb l x) (ascends (x ∷ xs)) a)

  pub next_ascends : ascends (x ∷ xs) ≡ true
  unfolding ascends leads
  next_ascends = and_right (ltb l x) (ascends (x ∷ xs)) a

pub named_by_append : (ps qs : List Pair) → named_by (ps ++ qs) ≡ named_by ps ++ named_by qs
unfolding named_by
named_by_append [] qs = refl
named_by_append (p ∷ ps) qs = rw (named_by_append ps qs, append_assoc)

from-names : (p : Pair) (l : ℕ) (xs : List ℕ) → Bound p l → ascends (l ∷ xs) ≡ true → named_by (from p xs) ≡ named p ++ xs
unfolding from named_by
from-names p l [] b a = refl
from-names p l (x ∷ xs) b a =
    let h = next_above l x xs a in
    let i = from-names (grown p x) x xs (bound_grown p l x b h) (next_ascends l x xs a) in
    named_by_append (shut p x) (from (grown p x) xs)
    ∙ ap (λ (r : List ℕ). named_by (shut p x) ++ r) i
    ∙ sym (append_assoc (named_by (shut p x)) (named (grown p x)) xs)
    ∙ ap (λ (r : List ℕ). r ++ xs) (shut-names p l x b h)
    ∙ append_assoc (named p) (x ∷ []) xs

pub pairs-names : (xs : List ℕ) → ascends xs ≡ true → named_by (pairs xs) ≡ xs
unfolding pairs named_by
pairs-names [] a = refl
pairs-names (x ∷ xs) a = from-names (pair x 0) x xs (bound_begun x) a

-- ---- apart

from_beyond : (b : ℕ) (p : Pair) (l : ℕ) (xs : List ℕ) → b < p.first → Bound p l → ascends (l ∷ xs) ≡ true → Beyond b (from p xs)
unfolding from Beyond
from_beyond b p l [] h k a = (h, tt)
from_beyond b p l (x ∷ xs) h k a =
    let u = next_above l x xs a in
    by_place p x (inside u (from_beyond b (grown p x) x xs)) (beyond u (from_beyond b (grown p x) x xs))
  where
    rest : l < x → (b < (grown p x).first → Bound (grown p x) x → ascends (x ∷ xs) ≡ true → Beyond b (from (grown p x) xs)) → b < (grown p x).first → Beyond b (from (grown p x) xs)
    rest u i g = i g (bound_grown p l x k u) (next_ascends l x xs a)

    inside : l < x → (b < (grown p x).first → Bound (grown p x) x → ascends (x ∷ xs) ≡ true → Beyond b (from (grown p x) xs)) → x ≤ p.first + 16 → Beyond b (shut p x ++ from (grown p x) xs)
    inside u i j = let g : b < (grown p x).first = rw (grown_in p x j) h in rw (shut_in p x j) (rest u i g)

    beyond : l < x → (b < (grown p x).first → Bound (grown p x) x → ascends (x ∷ xs) ≡ true → Beyond b (from (grown p x) xs)) → p.first + 16 < x → Beyond b (shut p x ++ from (grown p x) xs)
    beyond u i j = let g : b < (grown p x).first = rw (grown_new p x j) (omega arith) in rw (shut_new p x j) (h, rest u i g)

from-apart : (p : Pair) (l : ℕ) (xs : List ℕ) → Bound p l → ascends (l ∷ xs) ≡ true → Apart (from p xs)
unfolding from Apart Beyond
from-apart p l [] b a = (tt, tt)
from-apart p l (x ∷ xs) b a =
    let h = next_above l x xs a in
    let t = next_ascends l x xs a in
    let k = bound_grown p l x b h in
    by_place p x (inside (from-apart (grown p x) x xs k t)) (beyond k t (from-apart (grown p x) x xs k t))
  where
    inside : Apart (from (grown p x) xs) → x ≤ p.first + 16 → Apart (shut p x ++ from (grown p x) xs)
    inside i j = rw (shut_in p x j) i

    beyond : Bound (grown p x) x → ascends (x ∷ xs) ≡ true → Apart (from (grown p x) xs) → p.first + 16 < x → Apart (shut p x ++ from (grown p x) xs)
    beyond k t i j =
        let g : p.first + 16 < (grown p x).first = rw (grown_new p x j) j in
        rw (shut_new p x j) (from_beyond (p.first + 16) (grown p x) x xs g k t, i)

pub pairs-apart : (xs : List ℕ) → ascends xs ≡ true → Apart (pairs xs)
unfolding pairs Apart
pairs-apart [] a = tt
pairs-apart (x ∷ xs) a = from-apart (pair x 0) x xs (bound_begun x) a

-- ---- masks fit 16 bits

unfoldable pub Narrow : List Pair → Type 0
Narrow [] = Unit {0}
Narrow (p ∷ ps) = (p.mask < 65536) × Narrow ps

from_narrow : (p : Pair) (l : ℕ) (xs : List ℕ) → Bound p l → ascends (l ∷ xs) ≡ true → Narrow (from p xs)
unfolding from Narrow
from_narrow p l [] b a = (bound_mask p l b, tt)
from_narrow p l (x ∷ xs) b a =
    let h = next_above l x xs a in
    let i = from_narrow (grown p x) x xs (bound_grown p l x b h) (next_ascends l x xs a) in
    by_place p x (inside i) (beyond i)
  where
    inside : Narrow (from (grown p x) xs) → x ≤ p.first + 16 → Narrow (shut p x ++ from (grown p x) xs)
    inside i j = rw (shut_in p x j) i

    beyond : Narrow (from (grown p x) xs) → p.first + 16 < x → Narrow (shut p x ++ from (grown p x) xs)
    beyond i j = rw (shut_new p x j) (bound_mask p l b, i)

pub pairs_narrow : (xs : List ℕ) → ascends xs ≡ true → Narrow (pairs xs)
unfolding pairs Narrow
pairs_narrow [] a = tt
pairs_narrow (x ∷ xs) a = from_narrow (pair x 0) x xs (bound_begun x) a
