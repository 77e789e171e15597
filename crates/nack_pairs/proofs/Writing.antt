-- Entries as they grow by one number: the pairs before the last stay, and the last one grows or is followed by another.
use mathlib.Core.Path.{◌≡◌, refl, sym, ap, ◌∙◌}
use mathlib.Core.Bool.{Bool, true, false, cond}
use mathlib.Core.List.{List, [], ◌∷◌, ◌++◌, append_assoc, append-nil}
use Prim.Native.Nat.{ℕ, zero, suc, ◌+◌, ◌-◌, ◌*◌, ◌%◌, ◌^◌, ◌≤◌, ◌<◌}
use native.Mathlib.Omega.{arith}
use lib.Dec.{eqb}
use lib.Pow.{pow_mono, shl_exact}
use lib.ListN.{length, take, length-append}
use lib.Seq.{take_at}
use borrow.Author.Tests.{le-leb, lt-leb, ne_eqb, eq-eqb, eqb-false}
use Rattle.words.specs.Words.{over, written}
use Rattle.words.specs.Order.{ascends}
use Rattle.words.proofs.Over.{over-over, take-over, length_over}
use Rattle.words.proofs.Moves.{written_next}
use Rattle.nack_pairs.specs.Pairs.{Pair, pair, bit, within, grown, shut, from, pairs}
use Rattle.nack_pairs.specs.Naming.{opened, begun, named_next, Follows}
use Rattle.nack_pairs.specs.Wire.{bytes_of, wire, entries}
use Rattle.nack_pairs.specs.declared.Naming.{Naming}
use Rattle.nack_pairs.proofs.Marks.{Bound, bound_begun, bound_grown, bound_bit, by_place, grown_in, grown_new, shut_in, shut_new}
use Rattle.nack_pairs.proofs.Chain.{next_above, next_ascends}

-- the pair that is open after xs, and those before it
unfoldable pub last : Pair → List ℕ → Pair
last p [] = p
last p (x ∷ xs) = last (grown p x) xs

unfoldable pub before : Pair → List ℕ → List Pair
before p [] = []
before p (x ∷ xs) = shut p x ++ before (grown p x) xs

from-split : (p : Pair) (xs : List ℕ) → from p xs ≡ before p xs ++ (last p xs ∷ [])
unfolding from before last
from-split p [] = refl
from-split p (x ∷ xs) = ap (λ (r : List Pair). shut p x ++ r) (from-split (grown p x) xs) ∙ sym (append_assoc (shut p x) (before (grown p x) xs) (last (grown p x) xs ∷ []))

last_more : (p : Pair) (xs : List ℕ) (x : ℕ) → last p (xs ++ (x ∷ [])) ≡ grown (last p xs) x
unfolding last
last_more p [] x = refl
last_more p (y ∷ xs) x = last_more (grown p y) xs x

before_more : (p : Pair) (xs : List ℕ) (x : ℕ) → before p (xs ++ (x ∷ [])) ≡ before p xs ++ shut (last p xs) x
unfolding before last
before_more p [] x = append-nil (shut p x)
before_more p (y ∷ xs) x = ap (λ (r : List Pair). shut p y ++ r) (before_more (grown p y) xs x) ∙ sym (append_assoc (shut p y) (before (grown p y) xs) (shut (last (grown p y) xs) x))

-- what the open pair has room for
record Free (p : Pair) (x : ℕ) : Type 0 where
  above : p.first < x
  free : p.mask < bit p.first x

last-free : (p : Pair) (l : ℕ) (xs : List ℕ) (x : ℕ) → Bound p l → ascends (l ∷ xs ++ (x ∷ [])) ≡ true → Free (last p xs) x
unfolding last
last-free p l [] x b a = let h = next_above l x [] a in record { above = omega (arith, b.low); free = bound_bit p l x b h }
last-free p l (y ∷ xs) x b a = last-free (grown p y) y xs x (bound_grown p l y b (next_above l y (xs ++ (x ∷ [])) a)) (next_ascends l y (xs ++ (x ∷ [])) a)

-- ---- bytes

wire_append : (ps qs : List Pair) → wire (ps ++ qs) ≡ wire ps ++ wire qs
unfolding wire
wire_append [] qs = refl
wire_append (p ∷ ps) qs = rw (wire_append ps qs, append_assoc)

pub length-wire : (ps : List Pair) → length (wire ps) ≡ 4 * length ps
unfolding wire bytes_of
length-wire [] = refl
length-wire (p ∷ ps) = let i = length-wire ps in omega arith

wire_one : (p : Pair) → wire (p ∷ []) ≡ bytes_of p
unfolding wire bytes_of
wire_one p = refl

length-bytes : (p : Pair) → length (bytes_of p) ≡ 4
unfolding bytes_of
length-bytes p = refl

entries-split : (y : ℕ) (ys : List ℕ) → entries (y ∷ ys) ≡ wire (before (pair y 0) ys) ++ bytes_of (last (pair y 0) ys)
unfolding entries pairs
entries-split y ys =
    ap wire (from-split (pair y 0) ys)
    ∙ wire_append (before (pair y 0) ys) (last (pair y 0) ys ∷ [])
    ∙ ap (λ (r : List ℕ). wire (before (pair y 0) ys) ++ r) (wire_one (last (pair y 0) ys))

length_before : (p : Pair) (xs : List ℕ) → length (before p xs) ≤ length xs
unfolding before
length_before p [] = omega arith
length_before p (x ∷ xs) =
    let i = length_before (grown p x) xs in
    let s : length (shut p x) ≤ 1 = by_place p x (λ h. rw (shut_in p x h) (omega arith)) (λ h. rw (shut_new p x h) (omega arith)) in
    rw (length-append (shut p x) (before (grown p x) xs)) (omega arith)

-- bytes written again in the same place
written_last : (a b c d : List ℕ) (i : ℕ) → length a ≡ i → length b ≡ length c → written i c (over (a ++ b) d) ≡ over (a ++ c) d
unfolding written
written_last a b c d i e k =
    let m = length-append a b in
    let n = length-append a c in
    let t : take i (over (a ++ b) d) ≡ a = take-over i (a ++ b) d (omega arith) ∙ take_at a b i e in
    rw t (over-over (a ++ c) (a ++ b) d (omega arith))

-- ---- the numbers named so far, by the code's record, and the bytes

unfoldable pub Stands : List ℕ → Naming → Type 0
unfolding before last
Stands [] n = n.bytes ≡ 0
Stands (y ∷ ys) n = (n.bytes ≡ 4 * length (before (pair y 0) ys) + 4) × (last (pair y 0) ys ≡ opened n)

-- the entries of xs stand at the front of what was out₀, and n says how far they go and which pair is open
pub record Named (xs : List ℕ) (n : Naming) (out₀ out : List ℕ) : Type 0 where
  pub stands : Stands xs n
  pub written : out ≡ over (entries xs) out₀
  pub same : length out ≡ length out₀

pub named_none : (n : Naming) (out : List ℕ) → n.bytes ≡ 0 → Named [] n out out
unfolding Stands entries pairs wire over
named_none n out e = record { stands = e; written = refl; same = refl }

stands-bytes : (xs : List ℕ) (n : Naming) → Stands xs n → n.bytes ≡ length (entries xs)
unfolding Stands entries pairs wire
stands-bytes [] n s = s
stands-bytes (y ∷ ys) n s =
    let w = length-wire (before (pair y 0) ys) in
    let b = length-bytes (last (pair y 0) ys) in
    s.0 ∙ rw (entries-split y ys, length-append (wire (before (pair y 0) ys)) (bytes_of (last (pair y 0) ys))) (omega arith)

pub length-entries : (xs : List ℕ) → length (entries xs) ≤ 4 * length xs
unfolding entries pairs wire
length-entries [] = omega arith
length-entries (y ∷ ys) =
    let w = length-wire (before (pair y 0) ys) in
    let b = length-bytes (last (pair y 0) ys) in
    let l = length_before (pair y 0) ys in
    rw (entries-split y ys, length-append (wire (before (pair y 0) ys)) (bytes_of (last (pair y 0) ys))) (omega arith)

-- a number above all of xs follows
stands_follows : (xs : List ℕ) (n : Naming) (x : ℕ) → Stands xs n → ascends (xs ++ (x ∷ [])) ≡ true → n.bytes + 4 < 2 ^ 64 → Follows n x
unfolding Stands
stands_follows [] n x s a h = record { short = h; whole = λ k. absurd (omega arith); above = λ k. absurd (omega arith); free = λ k. absurd (omega arith) }
stands_follows (y ∷ ys) n x s a h =
    let f = last-free (pair y 0) y ys x (bound_begun y) a in
    record { short = h; whole = λ k. omega (arith, s.0); above = λ k. rw s.1 at f.above; free = λ k. rw s.1 at f.free }

-- what `named_next` does, by where x stands
module _ (n : Naming) (x : ℕ) where
  pub next_none : n.bytes ≡ 0 → named_next n x ≡ begun 4 x
  unfolding named_next
  next_none e = rw (eq-eqb n.bytes 0 e)

  pub next_in : 0 < n.bytes → x ≤ n.first + 16 → named_next n x ≡ record { bytes = n.bytes; first = n.first; mask = n.mask + bit n.first x }
  unfolding named_next
  next_in h k = rw (ne_eqb n.bytes 0 (λ e. omega arith), le-leb x (n.first + 16) k)

  pub next_new : 0 < n.bytes → n.first + 16 < x → named_next n x ≡ begun (n.bytes + 4) x
  unfolding named_next
  next_new h k = rw (ne_eqb n.bytes 0 (λ e. omega arith), lt-leb x (n.first + 16) k)

-- one number more, with the record m after it: the pair that m has open is written where it stands
record Step (xs : List ℕ) (x : ℕ) (m : Naming) (out₀ : List ℕ) : Type 0 where
  stands : Stands (xs ++ (x ∷ [])) m
  grows : written (m.bytes - 4) (bytes_of (opened m)) (over (entries xs) out₀) ≡ over (entries (xs ++ (x ∷ []))) out₀

step-none : (x : ℕ) (out₀ : List ℕ) → Step [] x (begun 4 x) out₀
unfolding Stands entries pairs wire
step-none x out₀ = record { stands = (refl, refl); grows = written_next [] (bytes_of (pair x 0)) out₀ 0 refl }

module _ (y : ℕ) (ys : List ℕ) (x : ℕ) (out₀ : List ℕ) (m : Naming) (B : List Pair)
    (be : before (pair y 0) (ys ++ (x ∷ [])) ≡ B) (le : last (pair y 0) (ys ++ (x ∷ [])) ≡ opened m) where
  entries_next : entries (y ∷ ys ++ (x ∷ [])) ≡ wire B ++ bytes_of (opened m)
  entries_next =
      entries-split y (ys ++ (x ∷ []))
      ∙ ap (λ (b : List Pair). wire b ++ bytes_of (last (pair y 0) (ys ++ (x ∷ [])))) be
      ∙ ap (λ (q : Pair). wire B ++ bytes_of q) le

  stands_next : m.bytes ≡ 4 * length B + 4 → Stands (y ∷ ys ++ (x ∷ [])) m
  unfolding Stands
  stands_next e = (e ∙ ap (λ (b : List Pair). 4 * length b + 4) (sym be), le)

step_in : (y : ℕ) (ys : List ℕ) (x : ℕ) (n : Naming) (out₀ : List ℕ) → Stands (y ∷ ys) n → x ≤ n.first + 16
    → Step (y ∷ ys) x (record { bytes = n.bytes; first = n.first; mask = n.mask + bit n.first x }) out₀
unfolding Stands
step_in y ys x n out₀ s h =
    let p = pair y 0 in
    let B = before p ys in
    let m : Naming = record { bytes = n.bytes; first = n.first; mask = n.mask + bit n.first x } in
    let be : before p (ys ++ (x ∷ [])) ≡ B =
    before_more p ys x ∙ ap (λ (q : Pair). B ++ shut q x) s.1 ∙ ap (λ (r : List Pair). B ++ r) (shut_in (opened n) x h) ∙ append-nil B in
    let le : last p (ys ++ (x ∷ [])) ≡ opened m = last_more p ys x ∙ ap (λ (q : Pair). grown q x) s.1 ∙ grown_in (opened n) x h in
    let w = length-wire B in
    let g : written (n.bytes - 4) (bytes_of (opened m)) (over (wire B ++ bytes_of (last p ys)) out₀) ≡ over (wire B ++ bytes_of (opened m)) out₀ =
    written_last (wire B) (bytes_of (last p ys)) (bytes_of (opened m)) out₀ (n.bytes - 4) (omega (arith, s.0)) (length-bytes (last p ys) ∙ sym (length-bytes (opened m))) in
    record {
      stands = stands_next y ys x out₀ m B be le s.0;
      grows =
          ap (λ (r : List ℕ). written (n.bytes - 4) (bytes_of (opened m)) (over r out₀)) (entries-split y ys)
          ∙ g
          ∙ ap (λ (r : List ℕ). over r out₀) (sym (entries_next y ys x out₀ m B be le));
    }

step_new : (y : ℕ) (ys : List ℕ) (x : ℕ) (n : Naming) (out₀ : List ℕ) → Stands (y ∷ ys) n → n.first + 16 < x → Step (y ∷ ys) x (begun (n.bytes + 4) x) out₀
unfolding Stands
step_new y ys x n out₀ s h =
    let p = pair y 0 in
    let B = before p ys in
    let C = B ++ (opened n ∷ []) in
    let m : Naming = begun (n.bytes + 4) x in
    let be : before p (ys ++ (x ∷ [])) ≡ C =
    before_more p ys x ∙ ap (λ (q : Pair). B ++ shut q x) s.1 ∙ ap (λ (r : List Pair). B ++ r) (shut_new (opened n) x h) in
    let le : last p (ys ++ (x ∷ [])) ≡ opened m = last_more p ys x ∙ ap (λ (q : Pair). grown q x) s.1 ∙ grown_new (opened n) x h in
    let w : entries (y ∷ ys) ≡ wire C =
    entries-split y ys ∙ ap (λ (q : Pair). wire B ++ bytes_of q) s.1 ∙ ap (λ (r : List ℕ). wire B ++ r) (sym (wire_one (opened n))) ∙ sym (wire_append B (opened n ∷ [])) in
    let k : length (entries (y ∷ ys)) ≡ n.bytes + 4 - 4 = omega (arith, stands-bytes (y ∷ ys) n s) in
    let c = length-append B (opened n ∷ []) in
    record {
      stands = stands_next y ys x out₀ m C be le (omega (arith, s.0));
      grows =
          written_next (entries (y ∷ ys)) (bytes_of (opened m)) out₀ (n.bytes + 4 - 4) k
          ∙ ap (λ (r : List ℕ). over (r ++ bytes_of (opened m)) out₀) w
          ∙ ap (λ (r : List ℕ). over r out₀) (sym (entries_next y ys x out₀ m C be le));
    }

step : (xs : List ℕ) (x : ℕ) (n : Naming) (out₀ : List ℕ) → Stands xs n → Step xs x (named_next n x) out₀
unfolding Stands
step [] x n out₀ s = rw (next_none n x s) (step-none x out₀)
step (y ∷ ys) x n out₀ s = by_place (opened n) x (λ h. rw (next_in n x (omega (arith, s.0)) h) (step_in y ys x n out₀ s h)) (λ h. rw (next_new n x (omega (arith, s.0)) h) (step_new y ys x n out₀ s h))

module _ {xs : List ℕ} {n : Naming} {out₀ out : List ℕ} (k : Named xs n out₀ out) where
  pub named-bytes : n.bytes ≡ length (entries xs)
  named-bytes = stands-bytes xs n k.stands

  pub named_follows : (x : ℕ) → ascends (xs ++ (x ∷ [])) ≡ true → 4 * length xs + 4 < 2 ^ 64 → Follows n x
  named_follows x a h = stands_follows xs n x k.stands a (omega (arith, named-bytes, length-entries xs))

  -- how far the entries go with x
  pub next_bytes : (x : ℕ) → (named_next n x).bytes ≤ 4 * length xs + 4
  next_bytes x =
      let e = stands-bytes (xs ++ (x ∷ [])) (named_next n x) (step xs x n out₀ k.stands).stands in
      let l = length-entries (xs ++ (x ∷ [])) in
      let m = length-append xs (x ∷ []) in
      omega arith

  pub named_more : (m : Naming) (new : List ℕ) (x : ℕ) → 4 * length xs + 4 ≤ length out₀ → m ≡ named_next n x
      → new ≡ written (m.bytes - 4) (bytes_of (opened m)) out → Named (xs ++ (x ∷ [])) m out₀ new
  named_more m new x r e w =
      let z = step xs x n out₀ k.stands in
      let l = length-entries (xs ++ (x ∷ [])) in
      let a = length-append xs (x ∷ []) in
      let g : new ≡ over (entries (xs ++ (x ∷ []))) out₀ =
      w ∙ ap (λ (q : Naming). written (q.bytes - 4) (bytes_of (opened q)) out) e ∙ ap (written ((named_next n x).bytes - 4) (bytes_of (opened (named_next n x)))) k.written ∙ z.grows in
      record {
        stands = rw e z.stands;
        written = g;
        same = ap length g ∙ length_over (entries (xs ++ (x ∷ []))) out₀ (omega arith);
      }

-- ---- what the code's steps have to know

positive : (n : ℕ) → (n ≡ 0 → ⊥) → 0 < n
positive zero h = absurd (h refl)
positive (suc n) h = omega arith

module _ (n : Naming) (x : ℕ) where
  pub shifted : x - n.first ≤ 16 → 1 * 2 ^ (x - n.first - 1) % 2 ^ 64 ≡ bit n.first x
  shifted h = shl_exact 1 (x - n.first - 1) 64 (omega arith) (omega arith) ∙ omega arith

  pub fits_in : Follows n x → (n.bytes ≡ 0 → ⊥) → x - n.first ≤ 16 → n.mask + bit n.first x < 2 ^ 64
  fits_in f e h =
      let m = f.free (positive n.bytes e) in
      let a = f.above (positive n.bytes e) in
      let k : bit n.first x ≤ 2 ^ 16 = pow_mono {i = x - n.first - 1} {j = 16} (omega arith) in
      omega arith

  pub next_least : Follows n x → 4 ≤ (named_next n x).bytes
  unfolding named_next
  next_least f = go (eqb n.bytes 0) refl (within (opened n) x)
    where
      go : (b : Bool) → eqb n.bytes 0 ≡ b → (w : Bool) → 4 ≤ (cond b (begun 4 x) (cond w (record { bytes = n.bytes; first = n.first; mask = n.mask + bit n.first x }) (begun (n.bytes + 4) x))).bytes
      go true e w = omega arith
      go false e true = f.whole (positive n.bytes (eqb-false n.bytes 0 e))
      go false e false = omega arith

-- what `next` has to know
pub ruleset naming = (next_none, next_in, next_new, shifted, fits_in, next_least)
