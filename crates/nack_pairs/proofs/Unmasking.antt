-- The reader's two loops. What is left of the definition's list decides: Q is the whole list, `count` of it is written, and what is dropped of it
-- is what the rest of the mask, or of the bytes, names.
use mathlib.Core.Path.{◌≡◌, refl, sym, ap, ap₂, ◌∙◌}
use mathlib.Core.Bool.{Bool, true, false}
use mathlib.Core.List.{List, [], ◌∷◌, ◌++◌, map}
use Prim.Native.Nat.{ℕ, suc, ◌+◌, ◌-◌, ◌*◌, ◌/◌, ◌%◌, ◌≤◌, ◌<◌}
use native.Mathlib.Omega.{arith}
use lib.Dec.{ltb, eqb}
use lib.ListN.{length, take, drop, get_or, set, length-append, length-map, length-drop, drop_of_length-le}
use lib.Seq.{drop-drop, get_or-drop, take-add, take_all, take-append_seam, drop-append_seam, drop-cons, length-take-le}
use borrow.Author.Tests.{eq-eqb, ne_eqb, lt-ltb, le-ltb}
use Rattle.std.specs.Simd.{first_chunks}
use Rattle.words.specs.Order.{ascends}
use Rattle.words.specs.Words.{over, written}
use Rattle.words.proofs.Loops.{Writing, writing_more}
use Rattle.words.proofs.Blocked.{chunk-word}
use Rattle.words.proofs.Over.{over_nil, length_over}
use Rattle.words.proofs.Moves.{written_next}
use Rattle.rtp.specs.Numbers.{low_bits}
use Rattle.refusals.specs.Refusals.{refuse_if, or_else}
use Rattle.nack_pairs.specs.Pairs.{pairs, put_if, marked, named}
use Rattle.nack_pairs.specs.Wire.{entries}
use Rattle.nack_pairs.specs.Reader.{named16, numbers_in, read_refusal, read_answer, list_after}
use Rattle.std.specs.Prelude.{Result, Ok, Err}
use Rattle.nack_pairs.proofs.Back.{length-named16, entries-back}
use Rattle.nack_pairs.proofs.Writing.{length-wire}

-- the first of what is left
record Head (q : List ℕ) (i v : ℕ) (r : List ℕ) : Type 0 where
  inside : i < length q
  here : get_or q i 0 ≡ v
  rest : drop (i + 1) q ≡ r

head_of : (q : List ℕ) (i v : ℕ) (r : List ℕ) → drop i q ≡ v ∷ r → Head q i v r
head_of q i v r e =
    let l : length (drop i q) ≡ suc (length r) = ap length e in
    let i0 : i ≡ i + 0 = omega arith in
    record {
      inside = omega (arith, length-drop i q);
      here = ap (λ (k : ℕ). get_or q k 0) i0 ∙ sym (get_or-drop i q 0 0) ∙ ap (λ (s : List ℕ). get_or s 0 0) e;
      rest = sym (drop-drop 1 i q) ∙ ap (drop 1) e;
    }

-- ---- one mask

abbrev names : ℕ → ℕ → ℕ → List ℕ
names first left k = map (low_bits 16) (marked (17 - k) (first + k) left)

pub record Unmasking (first mask : ℕ) (part₀ part : List ℕ) (count left k : ℕ) : Type 0 where
  pub wrote : Writing (named16 first mask) part₀ part (length (named16 first mask)) count
  pub rest : drop count (named16 first mask) ≡ names first left k

-- the first number is stored before the loop
pub unmasking_none : (first mask : ℕ) (part : List ℕ) → 17 ≤ length part → first < 65536 → Unmasking first mask (set part 0 first) (set part 0 first) 1 mask 1
unfolding named16 named over
unmasking_none first mask [] h f = absurd (omega arith)
unmasking_none first mask (y ∷ ys) h f =
    let m : first ≡ first % 65536 = omega arith in
    let l = length-named16 first mask in
    record {
      wrote = record { source = omega arith; room = omega arith; upto = omega arith; same = refl; now = ap (λ (v : ℕ). v ∷ ys) m };
      rest = refl;
    }

pub over_first : (first mask v : ℕ) (part : List ℕ) → over (named16 first mask) (set part 0 v) ≡ over (named16 first mask) part
unfolding named16 named over
over_first first mask v [] = refl
over_first first mask v (y ∷ ys) = refl

module _ {first mask : ℕ} {part₀ part : List ℕ} {count left k : ℕ} (u : Unmasking first mask part₀ part count left k) (h : k < 17) where
  next_left : (b : Bool) → eqb (left % 2) 1 ≡ b → names first left k ≡ map (low_bits 16) (put_if b (first + k) (marked (17 - (k + 1)) (first + (k + 1)) (left / 2)))
  unfolding marked
  next_left b e =
      let n : 17 - k ≡ suc (17 - (k + 1)) = omega arith in
      let a : first + k + 1 ≡ first + (k + 1) = omega arith in
      ap (λ (j : ℕ). map (low_bits 16) (marked j (first + k) left)) n
      ∙ ap (λ (t : Bool). map (low_bits 16) (put_if t (first + k) (marked (17 - (k + 1)) (first + k + 1) (left / 2)))) e
      ∙ ap (λ (j : ℕ). map (low_bits 16) (put_if b (first + k) (marked (17 - (k + 1)) j (left / 2)))) a

  set-head : left % 2 ≡ 1 → Head (named16 first mask) count (low_bits 16 (first + k)) (names first (left / 2) (k + 1))
  set-head e = head_of (named16 first mask) count (low_bits 16 (first + k)) (names first (left / 2) (k + 1)) (u.rest ∙ next_left true (eq-eqb (left % 2) 1 e))

  pub unmasking_in : left % 2 ≡ 1 → count < length (named16 first mask)
  unmasking_in e = (set-head e).inside

  pub unmasking_set : (v : ℕ) → left % 2 ≡ 1 → v ≡ (first + k) % 65536 → Unmasking first mask part₀ (set part count v) (count + 1) (left / 2) (k + 1)
  unmasking_set v e w =
      let g = set-head e in
      record {
        wrote = writing_more (named16 first mask) part₀ part (length (named16 first mask)) count v u.wrote g.inside (w ∙ sym g.here);
        rest = g.rest;
      }

  pub unmasking_clear : (left % 2 ≡ 1 → ⊥) → Unmasking first mask part₀ part count (left / 2) (k + 1)
  unmasking_clear e = record { wrote = u.wrote; rest = u.rest ∙ next_left false (ne_eqb (left % 2) 1 e) }

pub unmasked : {first mask : ℕ} {part₀ part : List ℕ} {count left k : ℕ} → Unmasking first mask part₀ part count left k → 17 ≤ k
    → (count ≡ length (named16 first mask)) × (part ≡ over (named16 first mask) part₀)
unfolding marked
unmasked {first} {mask} {part₀} {part} {count} {left} {k} u h =
    let e : 17 - k ≡ 0 = omega arith in
    let d : drop count (named16 first mask) ≡ [] = u.rest ∙ ap (λ (j : ℕ). map (low_bits 16) (marked j (first + k) left)) e in
    let l : length (drop count (named16 first mask)) ≡ 0 = ap length d in
    let m = length-drop count (named16 first mask) in
    let n : count ≡ length (named16 first mask) = omega (arith, u.wrote.upto) in
    (n, u.wrote.now ∙ ap (λ (q : List ℕ). over q part₀) (take_all count (named16 first mask) (omega arith)))

-- what bounds the reader's counts
pub ruleset unmasking = (unmasking_in, length-named16)

-- ---- entry after entry

module _ (bytes : List ℕ) where
  pub record Reading (list₀ list : List ℕ) (count i : ℕ) : Type 0 where
    pub wrote : list ≡ over (take count (numbers_in bytes)) list₀
    pub same : length list ≡ length list₀
    pub left : drop count (numbers_in bytes) ≡ numbers_in (drop (4 * i) bytes)
    pub within : count ≤ length (numbers_in bytes)
    pub few : count ≤ 17 * i

  pub reading_none : (list : List ℕ) → Reading list list 0 0
  reading_none list = record { wrote = sym (over_nil list); same = refl; left = refl; within = omega arith; few = omega arith }

  entry_at : (i : ℕ) → i < length bytes / 4
      → numbers_in (drop (4 * i) bytes) ≡ named16 (256 * get_or bytes (4 * i) 0 + get_or bytes (4 * i + 1) 0) (256 * get_or bytes (4 * i + 2) 0 + get_or bytes (4 * i + 3) 0) ++ numbers_in (drop (4 * (i + 1)) bytes)
  unfolding numbers_in
  entry_at i h =
      let e : suc (4 * i + 3) ≡ 4 * (i + 1) = omega arith in
      let e1 : suc (4 * i) ≡ 4 * i + 1 = omega arith in
      let e2 : suc (4 * i + 1) ≡ 4 * i + 2 = omega arith in
      let e3 : suc (4 * i + 2) ≡ 4 * i + 3 = omega arith in
      let d : drop (4 * i) bytes ≡ get_or bytes (4 * i) 0 ∷ get_or bytes (4 * i + 1) 0 ∷ get_or bytes (4 * i + 2) 0 ∷ get_or bytes (4 * i + 3) 0 ∷ drop (4 * (i + 1)) bytes =
      drop-cons bytes (4 * i) 0 (omega arith)
      ∙ ap (λ (k : ℕ). get_or bytes (4 * i) 0 ∷ drop k bytes) e1
      ∙ ap (λ (r : List ℕ). get_or bytes (4 * i) 0 ∷ r) (drop-cons bytes (4 * i + 1) 0 (omega arith))
      ∙ ap (λ (k : ℕ). get_or bytes (4 * i) 0 ∷ get_or bytes (4 * i + 1) 0 ∷ drop k bytes) e2
      ∙ ap (λ (r : List ℕ). get_or bytes (4 * i) 0 ∷ get_or bytes (4 * i + 1) 0 ∷ r) (drop-cons bytes (4 * i + 2) 0 (omega arith))
      ∙ ap (λ (k : ℕ). get_or bytes (4 * i) 0 ∷ get_or bytes (4 * i + 1) 0 ∷ get_or bytes (4 * i + 2) 0 ∷ drop k bytes) e3
      ∙ ap (λ (r : List ℕ). get_or bytes (4 * i) 0 ∷ get_or bytes (4 * i + 1) 0 ∷ get_or bytes (4 * i + 2) 0 ∷ r) (drop-cons bytes (4 * i + 3) 0 (omega arith))
      ∙ ap (λ (k : ℕ). get_or bytes (4 * i) 0 ∷ get_or bytes (4 * i + 1) 0 ∷ get_or bytes (4 * i + 2) 0 ∷ get_or bytes (4 * i + 3) 0 ∷ drop k bytes) e in
      ap numbers_in d

  module _ {list₀ list : List ℕ} {count i : ℕ} (r : Reading list₀ list count i) (h : i < length bytes / 4) (room : 17 * (length bytes / 4) ≤ length list₀) where
    reading_next : (N new : List ℕ) → N ≡ named16 (256 * get_or bytes (4 * i) 0 + get_or bytes (4 * i + 1) 0) (256 * get_or bytes (4 * i + 2) 0 + get_or bytes (4 * i + 3) 0)
        → new ≡ written count N list → Reading list₀ new (count + length N) (i + 1)
    reading_next N new e w =
        let Q = numbers_in bytes in
        let rest = numbers_in (drop (4 * (i + 1)) bytes) in
        let d : drop count Q ≡ N ++ rest = r.left ∙ entry_at i h ∙ ap (λ (n : List ℕ). n ++ rest) (sym e) in
        let t : take (count + length N) Q ≡ take count Q ++ N = take-add count (length N) Q ∙ ap (λ (s : List ℕ). take count Q ++ take (length N) s) d ∙ ap (λ (s : List ℕ). take count Q ++ s) (take-append_seam N rest) in
        let l : length (take count Q) ≡ count = length-take-le count Q r.within in
        let g : new ≡ over (take (count + length N) Q) list₀ = w ∙ ap (written count N) r.wrote ∙ written_next (take count Q) N list₀ count l ∙ ap (λ (q : List ℕ). over q list₀) (sym t) in
        let n : length N ≤ 17 = rw e (length-named16 (256 * get_or bytes (4 * i) 0 + get_or bytes (4 * i + 1) 0) (256 * get_or bytes (4 * i + 2) 0 + get_or bytes (4 * i + 3) 0)) in
        let lq : length (drop count Q) ≡ length N + length rest = ap length d ∙ length-append N rest in
        let lt : length (take (count + length N) Q) ≡ count + length N = ap length t ∙ length-append (take count Q) N ∙ ap (λ (k : ℕ). k + length N) l in
        record {
          wrote = g;
          same = ap length g ∙ length_over (take (count + length N) Q) list₀ (omega (arith, r.few));
          left = sym (drop-drop (length N) count Q) ∙ ap (drop (length N)) d ∙ drop-append_seam N rest;
          within = omega (arith, length-drop count Q);
          few = omega (arith, r.few);
        }

    byte_at : (j : ℕ) → j < 4 → get_or (get_or (first_chunks 4 (length bytes / 4) bytes) i []) j 0 ≡ get_or bytes (4 * i + j) 0
    byte_at j = chunk-word 4 (length bytes / 4) i j bytes h

    pub reading_more : (entries : List (List ℕ)) (first mask more : ℕ) (new : List ℕ) → entries ≡ first_chunks 4 (length bytes / 4) bytes
        → first ≡ get_or (get_or entries i []) 0 0 * 256 + get_or (get_or entries i []) 1 0 → mask ≡ get_or (get_or entries i []) 2 0 * 256 + get_or (get_or entries i []) 3 0
        → more ≡ length (named16 first mask) → new ≡ written count (named16 first mask) list → Reading list₀ new (count + more) (i + 1)
    reading_more entries first mask more new c ef em k w =
        let z : 4 * i + 0 ≡ 4 * i = omega arith in
        let f : first ≡ 256 * get_or bytes (4 * i) 0 + get_or bytes (4 * i + 1) 0 = omega (arith, rw (c, byte_at 0 (omega arith), byte_at 1 (omega arith), z) at ef) in
        let g : mask ≡ 256 * get_or bytes (4 * i + 2) 0 + get_or bytes (4 * i + 3) 0 = omega (arith, rw (c, byte_at 2 (omega arith), byte_at 3 (omega arith)) at em) in
        rw k (reading_next (named16 first mask) new (ap₂ named16 f g) w)

  pub reading_all : {list₀ list : List ℕ} {count i : ℕ} → Reading list₀ list count i → length bytes % 4 ≡ 0 → length bytes / 4 ≤ i → (count ≡ length (numbers_in bytes)) × (list ≡ over (numbers_in bytes) list₀)
  unfolding numbers_in
  reading_all {list₀} {list} {count} {i} r e h =
      let z : drop (4 * i) bytes ≡ [] = drop_of_length-le bytes {i = 4 * i} (omega arith) in
      let d : drop count (numbers_in bytes) ≡ [] = r.left ∙ ap numbers_in z in
      let l : length (drop count (numbers_in bytes)) ≡ 0 = ap length d in
      let m = length-drop count (numbers_in bytes) in
      let n : count ≡ length (numbers_in bytes) = omega (arith, r.within) in
      (n, r.wrote ∙ ap (λ (q : List ℕ). over q list₀) (take_all count (numbers_in bytes) (omega arith)))

-- ---- the answers

module _ (bytes list : List ℕ) where
  pub record Answered (answer : Result ℕ ℕ) (after : List ℕ) : Type 0 where
    pub told : answer ≡ read_answer bytes (length list)
    pub kept : after ≡ list_after bytes list

  pub too_short : length list / 17 < length bytes / 4 → Answered (Err 15) list
  unfolding read_answer list_after read_refusal refuse_if or_else
  too_short h = let t = lt-ltb (length list) (17 * (length bytes / 4)) (omega arith) in record { told = rw t; kept = rw t }

  module _ (h : length bytes / 4 ≤ length list / 17) where
    enough : ltb (length list) (17 * (length bytes / 4)) ≡ false
    enough = le-ltb (length list) (17 * (length bytes / 4)) (omega arith)

    pub not-whole : (length bytes % 4 ≡ 0 → ⊥) → Answered (Err 17) list
    unfolding read_answer list_after read_refusal refuse_if or_else
    not-whole e = record { told = rw (enough, ne_eqb (length bytes % 4) 0 e); kept = rw (enough, ne_eqb (length bytes % 4) 0 e) }

    pub was_read : length bytes % 4 ≡ 0 → (count : ℕ) (after : List ℕ) → count ≡ length (numbers_in bytes) → after ≡ over (numbers_in bytes) list → Answered (Ok count) after
    unfolding read_answer list_after read_refusal refuse_if or_else
    was_read e count after a b = record { told = rw (enough, eq-eqb (length bytes % 4) 0 e, a); kept = rw (enough, eq-eqb (length bytes % 4) 0 e) b }

-- ---- what the writer makes, the reader takes

pub entries-taken : (xs list : List ℕ) → ascends xs ≡ true → 17 * length (pairs xs) ≤ length list
    → (read_answer (entries xs) (length list) ≡ Ok (length xs)) × (list_after (entries xs) list ≡ over (map (low_bits 16) xs) list)
unfolding entries
entries-taken xs list a h =
    let l = length-wire (pairs xs) in
    let b = entries-back xs a in
    let n : length xs ≡ length (numbers_in (entries xs)) = sym (ap length b ∙ length-map xs (low_bits 16)) in
    let r = was_read (entries xs) list (omega arith) (omega arith) (length xs) _ n refl in
    (sym r.told, sym r.kept ∙ ap (λ (q : List ℕ). over q list) b)
