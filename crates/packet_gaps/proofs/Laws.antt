-- Gaps by place. In ascending order the gaps below a number are the first ones, as many as its rank (`below_front`), and the gap of a number
-- stands at its rank (`found_at`).
use mathlib.Core.Path.{◌≡◌, refl, sym, ap, ◌∙◌}
use mathlib.Core.Bool.{Bool, true, false, cond, ◌||◌, not, false≢true}
use mathlib.Core.List.{List, [], ◌∷◌, ◌++◌}
use Prim.Native.Nat.{ℕ, zero, suc, ◌+◌, ◌*◌, ◌≤◌, ◌<◌}
use native.Mathlib.Omega.{arith}
use lib.Dec.{eqb, leb, ltb}
use lib.ListN.{length, take, drop, get_or, replicate, length-map, get_or-map}
use lib.Seq.{length-take-le}
use borrow.Author.Tests.{ltb-true, ltb-false, leb-true, le-ltb, ne_eqb}
use Rattle.words.specs.Words.{over, cut, padded}
use Rattle.words.specs.Blocks.{firsts, laid}
use Rattle.words.specs.Order.{ascends, rank}
use Rattle.words.proofs.Blocked.{word_at, length-firsts, first-at}
use Rattle.words.proofs.Records.{Holds, record_at, records_firsts, holds-cut, holds-drop, tidied_laid}
use Rattle.words.proofs.Ordered.{and_left, and_right, ascends-lt, ascends_tail, rank-le, member-rank, member_past}
use Rattle.words.proofs.Forms.{records_of, member}
use Rattle.durations.specs.Seconds.{largest}
use Rattle.model.specs.Lists.{keep, some?, every?}
use Rattle.model.specs.Records.{Gap, gap_numbers}
use Rattle.model.specs.Rules.{is, below, gap_of, without, gaps_below, gaps_from}
use Rattle.model.specs.Storage.{gap_words, gap_words_of, gap_of_words, gaps_of}
use Rattle.model.proofs.Laid.{gaps-held, gap_coded, length-gaps_of}
use Rattle.packet_gaps.specs.Gaps.{GapsIn, instants_fit}
use Rattle.packet_gaps.proofs.Turns.{every-at}

-- ---- what is read

pub gap-numbers : (s : List ℕ) (n : ℕ) → gap_numbers (gaps_of s n) ≡ firsts gap_words s n
unfolding gaps_of records_of gap_of_words
gap-numbers s n = records_firsts gap_words gap_of_words (λ (g : Gap). g.number) (λ b. refl) n s

-- past the last place
abbrev pub no_gap : Gap
no_gap = gap_of_words []

pub gap_at : (s : List ℕ) (n i : ℕ) → i < n → get_or (gaps_of s n) i no_gap ≡ gap_of_words (take gap_words (drop (gap_words * i) s))
unfolding gaps_of records_of
gap_at s n i h = record_at gap_words gap_of_words n s i h

-- by its four words
pub gap-words : (s : List ℕ) (i : ℕ)
    → record { number = get_or s (gap_words * i) 0; detected = get_or s (gap_words * i + 1) 0; nacks = get_or s (gap_words * i + 2) 0; nacked_at = get_or s (gap_words * i + 3) 0 }
    ≡ gap_of_words (take gap_words (drop (gap_words * i) s))
unfolding gap_of_words
gap-words s i =
    let z : gap_words * i + 0 ≡ gap_words * i = omega arith in
    let number : get_or (take gap_words (drop (gap_words * i) s)) 0 0 ≡ get_or s (gap_words * i) 0 = word_at gap_words i 0 s (omega arith) ∙ ap (λ (k : ℕ). get_or s k 0) z in
    rw (number, word_at gap_words i 1 s (omega arith), word_at gap_words i 2 s (omega arith), word_at gap_words i 3 s (omega arith))

pub number_at : (gs : List Gap) (i : ℕ) → get_or (gap_numbers gs) i no_gap.number ≡ (get_or gs i no_gap).number
number_at gs i = get_or-map (λ (g : Gap). g.number) gs i no_gap

-- ---- by number

pub some-member : (x : ℕ) (gs : List Gap) → some? (is x) gs ≡ member x (gap_numbers gs)
unfolding some? is member
some-member x [] = refl
some-member x (g ∷ gs) = ap (λ (b : Bool). eqb g.number x || b) (some-member x gs)

-- those after one that is not below x: none is below, and none is x
above-none : (x : ℕ) (g : Gap) (gs : List Gap) → ascends (gap_numbers (g ∷ gs)) ≡ true → x ≤ g.number
    → (gaps_below x gs ≡ []) × (gaps_from x gs ≡ gs) × (gap_of x gs ≡ []) × (without x gs ≡ gs) × (some? (is x) gs ≡ false)
unfolding gaps_below gaps_from gap_of without keep below is some?
above-none x g [] a h = (refl, refl, refl, refl, refl)
above-none x g (k ∷ gs) a h =
    let up : g.number < k.number = ascends-lt g.number (gap_numbers (k ∷ gs)) 0 a (omega arith) in
    let r = above-none x k gs (ascends_tail g.number (gap_numbers (k ∷ gs)) a) (omega arith) in
    let b : ltb k.number x ≡ false = le-ltb k.number x (omega arith) in
    let e : eqb k.number x ≡ false = ne_eqb k.number x (λ z. omega arith) in
    (rw b r.0, rw (b, r.1), rw e r.2, rw (e, r.3), rw e r.4)

or_none : (a b : Bool) → b ≡ false → (a || b) ≡ true → a ≡ true
or_none true b e m = refl
or_none false b e m = sym e ∙ m

module _ (x : ℕ) where
  pub below_front : (gs : List Gap) → ascends (gap_numbers gs) ≡ true
      → (gaps_below x gs ≡ take (rank x (gap_numbers gs)) gs) × (gaps_from x gs ≡ drop (rank x (gap_numbers gs)) gs)
  unfolding gaps_below gaps_from keep below rank
  below_front [] a = (refl, refl)
  below_front (g ∷ gs) a = go (ltb g.number x) refl (below_front gs (ascends_tail g.number (gap_numbers gs) a))
    where
      R : ℕ
      R = rank x (gap_numbers gs)

      go : (b : Bool) → ltb g.number x ≡ b → (keep (below x) gs ≡ take R gs) × (keep (λ (k : Gap). not (below x k)) gs ≡ drop R gs)
          → (cond b (g ∷ keep (below x) gs) (keep (below x) gs) ≡ take (cond b (suc R) zero) (g ∷ gs))
          × (cond (not b) (g ∷ keep (λ (k : Gap). not (below x k)) gs) (keep (λ (k : Gap). not (below x k)) gs) ≡ drop (cond b (suc R) zero) (g ∷ gs))
      go true e ih = (ap (λ (l : List Gap). g ∷ l) ih.0, ih.1)
      go false e ih =
          let z = above-none x g gs a (ltb-false g.number x e) in
          (z.0, ap (λ (l : List Gap). g ∷ l) z.1)

  -- the gap of x stands at its rank
  pub found_at : (gs : List Gap) → ascends (gap_numbers gs) ≡ true → some? (is x) gs ≡ true
      → (rank x (gap_numbers gs) < length gs) × (gap_of x gs ≡ get_or gs (rank x (gap_numbers gs)) no_gap ∷ []) × (without x gs ≡ cut (rank x (gap_numbers gs)) 1 gs)
  unfolding gap_of without keep is some? rank cut
  found_at [] a m = absurd (false≢true m)
  found_at (g ∷ gs) a m = go (ltb g.number x) refl (found_at gs (ascends_tail g.number (gap_numbers gs) a)) m
    where
      R : ℕ
      R = rank x (gap_numbers gs)

      go : (b : Bool) → ltb g.number x ≡ b
          → (some? (is x) gs ≡ true → (R < length gs) × (keep (is x) gs ≡ get_or gs R no_gap ∷ []) × (keep (λ (k : Gap). not (is x k)) gs ≡ take R gs ++ drop (R + 1) gs))
          → (eqb g.number x || some? (is x) gs) ≡ true
          → (cond b (suc R) zero < suc (length gs))
          × (cond (eqb g.number x) (g ∷ keep (is x) gs) (keep (is x) gs) ≡ get_or (g ∷ gs) (cond b (suc R) zero) no_gap ∷ [])
          × (cond (not (eqb g.number x)) (g ∷ keep (λ (k : Gap). not (is x k)) gs) (keep (λ (k : Gap). not (is x k)) gs)
          ≡ take (cond b (suc R) zero) (g ∷ gs) ++ drop (cond b (suc R) zero + 1) (g ∷ gs))
      go true e ih m =
          let lt : g.number < x = ltb-true g.number x e in
          let ne : eqb g.number x ≡ false = ne_eqb g.number x (λ z. omega arith) in
          let r = ih (rw ne at m) in
          let z : suc R + 1 ≡ suc (R + 1) = omega arith in
          (omega (arith, r.0), rw ne r.1, rw (ne, z) (ap (λ (l : List Gap). g ∷ l) r.2))
      go false e ih m =
          let z = above-none x g gs a (ltb-false g.number x e) in
          let q : eqb g.number x ≡ true = or_none (eqb g.number x) (some? (is x) gs) z.4 m in
          (omega arith, rw (q, z.2), rw q z.3)

-- ---- the binary search

module _ (s : List ℕ) (n : ℕ) (a : ascends (gap_numbers (gaps_of s n)) ≡ true) where
  pub firsts-ascend : ascends (firsts gap_words s n) ≡ true
  firsts-ascend = ap ascends (sym (gap-numbers s n)) ∙ a

  module _ (x r : ℕ) (e : r ≡ rank x (firsts gap_words s n)) where
    rank_is : r ≡ rank x (gap_numbers (gaps_of s n))
    rank_is = e ∙ ap (rank x) (sym (gap-numbers s n))

    pub contains_at : r < n → eqb (get_or s (gap_words * r) 0) x ≡ some? (is x) (gaps_of s n)
    contains_at h =
        let f = firsts gap_words s n in
        let l : length f ≡ n = length-firsts gap_words n s in
        sym (
        some-member x (gaps_of s n)
        ∙ ap (member x) (gap-numbers s n)
        ∙ member-rank x f firsts-ascend (omega arith)
        ∙ ap (λ (k : ℕ). eqb (get_or f k 0) x) (sym e)
        ∙ ap (λ (v : ℕ). eqb v x) (first-at gap_words n s r (omega arith) h))

    pub contains_past : n ≤ r → false ≡ some? (is x) (gaps_of s n)
    contains_past h =
        let f = firsts gap_words s n in
        let l : length f ≡ n = length-firsts gap_words n s in
        sym (some-member x (gaps_of s n) ∙ ap (member x) (gap-numbers s n) ∙ member_past x f (omega arith))

    pub count-is : r ≡ length (gaps_below x (gaps_of s n))
    count-is =
        let gs = gaps_of s n in
        let le : r ≤ length gs = omega (arith, rank-le x (gap_numbers gs), rank_is, length-map gs (λ (g : Gap). g.number)) in
        sym (ap length ((below_front x gs a).0 ∙ ap (λ (k : ℕ). take k gs) (sym rank_is)) ∙ length-take-le r gs le)

    module _ (m : some? (is x) (gaps_of s n) ≡ true) where
      pub found_in : r < n
      found_in = omega (arith, (found_at x (gaps_of s n) a m).0, rank_is, length-gaps_of s n)

      pub found_is : gap_of x (gaps_of s n) ≡ get_or (gaps_of s n) r no_gap ∷ []
      found_is = (found_at x (gaps_of s n) a m).1 ∙ ap (λ (k : ℕ). get_or (gaps_of s n) k no_gap ∷ []) (sym rank_is)

      pub without_is : without x (gaps_of s n) ≡ cut r 1 (gaps_of s n)
      without_is = (found_at x (gaps_of s n) a m).2 ∙ ap (λ (k : ℕ). cut k 1 (gaps_of s n)) (sym rank_is)

-- ---- moves in a slice that holds n gaps

module _ (s : List ℕ) (n : ℕ) (k : GapsIn s n) where
  all_held : Holds gap_words (length s) gap_words_of s n (gaps_of s n)
  all_held = gaps-held k.held (length-gaps_of s n) k.room

  pub gaps_cut : (i j : ℕ) → i + j ≤ n
      → over (cut (gap_words * i) (gap_words * j) (take (gap_words * n) s) ++ replicate (gap_words * j) 0) s ≡ laid gap_words_of (length s) (cut i j (gaps_of s n))
  gaps_cut = holds-cut all_held

  pub gaps-drop : (j : ℕ) → j ≤ n
      → over (cut 0 (gap_words * j) (take (gap_words * n) s) ++ replicate (gap_words * j) 0) s ≡ laid gap_words_of (length s) (drop j (gaps_of s n))
  gaps-drop = holds-drop all_held

-- a gap is read of its words and written as them again
pub tidied : (n : ℕ) (s : List ℕ) → gap_words * n ≤ length s → padded (length s) (take (gap_words * n) s) ≡ laid gap_words_of (length s) (gaps_of s n)
unfolding gaps_of records_of
tidied n s h = tidied_laid gap_coded n s h

-- ---- tests

pub instants : (g : Gap) → instants_fit g ≡ true → (g.detected ≤ largest) × (g.nacked_at ≤ largest)
unfolding instants_fit
instants g e =
    let a : Bool = leb g.detected largest in
    let b : Bool = leb g.nacked_at largest in
    (leb-true g.detected largest (and_left a b e), leb-true g.nacked_at largest (and_right a b e))

-- g was read at place i of n
module _ (s : List ℕ) (n i : ℕ) (g : Gap) (e : g ≡ gap_of_words (take gap_words (drop (gap_words * i) s))) (h : i < n) where
  pub read_is : g ≡ get_or (gaps_of s n) i no_gap
  read_is = e ∙ sym (gap_at s n i h)

  pub read_fits : every? instants_fit (gaps_of s n) ≡ true → instants_fit g ≡ true
  read_fits a = ap instants_fit read_is ∙ every-at instants_fit (gaps_of s n) no_gap i a (rw length-gaps_of h)

-- what is read, by place or by number
pub ruleset placed = (gap-words, firsts-ascend, contains_at, contains_past, count-is, found_in)

-- what a move leaves
pub ruleset moved = (gaps-drop, tidied)
