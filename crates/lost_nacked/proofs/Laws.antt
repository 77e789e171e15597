-- Remembered numbers by place: the first of a number stands after all those that are of other numbers, and those that are noted are pushed
-- behind the others, but for the oldest beyond 1,024.
use mathlib.Core.Path.{◌≡◌, refl, sym, ap, ◌∙◌}
use mathlib.Core.Bool.{Bool, true, false, cond, not}
use mathlib.Core.List.{List, [], ◌∷◌, ◌++◌}
use Prim.Native.Nat.{ℕ, suc, ◌+◌, ◌*◌, ◌≤◌, ◌<◌}
use native.Mathlib.Omega.{arith}
use lib.ListN.{length, take, drop, get_or, replicate, drop_of_length-le}
use borrow.Author.Tests.{eq-eqb, ne_eqb, le-leb, lt-leb}
use Rattle.words.specs.Words.{over, padded, cut}
use Rattle.words.specs.Blocks.{laid}
use Rattle.words.proofs.Blocked.{word_at}
use Rattle.words.proofs.Records.{tidied_laid, record_at, holds-cut}
use Rattle.words.proofs.Forms.{records_of}
use Rattle.std.specs.Prelude.{None, Some}
use Rattle.durations.specs.Seconds.{largest}
use Rattle.model.specs.Lists.{keep, leading, every?}
use Rattle.model.specs.Records.{Remembered}
use Rattle.model.specs.Rules.{instant_of, is_of, forget_first}
use Rattle.model.specs.Valid.{remembered_sound}
use Rattle.model.specs.Storage.{remembered_words, remembered_words_of, remembered_of_words, remembered_of}
use Rattle.model.proofs.Laid.{remembered-held, remembered_coded, length-remembered_of}
use Rattle.packet_gaps.proofs.Turns.{drop_next, leading-none, leading_more, leading_end}
use Rattle.lost_nacked.specs.Remembered.{RememberedIn, another}

-- ---- what is read

abbrev pub no_one : Remembered
no_one = remembered_of_words []

-- by its two words
pub remembered-words : (s : List ℕ) (i : ℕ)
    → record { number = get_or s (remembered_words * i) 0; nacked_at = get_or s (remembered_words * i + 1) 0 } ≡ remembered_of_words (take remembered_words (drop (remembered_words * i) s))
unfolding remembered_of_words
remembered-words s i =
    let z : remembered_words * i + 0 ≡ remembered_words * i = omega arith in
    let number : get_or (take remembered_words (drop (remembered_words * i) s)) 0 0 ≡ get_or s (remembered_words * i) 0 = word_at remembered_words i 0 s (omega arith) ∙ ap (λ (k : ℕ). get_or s k 0) z in
    rw (number, word_at remembered_words i 1 s (omega arith))

-- what was read at place i is the record there
module _ (s : List ℕ) (n i : ℕ) (r : Remembered) (e : r ≡ remembered_of_words (take remembered_words (drop (remembered_words * i) s))) (h : i < n) where
  inside : i < length (remembered_of s n)
  inside = rw length-remembered_of h

  here : get_or (remembered_of s n) i no_one ≡ r
  unfolding remembered_of records_of
  here = record_at remembered_words remembered_of_words n s i h ∙ sym e

  next : drop i (remembered_of s n) ≡ r ∷ drop (i + 1) (remembered_of s n)
  next = drop_next no_one (remembered_of s n) i inside ∙ ap (λ (y : Remembered). y ∷ drop (i + 1) (remembered_of s n)) here

  module _ (x : ℕ) where
    pub position_found : r.number ≡ x → length (leading (another x) (drop i (remembered_of s n))) ≡ 0
    unfolding is_of
    position_found f = leading-none no_one (remembered_of s n) i inside (another x) (ap (another x) here ∙ rw (eq-eqb r.number x f))

    pub position_more : (r.number ≡ x → ⊥) → length (leading (another x) (drop i (remembered_of s n))) ≡ 1 + length (leading (another x) (drop (i + 1) (remembered_of s n)))
    unfolding is_of
    position_more f = leading_more no_one (remembered_of s n) i inside (another x) (ap (another x) here ∙ rw (ne_eqb r.number x f))

  module _ (clock : ℕ) where
    pub sound-number : largest < r.number → every? (remembered_sound clock) (drop i (remembered_of s n)) ≡ false
    unfolding every? remembered_sound
    sound-number l = rw (next, lt-leb r.number largest l)

    module _ (a : r.number ≤ largest) where
      pub sound_instant : clock < r.nacked_at → every? (remembered_sound clock) (drop i (remembered_of s n)) ≡ false
      unfolding every? remembered_sound
      sound_instant l = rw (next, le-leb r.number largest a, lt-leb r.nacked_at clock l)

      pub sound_more : r.nacked_at ≤ clock → every? (remembered_sound clock) (drop i (remembered_of s n)) ≡ every? (remembered_sound clock) (drop (i + 1) (remembered_of s n))
      unfolding every? remembered_sound
      sound_more l = rw (next, le-leb r.number largest a, le-leb r.nacked_at clock l)

pub tidied : (s : List ℕ) (n : ℕ) → remembered_words * n ≤ length s → padded (length s) (take (remembered_words * n) s) ≡ laid remembered_words_of (length s) (remembered_of s n)
unfolding remembered_of records_of
tidied s n h = tidied_laid remembered_coded n s h

-- ---- `position` and `forget`

pub position_end : (s : List ℕ) (n i x : ℕ) → n ≤ i → length (leading (another x) (drop i (remembered_of s n))) ≡ 0
position_end s n i x h = leading_end (another x) (remembered_of s n) i (omega (arith, length-remembered_of s n))

module _ (x : ℕ) where
  pub first_found : (rs : List Remembered) → length (leading (another x) rs) < length rs
      → (instant_of (keep (is_of x) rs) ≡ Some (get_or rs (length (leading (another x) rs)) no_one).nacked_at) × (forget_first x rs ≡ cut (length (leading (another x) rs)) 1 rs)
  unfolding instant_of keep leading forget_first cut
  first_found [] h = absurd (omega arith)
  first_found (r ∷ rs) h = go (is_of x r) (first_found rs) h
    where
      k : ℕ
      k = length (leading (another x) rs)

      go : (b : Bool) → (k < length rs → (instant_of (keep (is_of x) rs) ≡ Some (get_or rs k no_one).nacked_at) × (forget_first x rs ≡ take k rs ++ drop (k + 1) rs))
          → length (cond (not b) (r ∷ leading (another x) rs) []) < suc (length rs)
          → (instant_of (cond b (r ∷ keep (is_of x) rs) (keep (is_of x) rs)) ≡ Some (get_or (r ∷ rs) (length (cond (not b) (r ∷ leading (another x) rs) [])) no_one).nacked_at)
          × (cond b rs (r ∷ forget_first x rs) ≡ take (length (cond (not b) (r ∷ leading (another x) rs) [])) (r ∷ rs) ++ drop (length (cond (not b) (r ∷ leading (another x) rs) []) + 1) (r ∷ rs))
      go true ih l = (refl, refl)
      go false ih l =
          let z : suc k + 1 ≡ suc (k + 1) = omega arith in
          let y = ih (omega arith) in
          (y.0, rw z (ap (λ (l : List Remembered). r ∷ l) y.1))

  pub none_found : (rs : List Remembered) → length rs ≤ length (leading (another x) rs) → (instant_of (keep (is_of x) rs) ≡ None) × (forget_first x rs ≡ rs)
  unfolding instant_of keep leading forget_first
  none_found [] h = (refl, refl)
  none_found (r ∷ rs) h = go (is_of x r) (none_found rs) h
    where
      go : (b : Bool) → (length rs ≤ length (leading (another x) rs) → (instant_of (keep (is_of x) rs) ≡ None) × (forget_first x rs ≡ rs))
          → suc (length rs) ≤ length (cond (not b) (r ∷ leading (another x) rs) [])
          → (instant_of (cond b (r ∷ keep (is_of x) rs) (keep (is_of x) rs)) ≡ None) × (cond b rs (r ∷ forget_first x rs) ≡ r ∷ rs)
      go true ih l = absurd (omega arith)
      go false ih l = let y = ih (omega arith) in (y.0, ap (λ (l : List Remembered). r ∷ l) y.1)

module _ (s : List ℕ) (n x k : ℕ) (m : RememberedIn s n) (e : k ≡ length (leading (another x) (remembered_of s n))) where
  module _ (h : k < n) where
    all_found : (instant_of (keep (is_of x) (remembered_of s n)) ≡ Some (get_or (remembered_of s n) k no_one).nacked_at) × (forget_first x (remembered_of s n) ≡ cut k 1 (remembered_of s n))
    all_found = rw e (first_found x (remembered_of s n) (omega (arith, length-remembered_of s n)))

    pub forget_instant : (r : Remembered) → r ≡ remembered_of_words (take remembered_words (drop (remembered_words * k) s)) → Some r.nacked_at ≡ instant_of (keep (is_of x) (remembered_of s n))
    forget_instant r i = sym (all_found.0 ∙ ap (λ (y : Remembered). Some y.nacked_at) (here s n k r i h))

    pub forget-words : over (cut (remembered_words * k) remembered_words (take (remembered_words * n) s) ++ replicate remembered_words 0) s ≡ laid remembered_words_of (length s) (forget_first x (remembered_of s n))
    forget-words =
        holds-cut (remembered-held m.held (length-remembered_of s n) m.room) k 1 (omega arith)
        ∙ ap (laid remembered_words_of (length s)) (sym all_found.1)

  module _ (h : n ≤ k) where
    none : (instant_of (keep (is_of x) (remembered_of s n)) ≡ None) × (forget_first x (remembered_of s n) ≡ remembered_of s n)
    none = none_found x (remembered_of s n) (omega (arith, length-remembered_of s n))

    pub forget-none : None ≡ instant_of (keep (is_of x) (remembered_of s n))
    forget-none = sym none.0

    pub forget-same : s ≡ laid remembered_words_of (length s) (forget_first x (remembered_of s n))
    forget-same = m.held ∙ ap (laid remembered_words_of (length s)) (sym none.1)

-- ---- `are_sound`

pub sound-end : (s : List ℕ) (n i clock : ℕ) → n ≤ i → every? (remembered_sound clock) (drop i (remembered_of s n)) ≡ true
unfolding every?
sound-end s n i clock h = let e : drop i (remembered_of s n) ≡ [] = drop_of_length-le (remembered_of s n) {i = i} (omega (arith, length-remembered_of s n)) in rw e

-- ---- what the functions have to know

pub ruleset placed = (remembered-words)

pub ruleset searched = (position_found, position_more, position_end)

pub ruleset forgetting = (forget_instant, forget-words, forget-none, forget-same)

pub ruleset sounding = (sound-number, sound_instant, sound_more, sound-end)
