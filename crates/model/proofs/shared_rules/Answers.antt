-- `shared_rules`: each rule by the cases that it goes by.
use mathlib.Core.Path.{◌≡◌, refl, sym, ap, ◌∙◌}
use mathlib.Core.Bool.{Bool, true, false, cond, not}
use mathlib.Core.List.{List, [], ◌∷◌, ◌++◌, map, map-append}
use Prim.Native.Nat.{ℕ, suc, ◌+◌, ◌-◌, ◌≤◌, ◌<◌}
use native.Mathlib.Omega.{arith}
use borrow.Author.Tests.{lt-ltb, le-leb, lt-leb, leb-false}
use lib.Dec.{T, leb, ltb, le→leb, nltb→le}
use lib.ListN.{length, length-drop, length-append, length-map}
use Rattle.std.specs.Prelude.{Some}
use Rattle.config.specs.declared.RtpInboundStreamSortedQueueMode.{RtpInboundStreamSortedQueueMode}
use Rattle.config.specs.declared.RtpInboundQueueMode.TheVariants.{Passthrough, SortedQueue}
use Rattle.config.specs.declared.Settings.{Settings}
use Rattle.model.specs.Lists.{following, keep, leading, trailing, every?}
use Rattle.model.specs.Records.{Gap, Remembered, gap_numbers}
use Rattle.model.specs.Rules.{max_gap_size, max_lost_nacked, place_of, gaps_after, near, far, between, fresh, below, gaps_below, gaps_from, tried, once, remember, latest, remembered_after, given_up_in, not_given_up_in, lost_below_of, left_from_of}
use Rattle.model.specs.Shared.{longest_step, most_remembered, Stepped, SharedRules, stepped}
use Rattle.model.proofs.Lists.{each_kept, every_of_each, length-following, numbers-fresh}
use Rattle.model.proofs.shared_rules.Goals as goal

-- ---- a step

module _ (h s : ℕ) (l : List Gap) where
  at_near : 1 ≤ s → s ≤ longest_step → place_of (Some h) l (h + s) ≡ near h
  unfolding place_of
  at_near some few = rw (lt-ltb h (h + s) (omega arith), le-leb (h + s - h) max_gap_size (omega arith))

  at_far : longest_step < s → place_of (Some h) l (h + s) ≡ far h
  unfolding place_of
  at_far many = rw (lt-ltb h (h + s) (omega arith), lt-leb (h + s - h) max_gap_size (omega arith))

module _ (now h s : ℕ) (l : List Gap) where
  opens : 1 ≤ s → s ≤ longest_step → gap_numbers (stepped now h s l) ≡ gap_numbers l ++ following (suc h) (s - 1)
  unfolding gaps_after between
  opens some few =
      let size : h + s - suc h ≡ s - 1 = omega arith in
      rw (at_near h s l some few, size) (map-append _ l (map (fresh now) (following (suc h) (s - 1))) ∙ ap (λ (k : List ℕ). gap_numbers l ++ k) (numbers-fresh now (following (suc h) (s - 1))))

  so_many : 1 ≤ s → s ≤ longest_step → length (stepped now h s l) ≡ length l + (s - 1)
  so_many some few =
      sym (length-map (stepped now h s l) _)
      ∙ ap length (opens some few)
      ∙ length-append (gap_numbers l) (following (suc h) (s - 1))
      ∙ rw (length-following (suc h) (s - 1)) (ap (λ (k : ℕ). k + (s - 1)) (length-map l _))

  clears : longest_step < s → stepped now h s l ≡ []
  unfolding gaps_after
  clears many = rw (at_far h s l many)

  step : Stepped now h s l
  step = record { opens = opens; so_many = so_many; clears = clears }

-- ---- numbers lost
lost_below : (sorted : RtpInboundStreamSortedQueueMode) (w : ℕ) (l : List Gap) → T (every? (λ (g : Gap). ltb g.number w) (lost_below_of (SortedQueue sorted) w l))
unfolding lost_below_of gaps_below below
lost_below sorted w l = every_of_each (λ (g : Gap). ltb g.number w) (λ g t. t) (each_kept (λ (g : Gap). ltb g.number w) l)

left_from : (sorted : RtpInboundStreamSortedQueueMode) (w : ℕ) (l : List Gap) → T (every? (λ (g : Gap). leb w g.number) (left_from_of (SortedQueue sorted) w l))
unfolding left_from_of gaps_from below
left_from sorted w l = every_of_each (λ (g : Gap). leb w g.number) (λ g t. le→leb w g.number (nltb→le g.number w t)) (each_kept (λ (g : Gap). not (ltb g.number w)) l)

module _ (p : Gap → Bool) where
  each_leading : (l : List Gap) → T (every? p (leading p l))
  unfolding every? leading
  each_leading [] = tt
  each_leading (g ∷ gs) = by_test (p g) refl (each_leading gs)
    where
      by_test : (t : Bool) → p g ≡ t → T (every? p (leading p gs)) → T (every? p (cond t (g ∷ leading p gs) []))
      by_test true e rest = rw e rest
      by_test false e rest = tt

  first-trailing : (l : List Gap) (g : Gap) (gs : List Gap) → trailing p l ≡ g ∷ gs → p g ≡ false
  unfolding trailing
  first-trailing [] g gs e = let z : true ≡ false = cc in cc
  first-trailing (x ∷ xs) g gs e = by_test (p x) refl e (λ f. first-trailing xs g gs f)
    where
      by_test : (t : Bool) → p x ≡ t → cond t (trailing p xs) (x ∷ xs) ≡ g ∷ gs → (trailing p xs ≡ g ∷ gs → p g ≡ false) → p g ≡ false
      by_test true u e rest = rest e
      by_test false u e rest = let same : x ≡ g = cc in rw (← same) u

  halves : (l : List Gap) → leading p l ++ trailing p l ≡ l
  unfolding leading trailing
  halves [] = refl
  halves (g ∷ gs) = by_test (p g) (halves gs)
    where
      by_test : (t : Bool) → leading p gs ++ trailing p gs ≡ gs → cond t (g ∷ leading p gs) [] ++ cond t (trailing p gs) (g ∷ gs) ≡ g ∷ gs
      by_test true rest = ap (λ (k : List Gap). g ∷ k) rest
      by_test false rest = refl

given_up : (set : Settings) (l : List Gap) → T (every? (λ (g : Gap). leb set.max_nack_attempts g.nacks) (given_up_in Passthrough set l))
unfolding given_up_in tried
given_up set l = each_leading (λ (g : Gap). leb set.max_nack_attempts g.nacks) l

first_left : (set : Settings) (l : List Gap) (g : Gap) (gs : List Gap) → not_given_up_in Passthrough set l ≡ g ∷ gs → g.nacks < set.max_nack_attempts
unfolding not_given_up_in tried
first_left set l g gs e = leb-false set.max_nack_attempts g.nacks (first-trailing (λ (x : Gap). leb set.max_nack_attempts x.nacks) l g gs e)

-- ---- numbers remembered
remembered : (rtx : Bool) (lost : List Gap) (l : List Remembered) → length l ≤ most_remembered → length (remembered_after rtx lost l) ≤ most_remembered
unfolding remembered_after latest
remembered false lost l h = h
remembered true lost l h = let k = l ++ map remember (keep once lost) in omega (arith, length-drop (length k - max_lost_nacked) k)

all_remembered : (lost : List Gap) (l : List Remembered) → length l + length (keep once lost) ≤ most_remembered
    → remembered_after true lost l ≡ l ++ map remember (keep once lost)
unfolding remembered_after latest
all_remembered lost l h =
    let k = l ++ map remember (keep once lost) in
    let none : length k - max_lost_nacked ≡ 0 = omega (arith, length-append l (map remember (keep once lost)), length-map (keep once lost) remember) in
    rw none

shared_rules : SharedRules
unfolding lost_below_of left_from_of given_up_in not_given_up_in
shared_rules = record {
  step = step;
  lost_below = lost_below;
  left_from = left_from;
  none_below = λ w l. (refl, refl);
  given_up = given_up;
  first_left = first_left;
  in_two = λ set l. halves _ l;
  none_given_up = λ sorted set l. (refl, refl);
  remembered = remembered;
  all_remembered = all_remembered;
}

pub returns : goal.returns
returns c = shared_rules
