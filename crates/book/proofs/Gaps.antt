-- Parts of a list of gaps, by counting their numbers: a test parts the list in two, so nothing is gained or lost.
use mathlib.Core.Path.{◌≡◌, refl, sym, ap, ◌∙◌}
use mathlib.Core.Logic.{◌≢◌}
use mathlib.Core.Bool.{Bool, true, false, cond, not}
use mathlib.Core.List.{List, [], ◌∷◌, ◌++◌, map}
use Prim.Native.Nat.{ℕ, ◌+◌, ◌≤◌}
use native.Mathlib.Omega.{arith}
use lib.Dec.{T, eqb, eqb→eq}
use Rattle.config.specs.declared.RtpInboundQueueMode.{RtpInboundQueueMode}
use Rattle.config.specs.declared.RtpInboundQueueMode.TheVariants.{Passthrough, SortedQueue}
use Rattle.config.specs.declared.Settings.{Settings}
use Rattle.config.specs.declared.NackTimings.{NackTimings}
use Rattle.model.specs.Lists.{keep, leading, trailing, some?}
use Rattle.model.specs.Records.{Gap, gap_numbers}
use Rattle.model.specs.Rules.{is, below, without, gaps_below, gaps_from, due, nacked, nacked_if_due, nack_due, tried, given_up_in, not_given_up_in, lost_below_of, left_from_of}
use Rattle.model.proofs.Lists.{by_cases, by_or, not-not, eqb_no}
use Rattle.book.proofs.Count.{by-compare, same, same-yes, same_no, count, count_nil}

-- ---- numbers that stay

pub numbers_append : (xs ys : List Gap) → gap_numbers (xs ++ ys) ≡ gap_numbers xs ++ gap_numbers ys
numbers_append xs ys = mathlib.Core.List.map-append _ xs ys

pub numbers-nack_due : (t : NackTimings) (now : ℕ) (l : List Gap) → gap_numbers (nack_due t now l) ≡ gap_numbers l
unfolding nacked_if_due nacked
numbers-nack_due t now [] = refl
numbers-nack_due t now (g ∷ gs) =
    by_cases (λ (x : Gap). x.number ∷ gap_numbers (nack_due t now gs) ≡ g.number ∷ gap_numbers gs) (due t now g)
    (λ d. ap (λ (l : List ℕ). g.number ∷ l) (numbers-nack_due t now gs))
    (λ d. ap (λ (l : List ℕ). g.number ∷ l) (numbers-nack_due t now gs))

-- ---- a list parted in two

module _ (p : Gap → Bool) where
  count-keep : (n : ℕ) (l : List Gap) → count n (gap_numbers (keep p l)) + count n (gap_numbers (keep (λ (g : Gap). not (p g)) l)) ≡ count n (gap_numbers l)
  unfolding keep count
  count-keep n [] = refl
  count-keep n (g ∷ gs) = go (p g) (count-keep n gs)
    where
      go : (b : Bool) → count n (gap_numbers (keep p gs)) + count n (gap_numbers (keep (λ (g : Gap). not (p g)) gs)) ≡ count n (gap_numbers gs)
          → count n (gap_numbers (cond b (g ∷ keep p gs) (keep p gs))) + count n (gap_numbers (cond (not b) (g ∷ keep (λ (g : Gap). not (p g)) gs) (keep (λ (g : Gap). not (p g)) gs))) ≡ same n g.number + count n (gap_numbers gs)
      go true ih = omega arith
      go false ih = omega arith

  count-leading : (n : ℕ) (l : List Gap) → count n (gap_numbers (leading p l)) + count n (gap_numbers (trailing p l)) ≡ count n (gap_numbers l)
  unfolding leading trailing count
  count-leading n [] = refl
  count-leading n (g ∷ gs) = go (p g) (count-leading n gs)
    where
      go : (b : Bool) → count n (gap_numbers (leading p gs)) + count n (gap_numbers (trailing p gs)) ≡ count n (gap_numbers gs)
          → count n (gap_numbers (cond b (g ∷ leading p gs) [])) + count n (gap_numbers (cond b (trailing p gs) (g ∷ gs))) ≡ same n g.number + count n (gap_numbers gs)
      go true ih = omega arith
      go false ih = omega arith

-- the gaps below w, and the others
pub count-below : (w n : ℕ) (l : List Gap) → count n (gap_numbers (gaps_below w l)) + count n (gap_numbers (gaps_from w l)) ≡ count n (gap_numbers l)
unfolding gaps_below gaps_from
count-below w n l = count-keep (below w) n l

-- those given up, and the others
pub count-given-up : (set : Settings) (mode : RtpInboundQueueMode) (n : ℕ) (l : List Gap) → count n (gap_numbers (given_up_in mode set l)) + count n (gap_numbers (not_given_up_in mode set l)) ≡ count n (gap_numbers l)
unfolding given_up_in not_given_up_in
count-given-up set Passthrough n l = count-leading (tried set.max_nack_attempts) n l
count-given-up set (SortedQueue sorted) n l = omega (arith, count_nil n)

-- those lost as w is handed out, and the others
pub count-lost-below : (mode : RtpInboundQueueMode) (w n : ℕ) (l : List Gap) → count n (gap_numbers (lost_below_of mode w l)) + count n (gap_numbers (left_from_of mode w l)) ≡ count n (gap_numbers l)
unfolding lost_below_of left_from_of
count-lost-below Passthrough w n l = omega (arith, count_nil n)
count-lost-below (SortedQueue sorted) w n l = count-below w n l

-- ---- the gap of a number

pub some-counted : (n : ℕ) (l : List Gap) → T (some? (is n) l) → 1 ≤ count n (gap_numbers l)
unfolding some? is count
some-counted n [] t = absurd t
some-counted n (g ∷ gs) t =
    by_or (eqb g.number n) (some? (is n) gs) t
    (λ u. omega (arith, same-yes n g.number (sym (eqb→eq g.number n u))))
    (λ u. let ih = some-counted n gs u in omega arith)

-- taken out, n is gone, and each other number stays
without_it : (n : ℕ) (l : List Gap) → count n (gap_numbers (without n l)) ≡ 0
unfolding without keep is count
without_it n [] = refl
without_it n (g ∷ gs) =
    let ih = without_it n gs in
    by_cases (λ (l : List Gap). count n (gap_numbers l) ≡ 0) (not (eqb g.number n))
    (λ t. omega (arith, same_no n g.number (λ e. eqb_no g.number n t (sym e)))) (λ t. ih)

without_other : (n m : ℕ) (l : List Gap) → m ≢ n → count m (gap_numbers (without n l)) ≡ count m (gap_numbers l)
unfolding without keep is count
without_other n m [] ne = refl
without_other n m (g ∷ gs) ne =
    let ih = without_other n m gs ne in
    by_cases (λ (l : List Gap). count m (gap_numbers l) ≡ same m g.number + count m (gap_numbers gs)) (not (eqb g.number n))
    (λ t. omega arith)
    (λ t. omega (arith, same_no m g.number (λ e. ne (e ∙ eqb→eq g.number n (not-not (eqb g.number n) t)))))

-- where n is counted once, one less n
pub count-without : (n m : ℕ) (l : List Gap) → count n (gap_numbers l) ≡ 1 → same m n + count m (gap_numbers (without n l)) ≡ count m (gap_numbers l)
count-without n m l once =
    by-compare m n (λ e s. rw e (omega (arith, same-yes n n refl, without_it n l))) (λ ne s. omega (arith, without_other n m l ne))
