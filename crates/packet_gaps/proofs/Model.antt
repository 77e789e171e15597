-- What the contracts of this crate say, in the terms of the queue's definitions; and how one call's result meets the next one's demand.
use mathlib.Core.Path.{◌≡◌, refl, sym, ap, ◌∙◌}
use mathlib.Core.Bool.{Bool, true, false, cond, ◌&&◌}
use mathlib.Core.List.{List, [], ◌∷◌}
use Prim.Native.Nat.{ℕ, zero, suc, ◌*◌, ◌≤◌}
use native.Mathlib.Omega.{arith}
use lib.Dec.{T, leb}
use lib.ListN.{length, take, drop, length-map}
use lib.Seq.{length-take-le}
use borrow.Author.Tests.{leb-true, le-leb}
use Rattle.words.specs.Blocks.{blocks, laid}
use Rattle.words.proofs.Records.{records_laid, holds-length}
use Rattle.words.specs.Order.{ascends, rank}
use Rattle.words.proofs.Ordered.{and_left, and_right, rank-le}
use Rattle.words.proofs.Forms.{records_of}
use Rattle.durations.specs.Seconds.{largest}
use Rattle.rtx_state.specs.declared.RtxRtt.{RtxRtt}
use Rattle.std.specs.Prelude.{Option}
use Rattle.rtx_state.specs.RoundTrip.{opt_rtt_in_range}
use Rattle.config.specs.declared.Settings.{Settings}
use Rattle.config.specs.Timings.{nack_timings}
use Rattle.config.specs.Valid.{longest}
use Rattle.config.proofs.Facts.{resend-lt}
use Rattle.model.specs.Lists.{leading, trailing, every?}
use Rattle.model.specs.Records.{Gap, gap_numbers}
use Rattle.model.specs.Rules.{gaps_below, gaps_from}
use Rattle.model.specs.Valid.{Bounds, under, not_passed, gap_sound}
use Rattle.model.specs.Storage.{gap_words, gap_words_of, gap_of_words, gaps_of}
use Rattle.model.proofs.Laid.{gaps-held, gap_coded}
use Rattle.packet_gaps.specs.Gaps.{GapsIn, Small, instants_fit}
use Rattle.packet_gaps.proofs.Laws.{below_front}
use Rattle.packet_gaps.proofs.Turns.{every_weaker}

-- ---- check 16

-- sound gaps have instants that fit
pub sound-instants : (b : Bounds) (gs : List Gap) → b.clock ≤ largest → every? (gap_sound b) gs ≡ true → every? instants_fit gs ≡ true
unfolding gap_sound instants_fit
sound-instants b gs c e = every_weaker (gap_sound b) instants_fit one gs e
  where
    one : (g : Gap) → gap_sound b g ≡ true → instants_fit g ≡ true
    one g f =
        let u : Bool = under b.highest g.number in
        let p : Bool = not_passed b.passed g.number in
        let d : Bool = leb g.detected b.clock in
        let a : Bool = leb g.nacked_at b.clock in
        let x : (d && a) ≡ true = and_right p (d && a) (and_right u (p && (d && a)) f) in
        let hd = leb-true g.detected b.clock (and_left d a x) in
        let ha = leb-true g.nacked_at b.clock (and_right d a x) in
        rw (le-leb g.detected largest (omega arith), le-leb g.nacked_at largest (omega arith))

-- ---- NACKs

-- valid settings and an estimate in range give small timings
pub small-timings : (set : Settings) (rtt : Option RtxRtt) → set.initial_nack_delay ≤ longest → set.default_nack_resend_delay ≤ longest → T (opt_rtt_in_range rtt) → Small (nack_timings set rtt)
unfolding nack_timings
small-timings set rtt i d r = record { initial = omega arith; resend = resend-lt set rtt d r }

-- ---- parts of the list

pub below_parts : (x : ℕ) (gs : List Gap) → ascends (gap_numbers gs) ≡ true
    → (gaps_below x gs ≡ take (length (gaps_below x gs)) gs) × (gaps_from x gs ≡ drop (length (gaps_below x gs)) gs)
below_parts x gs a =
    let r = rank x (gap_numbers gs) in
    let f = below_front x gs a in
    let le : r ≤ length gs = omega (arith, rank-le x (gap_numbers gs), length-map gs (λ (g : Gap). g.number)) in
    let l : length (gaps_below x gs) ≡ r = ap length f.0 ∙ length-take-le r gs le in
    (f.0 ∙ ap (λ (k : ℕ). take k gs) (sym l), f.1 ∙ ap (λ (k : ℕ). drop k gs) (sym l))

pub leading_front : {A : Type 0} (p : A → Bool) (xs : List A) → (leading p xs ≡ take (length (leading p xs)) xs) × (trailing p xs ≡ drop (length (leading p xs)) xs)
unfolding leading trailing
leading_front p [] = (refl, refl)
leading_front {A} p (x ∷ xs) = go (p x) (leading_front p xs)
  where
    go : (b : Bool) → (leading p xs ≡ take (length (leading p xs)) xs) × (trailing p xs ≡ drop (length (leading p xs)) xs)
        → (cond b (x ∷ leading p xs) [] ≡ take (length (cond b (x ∷ leading p xs) [])) (x ∷ xs)) × (cond b (trailing p xs) (x ∷ xs) ≡ drop (length (cond b (x ∷ leading p xs) [])) (x ∷ xs))
    go true ih = (ap (λ (l : List A). x ∷ l) ih.0, ih.1)
    go false ih = (refl, refl)

-- the gaps in the first places
pub gaps_of-take : (s : List ℕ) (n k : ℕ) → k ≤ n → gaps_of s k ≡ take k (gaps_of s n)
unfolding gaps_of blocks
gaps_of-take s n zero h = refl
gaps_of-take s zero (suc k) h = absurd (omega arith)
gaps_of-take s (suc n) (suc k) h = ap (λ (l : List Gap). gap_of_words (take gap_words s) ∷ l) (gaps_of-take (drop gap_words s) n k (omega arith))

-- ---- from one call to the next

-- a slice in which a list was laid down holds it
module _ (cap n : ℕ) (gs : List Gap) (s : List ℕ) (e : s ≡ laid gap_words_of cap gs) (l : length gs ≡ n) (h : gap_words * n ≤ cap) where
  pub laid-is : gaps_of s n ≡ gs
  unfolding gaps_of records_of
  laid-is = ap (λ (x : List ℕ). gaps_of x n) e ∙ records_laid gap_coded cap n gs l

  pub laid-length : length s ≡ cap
  laid-length = holds-length (gaps-held e l h)

  pub laid_in : GapsIn s n
  laid_in = record { room = omega (arith, laid-length); held = rw (laid-length, laid-is) e }
