-- 15: what is left of the ends decides, and what they say of the next datagram.
use mathlib.Core.Path.{◌≡◌, refl, sym, ◌∙◌}
use mathlib.Core.Bool.{Bool, true, false, ◌&&◌, not}
use mathlib.Core.List.{List, [], ◌∷◌}
use Prim.Native.Nat.{ℕ, ◌+◌, ◌≤◌, ◌<◌}
use native.Mathlib.Omega.{arith}
use native.Mathlib.Numerals.{add-one}
use lib.Dec.{leb}
use lib.ListN.{length, drop, get_or, length-drop}
use lib.Seq.{drop-cons}
use borrow.Author.Tests.{lt-leb, le-leb, leb-true}
use Rattle.words.proofs.Ordered.{and_left, and_right}
use Rattle.refusals.specs.Refusals.{OUTPUT, refuse_if}
use Rattle.burst.specs.Burst.{ends_fit, burst_refusal}

module _ (bytes from : ℕ) (ends : List ℕ) (i : ℕ) (h : i < length ends) where
  abbrev end : ℕ
  end = get_or ends i 0

  pub ends_next : ends_fit bytes from (drop i ends) ≡ (leb from end && (leb end bytes && ends_fit bytes end (drop (i + 1) ends)))
  unfolding ends_fit
  ends_next = rw (add-one i, drop-cons ends i 0 h)

  pub falls : end < from → ends_fit bytes from (drop i ends) ≡ false
  falls k = ends_next ∙ rw (lt-leb from end k)

  pub passes : from ≤ end → bytes < end → ends_fit bytes from (drop i ends) ≡ false
  passes k b = ends_next ∙ rw (le-leb from end k, lt-leb end bytes b)

  pub goes_on : from ≤ end → end ≤ bytes → ends_fit bytes from (drop i ends) ≡ ends_fit bytes end (drop (i + 1) ends)
  goes_on k b = ends_next ∙ rw (le-leb from end k, le-leb end bytes b)

  pub end_in : ends_fit bytes from (drop i ends) ≡ true → (from ≤ end) × (end ≤ bytes) × (ends_fit bytes end (drop (i + 1) ends) ≡ true)
  end_in e =
      let all = sym ends_next ∙ e in
      let more = and_right (leb from end) (leb end bytes && ends_fit bytes end (drop (i + 1) ends)) all in (
        leb-true _ _ (and_left (leb from end) (leb end bytes && ends_fit bytes end (drop (i + 1) ends)) all),
        leb-true _ _ (and_left (leb end bytes) (ends_fit bytes end (drop (i + 1) ends)) more),
        and_right (leb end bytes) (ends_fit bytes end (drop (i + 1) ends)) more,
      )

pub ends_over : (bytes from : ℕ) (ends : List ℕ) (i : ℕ) → length ends ≤ i → ends_fit bytes from (drop i ends) ≡ true
unfolding ends_fit
ends_over bytes from ends i h = none (drop i ends) (omega (arith, length-drop i ends))
  where
    none : (l : List ℕ) → length l ≤ 0 → ends_fit bytes from l ≡ true
    none [] e = refl
    none (x ∷ xs) e = absurd (omega arith)

-- what the check of `ends_fit` needs
pub ruleset ending = (falls, passes, goes_on, ends_over)

-- ---- 15 for the whole call

module _ (bytes : ℕ) (ends : List ℕ) (places : ℕ) where
  pub no_ends : ends_fit bytes 0 ends ≡ false → OUTPUT ≡ burst_refusal bytes ends places
  unfolding burst_refusal refuse_if
  no_ends e = rw e

  pub no_places : ends_fit bytes 0 ends ≡ true → places < length ends → OUTPUT ≡ burst_refusal bytes ends places
  unfolding burst_refusal refuse_if
  no_places e h = rw (e, lt-leb (length ends) places h)

  pub none_refused : ends_fit bytes 0 ends ≡ true → length ends ≤ places → 0 ≡ burst_refusal bytes ends places
  unfolding burst_refusal refuse_if
  none_refused e h = rw (e, le-leb (length ends) places h)

  -- a call that 15 does not catch
  pub fit_of : burst_refusal bytes ends places ≡ 0 → (ends_fit bytes 0 ends ≡ true) × (length ends ≤ places)
  unfolding burst_refusal refuse_if
  fit_of z = go (ends_fit bytes 0 ends) (leb (length ends) places) refl refl z
    where
      go : (a b : Bool) → ends_fit bytes 0 ends ≡ a → leb (length ends) places ≡ b → refuse_if (not (a && b)) OUTPUT ≡ 0 → (ends_fit bytes 0 ends ≡ true) × (length ends ≤ places)
      go true true p q e = (p, leb-true _ _ q)
      go true false p q e = absurd (omega arith)
      go false b p q e = absurd (omega arith)
