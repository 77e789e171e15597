-- Refusal 14 value by value: the first value past the largest turns the call back.
use mathlib.Core.Path.{◌≡◌, refl, sym, ◌∙◌}
use mathlib.Core.Bool.{Bool, true, false, cond, ◌||◌}
use mathlib.Core.List.{List, [], ◌∷◌}
use Prim.Native.Nat.{ℕ, ◌≤◌, ◌<◌}
use lib.Dec.{ltb, eqb}
use borrow.Author.Tests.{lt-ltb, le-ltb}
use Rattle.durations.specs.Seconds.{largest}
use Rattle.refusals.specs.declared.Refusal.{Refusal}
use Rattle.refusals.specs.Refusals.{COUNT, number, refuse_if, or_else}
use Rattle.refusals.proofs.Laws.{or_else_second, or_else_refused}
use Rattle.model.specs.Lists.{some?}
use Rattle.model.specs.Table.{count_refusal}

pub count_none : 0 ≡ count_refusal []
unfolding count_refusal some? refuse_if
count_none = refl

pub count_here : (v : ℕ) (vs : List ℕ) → largest < v → COUNT ≡ count_refusal (v ∷ vs)
unfolding count_refusal some? refuse_if
count_here v vs h = rw (lt-ltb largest v h)

pub count_past : (v : ℕ) (vs : List ℕ) → v ≤ largest → count_refusal vs ≡ count_refusal (v ∷ vs)
unfolding count_refusal some?
count_past v vs h = rw (le-ltb largest v h)

-- a value that was tested alone: it refuses the call, or leaves it to the values after it
module _ (v : ℕ) (vs : List ℕ) where
  by_first : count_refusal (v ∷ vs) ≡ or_else (count_refusal (v ∷ [])) (count_refusal vs)
  unfolding count_refusal some? refuse_if or_else
  by_first = go (ltb largest v)
    where
      go : (b : Bool) → cond (b || some? (ltb largest) vs) COUNT 0 ≡ cond (eqb (cond (b || false) COUNT 0) 0) (cond (some? (ltb largest) vs) COUNT 0) (cond (b || false) COUNT 0)
      go true = refl
      go false = refl

  pub count_refused : (e : Refusal) → number e ≡ count_refusal (v ∷ []) → number e ≡ count_refusal (v ∷ vs)
  count_refused e h = or_else_refused e (count_refusal vs) h ∙ sym by_first

  pub count_passed : 0 ≡ count_refusal (v ∷ []) → count_refusal vs ≡ count_refusal (v ∷ vs)
  count_passed h = sym (by_first ∙ or_else_second _ (count_refusal vs) (sym h))

-- two values that were tested before the others
module _ (v w : ℕ) (vs : List ℕ) where
  by_pair : count_refusal (v ∷ w ∷ vs) ≡ or_else (count_refusal (v ∷ w ∷ [])) (count_refusal vs)
  unfolding count_refusal some? refuse_if or_else
  by_pair = go (ltb largest v) (ltb largest w)
    where
      go : (a b : Bool) → cond (a || (b || some? (ltb largest) vs)) COUNT 0 ≡ cond (eqb (cond (a || (b || false)) COUNT 0) 0) (cond (some? (ltb largest) vs) COUNT 0) (cond (a || (b || false)) COUNT 0)
      go true b = refl
      go false true = refl
      go false false = refl

  pub pair_refused : (e : Refusal) → number e ≡ count_refusal (v ∷ w ∷ []) → number e ≡ count_refusal (v ∷ w ∷ vs)
  pair_refused e h = or_else_refused e (count_refusal vs) h ∙ sym by_pair

  pub pair_passed : 0 ≡ count_refusal (v ∷ w ∷ []) → count_refusal vs ≡ count_refusal (v ∷ w ∷ vs)
  pair_passed h = sym (by_pair ∙ or_else_second _ (count_refusal vs) (sym h))

-- ---- what the checks have to know

pub ruleset counts = (count_none, count_here, count_past, count_refused, count_passed, pair_refused, pair_passed)
