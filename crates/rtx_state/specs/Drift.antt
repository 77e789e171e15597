-- 02, point 5: how far the stored srtt can come from the recurrence that is not cut to whole nanoseconds, after any number of samples.
use Rattle.std.specs.Prelude.{◌≡◌, ℕ, ◌+◌, ◌*◌, ◌^◌, ◌<◌, ◌≤◌, List, [], ◌∷◌, length, Option, None, Some}
use mathlib.Core.List.{foldl}
use Rattle.rtx_state.specs.RoundTrip.{sampled_rtt, srtt_of}

-- "worked as whole numbers over powers of 8": nanoseconds
pub record Ratio : Type 0 where
  pub numerator : ℕ
  pub denominator : ℕ

-- "begun at the first"
abbrev pub begun : ℕ → Ratio
begun r = record { numerator = r; denominator = 1 }

-- "7/8 old + 1/8 sample"
unfoldable pub smoothed : Ratio → ℕ → Ratio
smoothed old r = record { numerator = 7 * old.numerator + old.denominator * r; denominator = 8 * old.denominator }

-- the recurrence on the first sample and the later ones, the oldest first
unfoldable pub recurrence : ℕ → List ℕ → Ratio
recurrence first later = foldl smoothed (begun first) later

-- "less than 14 nanoseconds below"
abbrev pub BOUND : ℕ
BOUND = 14

-- "the stored srtt is never above and less than .. nanoseconds below"
pub record Within (bound srtt : ℕ) (exact : Ratio) : Type 0 where
  pub never_above : srtt * exact.denominator ≤ exact.numerator
  pub less_below : exact.numerator < (srtt + bound) * exact.denominator

-- what may be shown after these samples: no figure as long as there is none, then one that keeps the bound
unfoldable pub Tracks : Option ℕ → List ℕ → Type 0
Tracks None [] = Unit {0}
Tracks None (first ∷ later) = ⊥
Tracks (Some srtt) [] = ⊥
Tracks (Some srtt) (first ∷ later) = Within BOUND srtt (recurrence first later)

-- `sampled_rtt` is what the contract of the update cites.
pub record Drift : Type 0 where
  pub tracks : (samples : List ℕ) → Tracks (srtt_of (foldl sampled_rtt None samples)) samples
  pub power : (first : ℕ) (later : List ℕ) → (recurrence first later).denominator ≡ 8 ^ length later
