-- How refusals follow each other: a number that is not 0 stands, and 0 means that every check passed. Each law is a case of the one test.
use mathlib.Core.Path.{◌≡◌, refl}
use mathlib.Core.Bool.{Bool, true, false, cond}
use Prim.Native.Nat.{ℕ, ◌<◌}
use native.Mathlib.Omega.{arith}
use lib.Dec.{eqb}
use borrow.Author.Tests.{eq-eqb, ne_eqb, eqb-true, eqb-false}
use Rattle.std.specs.Prelude.{Result, Ok, Err, IsErrAnd}
use Rattle.std.proofs.lemmas.Result.{err_from_is_err_and}
use Rattle.refusals.specs.declared.Refusal.{Refusal}
use Rattle.refusals.specs.Refusals.{number, refusal_of, numbered, refuse_if, or_else}

pub or_else_second : (a b : ℕ) → a ≡ 0 → or_else a b ≡ b
unfolding or_else
or_else_second a b h = rw (eq-eqb a 0 h)

pub or_else-first : (a b : ℕ) → (a ≡ 0 → ⊥) → or_else a b ≡ a
unfolding or_else
or_else-first a b h = rw (ne_eqb a 0 h)

pub or_else-none : (a b : ℕ) → or_else a b ≡ 0 → (a ≡ 0) × (b ≡ 0)
unfolding or_else
or_else-none a b = by_test (eqb a 0) refl
  where
    by_test : (t : Bool) → eqb a 0 ≡ t → cond t b a ≡ 0 → (a ≡ 0) × (b ≡ 0)
    by_test true e h = (eqb-true a 0 e, h)
    by_test false e h = absurd (eqb-false a 0 e h)

-- the last check of a chain that did not refuse, k being its number
pub passes-last : (t : Bool) (k : ℕ) → 0 < k → refuse_if t k ≡ 0 → t ≡ false
unfolding refuse_if
passes-last true k h e = absurd (omega arith)
passes-last false k h e = refl

-- one before it, r being the rest of the chain
pub passes : (t : Bool) (k r : ℕ) → 0 < k → or_else (refuse_if t k) r ≡ 0 → (t ≡ false) × (r ≡ 0)
passes t k r h e = let n = or_else-none (refuse_if t k) r e in (passes-last t k h n.0, n.1)

-- the number of a refusal is not 0
pub number_refuses : (e : Refusal) → eqb (number e) 0 ≡ false
number_refuses Refusal.Settings = refl
number_refuses Refusal.Truncated = refl
number_refuses Refusal.Version = refl
number_refuses Refusal.Padding = refl
number_refuses Refusal.PayloadTooLarge = refl
number_refuses Refusal.PayloadType = refl
number_refuses Refusal.Ssrc = refl
number_refuses Refusal.Clock = refl
number_refuses Refusal.NoRtx = refl
number_refuses Refusal.NoMedia = refl
number_refuses Refusal.NoOriginalNumber = refl
number_refuses Refusal.GapsFull = refl
number_refuses Refusal.EntriesFull = refl
number_refuses Refusal.Count = refl
number_refuses Refusal.Output = refl
number_refuses Refusal.Session = refl
number_refuses Refusal.NackEntries = refl
number_refuses Refusal.SettingsLine = refl
number_refuses Refusal.LineVersion = refl

pub number-nonzero : (e : Refusal) → number e ≡ 0 → ⊥
number-nonzero e = eqb-false (number e) 0 (number_refuses e)

-- ---- a refusal that `?` passes on keeps its number
module _ {A : Type 0} (r : Result A Refusal) (e : Refusal) (h : IsErrAnd r (λ x. x ≡ e)) where
  pub passed_on : numbered r ≡ Err (number e)
  passed_on = let p = err_from_is_err_and r h in rw (p.1, p.2) refl

  pub passed-number : refusal_of r ≡ number e
  passed-number = let p = err_from_is_err_and r h in rw (p.1, p.2) refl

-- ---- a value or the number of a refusal, as the definitions have it: by the number, 0 being none
pub refused_unless : {A : Type 0} (a : A) (e : Refusal) {k : ℕ} → number e ≡ k → Err (number e) ≡ cond (eqb k 0) (Ok a) (Err k)
refused_unless a e h = rw (← h, number_refuses e) refl

pub accepted_unless : {A : Type 0} (a : A) {k : ℕ} → 0 ≡ k → Ok a ≡ cond (eqb k 0) (Ok a) (Err k)
accepted_unless a h = rw (← h) refl

-- a refusal of the first check is that of both
pub or_else_refused : (e : Refusal) (r : ℕ) {k : ℕ} → number e ≡ k → number e ≡ or_else k r
unfolding or_else
or_else_refused e r h = rw (← h, number_refuses e) refl
