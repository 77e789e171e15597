-- The loops that only read: what stands at place i, read as g, decides as the laws of turns say.
use mathlib.Core.Path.{◌≡◌, sym, ap, ◌∙◌}
use mathlib.Core.Bool.{Bool, true, false}
use mathlib.Core.List.{List, []}
use Prim.Native.Nat.{ℕ, ◌+◌, ◌*◌, ◌-◌, ◌≤◌, ◌<◌}
use native.Mathlib.Omega.{arith}
use lib.ListN.{length, take, drop, get_or, drop_of_length-le}
use Rattle.words.proofs.Blocked.{first-at}
use Rattle.rtp.specs.Opt.{opt_min}
use Rattle.std.specs.Prelude.{Option, None, Some}
use Rattle.config.specs.declared.NackTimings.{NackTimings}
use Rattle.model.specs.Lists.{keep, leading, some?}
use Rattle.model.specs.Records.{Gap, gap_numbers}
use Rattle.model.specs.Rules.{due_at, due, full, tried}
use Rattle.model.specs.Poll.{nack_timeout_of}
use Rattle.model.specs.Valid.{Bounds, gap_sound}
use Rattle.model.specs.Storage.{gap_words, gap_of_words, gaps_of}
use Rattle.model.proofs.Laid.{length-gaps_of}
use Rattle.packet_gaps.proofs.Laws.{no_gap, gap-numbers, number_at, read_is, read_fits}
use Rattle.packet_gaps.proofs.Turns.{drop_next, some_found, some-other, some_skip, keep-end, leading-none, leading_more, leading_end, Turn, left, left_end}

abbrev pub number_of : Gap → ℕ
number_of g = g.number

-- check 16 from place i on
abbrev pub gaps_left : Bounds → List ℕ → ℕ → ℕ → Bool
gaps_left b s n i = left number_of (gap_sound b) (gaps_of s n) i

-- those that can be NACKed no more, from place i on
abbrev pub full_from : NackTimings → ℕ → List ℕ → ℕ → ℕ → Bool
full_from t now s n i = some? full (keep (due t now) (drop i (gaps_of s n)))

module _ (s : List ℕ) (n i : ℕ) (g : Gap) (e : g ≡ gap_of_words (take gap_words (drop (gap_words * i) s))) (h : i < n) where
  gs : List Gap
  gs = gaps_of s n

  inside : i < length gs
  unfolding gs
  inside = rw length-gaps_of h

  here : g ≡ get_or gs i no_gap
  unfolding gs
  here = read_is s n i g e h

  -- check 16 at place i
  pub scanned : (b : Bounds) {passes : Bool} → passes ≡ gap_sound b g → Turn number_of (gap_sound b) no_gap (gaps_of s n) n i g.number passes
  unfolding gs gap_of_words
  scanned b p = record { count = length-gaps_of s n; inside = h; here = ap number_of here ∙ sym (number_at gs i); tested = p ∙ ap (gap_sound b) here }

  module _ (t : NackTimings) (now : ℕ) where
    pub full_found : due t now g ≡ true → full g ≡ true → full_from t now s n i ≡ true
    unfolding gs
    full_found a f = some_found no_gap gs i inside (due t now) full (ap (due t now) (sym here) ∙ a) (ap full (sym here) ∙ f)

    pub full-other : due t now g ≡ true → full g ≡ false → full_from t now s n i ≡ full_from t now s n (i + 1)
    unfolding gs
    full-other a f = some-other no_gap gs i inside (due t now) full (ap (due t now) (sym here) ∙ a) (ap full (sym here) ∙ f)

    pub full_skip : due t now g ≡ false → full_from t now s n i ≡ full_from t now s n (i + 1)
    unfolding gs
    full_skip a = some_skip no_gap gs i inside (due t now) full (ap (due t now) (sym here) ∙ a)

    timeout_more : nack_timeout_of t now (drop i (gaps_of s n)) ≡ opt_min (Some (due_at t g - now)) (nack_timeout_of t now (drop (i + 1) (gaps_of s n)))
    unfolding gs nack_timeout_of
    timeout_more = ap (nack_timeout_of t now) (drop_next no_gap gs i inside) ∙ ap (λ (x : Gap). opt_min (Some (due_at t x - now)) (nack_timeout_of t now (drop (i + 1) gs))) (sym here)

    pub timeout-step : {r timeout : Option ℕ} {left at : ℕ} (m : ℕ)
        → r ≡ opt_min (Some left) timeout → left ≡ at - now → at ≡ due_at t g → timeout ≡ nack_timeout_of t now (drop m (gaps_of s n)) → i + 1 ≡ m
        → r ≡ nack_timeout_of t now (drop i (gaps_of s n))
    timeout-step m er el ea et em = cc (timeout_more)

  module _ (max : ℕ) where
    pub tried-none : tried max g ≡ false → length (leading (tried max) (drop i (gaps_of s n))) ≡ 0
    unfolding gs
    tried-none a = leading-none no_gap gs i inside (tried max) (ap (tried max) (sym here) ∙ a)

    pub tried_more : tried max g ≡ true → length (leading (tried max) (drop i (gaps_of s n))) ≡ 1 + length (leading (tried max) (drop (i + 1) (gaps_of s n)))
    unfolding gs
    tried_more a = leading_more no_gap gs i inside (tried max) (ap (tried max) (sym here) ∙ a)

-- the number at a place
pub number_word : (s : List ℕ) (n i : ℕ) → i < n → get_or s (gap_words * i) 0 ≡ get_or (gap_numbers (gaps_of s n)) i 0
number_word s n i h = sym (ap (λ (l : List ℕ). get_or l i 0) (gap-numbers s n) ∙ first-at gap_words n s i (omega arith) h)

-- past the last
module _ (s : List ℕ) (n i : ℕ) (h : n ≤ i) where
  pub scan_end : (b : Bounds) → gaps_left b s n i ≡ true
  scan_end b = left_end number_of (gap_sound b) (gaps_of s n) i (omega (arith, length-gaps_of s n))

  pub full-end : (t : NackTimings) (now : ℕ) → full_from t now s n i ≡ false
  full-end t now = keep-end (due t now) full (gaps_of s n) i (omega (arith, length-gaps_of s n))

  pub tried-end : (max : ℕ) → length (leading (tried max) (drop i (gaps_of s n))) ≡ 0
  tried-end max = leading_end (tried max) (gaps_of s n) i (omega (arith, length-gaps_of s n))

  pub timeout-end : (t : NackTimings) (now : ℕ) → None ≡ nack_timeout_of t now (drop i (gaps_of s n))
  unfolding nack_timeout_of
  timeout-end t now = let e : drop i (gaps_of s n) ≡ [] = drop_of_length-le (gaps_of s n) {i = i} (omega (arith, length-gaps_of s n)) in rw e

-- ---- what the loops have to know

pub ruleset filling = (read_fits, full_found, full-other, full_skip, full-end)

pub ruleset timing = (read_fits, timeout-end)

pub ruleset trying = (tried-none, tried_more, tried-end)

pub ruleset sounding = (scan_end)
