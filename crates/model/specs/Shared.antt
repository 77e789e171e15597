-- The rules that queue and book share (Rules.antt), held to 01's own numbers without the one or the other: a wrong rule would be wrong in both, and
-- demand 3 would not notice.
use Rattle.std.specs.Prelude.{◌≡◌, Bool, true, List, [], ◌∷◌, ◌++◌, map, ℕ, suc, ◌+◌, ◌-◌, ◌≤◌, ◌<◌, T, leb, ltb, length, Some}
use Rattle.config.specs.declared.RtpInboundStreamSortedQueueMode.{RtpInboundStreamSortedQueueMode}
use Rattle.config.specs.declared.RtpInboundQueueMode.TheVariants.{Passthrough, SortedQueue}
use Rattle.config.specs.declared.Settings.{Settings}
use Rattle.model.specs.Lists.{following, keep, every?}
use Rattle.model.specs.Records.{Gap, Remembered, gap_numbers}
use Rattle.model.specs.Rules.{place_of, gaps_after, given_up_in, not_given_up_in, lost_below_of, left_from_of, once, remember, remembered_after}

-- 01's numbers, said again: Rules.antt has its own
abbrev pub longest_step : ℕ
longest_step = 1000

abbrev pub most_remembered : ℕ
most_remembered = 1024

-- A media packet comes s above the highest number h, while the gaps l are open.
module _ (now h s : ℕ) (l : List Gap) where
  -- the gaps after it
  abbrev pub stepped : List Gap
  stepped = gaps_after now (h + s) (place_of (Some h) l (h + s)) l

  pub record Stepped : Type 0 where
    -- "A forward step s of at most 1,000 opens s − 1 gaps": 999 at 1,000
    pub opens : 1 ≤ s → s ≤ longest_step → gap_numbers stepped ≡ gap_numbers l ++ following (suc h) (s - 1)
    pub so_many : 1 ≤ s → s ≤ longest_step → length stepped ≡ length l + (s - 1)
    -- "a larger one clears every gap and opens none": from 1,001 on
    pub clears : longest_step < s → stepped ≡ []

pub record SharedRules : Type 0 where
  pub step : (now h s : ℕ) (l : List Gap) → Stepped now h s l
  -- "Gaps below the one handed out become lost", those below w and no other, in sorted mode alone
  pub lost_below : (sorted : RtpInboundStreamSortedQueueMode) (w : ℕ) (l : List Gap) → T (every? (λ (g : Gap). ltb g.number w) (lost_below_of (SortedQueue sorted) w l))
  pub left_from : (sorted : RtpInboundStreamSortedQueueMode) (w : ℕ) (l : List Gap) → T (every? (λ (g : Gap). leb w g.number) (left_from_of (SortedQueue sorted) w l))
  pub none_below : (w : ℕ) (l : List Gap) → (lost_below_of Passthrough w l ≡ []) × (left_from_of Passthrough w l ≡ l)
  -- "In `Passthrough`, the leading gaps NACKed at least max times become lost", up to the first that was NACKed fewer times, there alone
  pub given_up : (set : Settings) (l : List Gap) → T (every? (λ (g : Gap). leb set.max_nack_attempts g.nacks) (given_up_in Passthrough set l))
  pub first_left : (set : Settings) (l : List Gap) (g : Gap) (gs : List Gap) → not_given_up_in Passthrough set l ≡ g ∷ gs → g.nacks < set.max_nack_attempts
  pub in_two : (set : Settings) (l : List Gap) → given_up_in Passthrough set l ++ not_given_up_in Passthrough set l ≡ l
  pub none_given_up : (sorted : RtpInboundStreamSortedQueueMode) (set : Settings) (l : List Gap) → (given_up_in (SortedQueue sorted) set l ≡ []) × (not_given_up_in (SortedQueue sorted) set l ≡ l)
  -- "up to 1,024 lost numbers NACKed just once are remembered": each, while there is room, and never more
  pub remembered : (rtx : Bool) (lost : List Gap) (l : List Remembered) → length l ≤ most_remembered → length (remembered_after rtx lost l) ≤ most_remembered
  pub all_remembered : (lost : List Gap) (l : List Remembered) → length l + length (keep once lost) ≤ most_remembered
      → remembered_after true lost l ≡ l ++ map remember (keep once lost)
