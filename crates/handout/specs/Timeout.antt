-- 000's `timeout_receive` of a sorted queue that is not empty, and 01, "Hand-out".
use Rattle.std.specs.Prelude.{cond, ℕ, ◌+◌, ◌-◌, ◌^◌, pos, leb, Float}
use Rattle.std.specs.Float.{binary64}
use Rattle.std.specs.Float.Ieee.{of_int, sub, div, lt}
use Rattle.durations.specs.Seconds.{zero64, nearest_nanos}

-- from the earliest timestamp to the last, in seconds; 0 where that is not above zero
unfoldable pub behind : ℕ → ℕ → ℕ → Float
behind last_timestamp earliest rate =
    let delta = sub binary64 (of_int binary64 (pos last_timestamp)) (of_int binary64 (pos earliest)) in
    div binary64 (cond (lt zero64 delta) delta zero64) (of_int binary64 (pos rate))

-- last instant - delta + delay - now, or 0 where that is below 0; "answers 0 once its delta passes 2^53 ns"
unfoldable pub remaining_of : ℕ → ℕ → ℕ → ℕ → ℕ
remaining_of last_instant delta delay now = cond (leb delta (2 ^ 53)) ((last_instant + delay) - (delta + now)) 0

unfoldable pub timeout_receive : ℕ → ℕ → ℕ → ℕ → ℕ → ℕ → ℕ
unfolding nearest_nanos behind remaining_of
timeout_receive last_instant last_timestamp earliest rate delay now = remaining_of last_instant (nearest_nanos (behind last_timestamp earliest rate)) delay now
