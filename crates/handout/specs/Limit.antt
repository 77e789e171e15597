-- 01, "Hand-out", and 000's `map_instant_to_rtp_timestamp`: the limit up to which a sorted queue hands out.
use Rattle.std.specs.Prelude.{ℕ, ℤ, pos, negsuc, ◌+ℤ◌, ◌-ℤ◌, Option, None, Some}
use Rattle.std.specs.Float.{binary64}
use Rattle.std.specs.Float.Ieee.{of_int, mul, to_signed}
use Rattle.durations.specs.Seconds.{signed_seconds}

-- "in seconds times the clock rate, truncated toward zero to a signed 64-bit number"
unfoldable pub delta_in_rtp_timesteps : ℤ → ℕ → ℤ
unfolding signed_seconds
delta_in_rtp_timesteps delta rate = to_signed 63 (mul binary64 (signed_seconds delta) (of_int binary64 (pos rate)))

-- "a negative limit hands out nothing"
unfoldable pub as_timestamp : ℤ → Option ℕ
as_timestamp (pos n) = Some n
as_timestamp (negsuc n) = None

unfoldable pub map_instant_to_rtp_timestamp : ℕ → ℕ → ℕ → ℤ → Option ℕ
unfolding delta_in_rtp_timesteps as_timestamp
map_instant_to_rtp_timestamp ref_instant ref_timestamp rate instant = as_timestamp (pos ref_timestamp +ℤ delta_in_rtp_timesteps (instant -ℤ pos ref_instant) rate)

-- "the last timestamp plus (now − delay − last instant)"
unfoldable pub max_timestamp : ℕ → ℕ → ℕ → ℕ → ℕ → Option ℕ
unfolding map_instant_to_rtp_timestamp
max_timestamp last_instant last_timestamp rate delay now = map_instant_to_rtp_timestamp last_instant last_timestamp rate (pos now -ℤ pos delay)
