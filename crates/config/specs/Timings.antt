-- 003; 01, "Gap" and "Repair state": the delays before a gap is NACKed, first and again, in nanoseconds.
use Rattle.std.specs.Prelude.{ℕ, Option, None, Some}
use Rattle.rtx_state.specs.RoundTrip.{nack_resend_delay}
use Rattle.rtx_state.specs.declared.RtxRtt.{RtxRtt}
use Rattle.config.specs.declared.Settings.{Settings}
use Rattle.config.specs.declared.NackTimings.{NackTimings}

-- that of the round trip estimate, or the setting where there is none yet
unfoldable pub resend_delay_of : Settings → Option RtxRtt → ℕ
unfolding nack_resend_delay
resend_delay_of s None = s.default_nack_resend_delay
resend_delay_of s (Some e) = nack_resend_delay e

unfoldable pub nack_timings : Settings → Option RtxRtt → NackTimings
unfolding resend_delay_of
nack_timings s rtt = record { initial = s.initial_nack_delay; resend = resend_delay_of s rtt }
