-- What is claimed of the delay beside the contracts.
use Rattle.std.specs.Prelude.{◌≡◌, ℕ, ◌≤◌, ◌<◌, ◌^◌, T, Option, None}
use Rattle.std.specs.Float.{binary64}
use Rattle.std.specs.Float.Ieee.{mul, le}
use Rattle.durations.specs.Seconds.{as_secs_f64, nearest_nanos}
use Rattle.jitter.specs.Interarrival.{jitter_get, jitter_in_range}
use Rattle.jitter.specs.declared.Jitter.{Jitter}
use Rattle.packet_loss.specs.Loss.{loss_in_range}
use Rattle.packet_loss.specs.declared.PacketLoss.{PacketLoss}
use Rattle.rtx_state.specs.declared.RtxRtt.{RtxRtt}
use Rattle.config.specs.declared.RtpInboundStreamDynamicConfig.{RtpInboundStreamDynamicConfig}
use Rattle.config.specs.declared.RtpInboundStreamSortedQueueMode.TheVariants.{Dynamic}
use Rattle.config.specs.declared.RtpInboundQueueMode.TheVariants.{SortedQueue}
use Rattle.config.specs.declared.Settings.{Settings}
use Rattle.config.specs.Valid.{settings_valid}
use Rattle.config.specs.Delay.{five_halves, jitter_delay, target_delay}

pub record DelayLaws : Type 0 where
  -- never below min nor above max
  pub within :
      (s : Settings) (d : RtpInboundStreamDynamicConfig) (j : Jitter) (p : PacketLoss) (rtt : Option RtxRtt)
      → s.mode ≡ SortedQueue (Dynamic d) → T (settings_valid s) → (d.min ≤ target_delay s j p rtt) × (target_delay s j p rtt ≤ d.max)
  -- for equal jitter and estimate no less for more loss
  pub grows :
      (s : Settings) (j : Jitter) (p q : PacketLoss) (rtt : Option RtxRtt)
      → T (settings_valid s) → T (loss_in_range p) → T (loss_in_range q) → T (le p.loss q.loss) → target_delay s j p rtt ≤ target_delay s j q rtt
  -- without an estimate by the settings and the jitter alone
  pub jitter_alone : (s : Settings) (j : Jitter) (p q : PacketLoss) → target_delay s j p None ≡ target_delay s j q None

-- in a session that check 16 passes no float is refused: what the jitter asks for is the nearest nanosecond
abbrev pub NeverRefused : Type 0
NeverRefused = (rate : ℕ) (j : Jitter) → 1 ≤ rate → rate < 2 ^ 32 → T (jitter_in_range rate j) → jitter_delay j ≡ nearest_nanos (mul binary64 (as_secs_f64 (jitter_get j)) five_halves)
