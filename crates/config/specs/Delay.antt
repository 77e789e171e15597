-- 003's `target_delay`, operation by operation, with 02's number of attempts (02, point 7). All numbers are nanoseconds.
use Rattle.std.specs.Prelude.{cond, max, ℕ, ◌*◌, ltb, Float, Option, None, Some}
use Rattle.std.specs.Float.{binary64}
use Rattle.std.specs.Float.Ieee.{of_bits, mul}
use Rattle.durations.specs.Seconds.{as_secs_f64, nanos_from_secs}
use Rattle.jitter.specs.Interarrival.{jitter_get}
use Rattle.jitter.specs.declared.Jitter.{Jitter}
use Rattle.packet_loss.specs.declared.PacketLoss.{PacketLoss}
use Rattle.rtx_state.specs.RoundTrip.{nack_resend_delay}
use Rattle.rtx_state.specs.declared.RtxRtt.{RtxRtt}
use Rattle.nack_attempts.specs.Attempts.{loss_of, attempts_of}
use Rattle.config.specs.declared.RtpInboundStreamDynamicConfig.{RtpInboundStreamDynamicConfig}
use Rattle.config.specs.declared.RtpInboundStreamSortedQueueMode.TheVariants.{Fixed, Dynamic}
use Rattle.config.specs.declared.RtpInboundQueueMode.{RtpInboundQueueMode}
use Rattle.config.specs.declared.RtpInboundQueueMode.TheVariants.{Passthrough, SortedQueue}
use Rattle.config.specs.declared.Settings.{Settings}

-- `Ord::clamp`
unfoldable pub clamp : ℕ → ℕ → ℕ → ℕ
clamp low high n = cond (ltb n low) low (cond (ltb high n) high n)

-- 2.5 as an `f64`
abbrev pub five_halves : Float
five_halves = of_bits binary64 0x4004_0000_0000_0000

-- `Duration::from_secs_f64(jitter.get().as_secs_f64() * 2.5)`
unfoldable pub jitter_delay : Jitter → ℕ
jitter_delay j = nanos_from_secs (mul binary64 (as_secs_f64 (jitter_get j)) five_halves)

-- `rtx_rtt.nack_resend_delay() * max_nack_attempts`, and `nack_delay * 2`, with 02's n; 02, point 6's floor is in the resend delay
unfoldable pub nack_delay : (target most : ℕ) → PacketLoss → RtxRtt → ℕ
nack_delay target most p e = nack_resend_delay e * attempts_of (loss_of p.loss) target most * 2

-- `if let Some(rtx_rtt)`: `delay.max(nack_delay * 2)`
unfoldable pub with_repairs : (target most : ℕ) → PacketLoss → Option RtxRtt → ℕ → ℕ
with_repairs target most p None delay = delay
with_repairs target most p (Some e) delay = max delay (nack_delay target most p e)

-- `delay.clamp(config.min, config.max)`
unfoldable pub dynamic_delay : RtpInboundStreamDynamicConfig → (most : ℕ) → Jitter → PacketLoss → Option RtxRtt → ℕ
dynamic_delay d most j p rtt = clamp d.min d.max (with_repairs d.target_recovery most p rtt (jitter_delay j))

-- how long a packet is kept: not at all, for the setting, or by jitter, loss and the round trip estimate, if there is one
unfoldable pub delay_in : RtpInboundQueueMode → Settings → Jitter → PacketLoss → Option RtxRtt → ℕ
delay_in Passthrough s j p rtt = 0
delay_in (SortedQueue Fixed) s j p rtt = s.delay
delay_in (SortedQueue (Dynamic d)) s j p rtt = dynamic_delay d s.max_nack_attempts j p rtt

abbrev pub target_delay : Settings → Jitter → PacketLoss → Option RtxRtt → ℕ
target_delay s j p rtt = delay_in s.mode s j p rtt
