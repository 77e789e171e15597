-- 01's table, refusal 1: the settings and senders that the opening takes.
use Rattle.std.specs.Prelude.{Bool, true, ◌&&◌, ℕ, leb}
use Rattle.config.specs.declared.RtpInboundStreamDynamicConfig.{RtpInboundStreamDynamicConfig}
use Rattle.config.specs.declared.RtpInboundStreamSortedQueueMode.TheVariants.{Fixed, Dynamic}
use Rattle.config.specs.declared.RtpInboundQueueMode.{RtpInboundQueueMode}
use Rattle.config.specs.declared.RtpInboundQueueMode.TheVariants.{Passthrough, SortedQueue}
use Rattle.config.specs.declared.Settings.{Settings}
use Rattle.config.specs.declared.Senders.{Senders}

abbrev pub within : ℕ → ℕ → ℕ → Bool
within low high n = leb low n && leb n high

-- a minute, in nanoseconds
abbrev pub longest : ℕ
longest = 60000000000

abbrev pub depth_valid : ℕ → Bool
depth_valid depth = within 1 1024 depth

abbrev pub gaps_valid : ℕ → Bool
gaps_valid gaps = within 999 4096 gaps

-- "max attempts outside 1 to 255"; 02, point 7: "Max attempts is 1 to 4 in this mode"
unfoldable pub most_attempts : RtpInboundQueueMode → ℕ
most_attempts Passthrough = 255
most_attempts (SortedQueue Fixed) = 255
most_attempts (SortedQueue (Dynamic d)) = 4

-- 02, point 7: "t over 9,999 and a shortest delay min above the longest delay max"; "a duration over 60,000,000,000"
unfoldable pub dynamic_valid : RtpInboundStreamDynamicConfig → Bool
dynamic_valid d = leb d.min d.max && leb d.max longest && leb d.target_recovery 9999

-- what a mode has of its own
unfoldable pub mode_valid : RtpInboundQueueMode → Bool
mode_valid Passthrough = true
mode_valid (SortedQueue Fixed) = true
mode_valid (SortedQueue (Dynamic d)) = dynamic_valid d

-- "clock rate outside 1 to 1,000,000; D outside 1 to 1,024; G outside 999 to 4,096; a duration over 60,000,000,000; max attempts", and a mode's own
unfoldable pub settings_valid : Settings → Bool
settings_valid s =
    within 1 1000000 s.clock_rate
    && depth_valid s.max_entries
    && gaps_valid s.max_gaps
    && leb s.delay longest
    && leb s.initial_nack_delay longest
    && leb s.default_nack_resend_delay longest
    && within 1 (most_attempts s.mode) s.max_nack_attempts
    && mode_valid s.mode

-- "a payload type over 127"
unfoldable pub senders_valid : Senders → Bool
senders_valid s = leb s.pt 127 && leb s.rtx_pt 127
