-- The mode by its number, in traces and at the boundary.
use Rattle.std.specs.Prelude.{cond, ℕ, eqb}
use Rattle.config.specs.declared.RtpInboundStreamDynamicConfig.{RtpInboundStreamDynamicConfig}
use Rattle.config.specs.declared.RtpInboundStreamSortedQueueMode.TheVariants.{Fixed, Dynamic}
use Rattle.config.specs.declared.RtpInboundQueueMode.{RtpInboundQueueMode}
use Rattle.config.specs.declared.RtpInboundQueueMode.TheVariants.{Passthrough, SortedQueue}

-- "mode (0 `Passthrough`, 1 `Fixed`, 2 `Dynamic`)", with what a `Dynamic` has
unfoldable pub mode_of : ℕ → RtpInboundStreamDynamicConfig → RtpInboundQueueMode
mode_of number d = cond (eqb number 0) Passthrough (SortedQueue (cond (eqb number 1) Fixed (Dynamic d)))

unfoldable pub mode_number : RtpInboundQueueMode → ℕ
mode_number Passthrough = 0
mode_number (SortedQueue Fixed) = 1
mode_number (SortedQueue (Dynamic d)) = 2

unfoldable pub no_dynamic : RtpInboundStreamDynamicConfig
no_dynamic = record { min = 0; max = 0; target_recovery = 0 }

-- zeros outside mode 2, where there is none
unfoldable pub dynamic_of : RtpInboundQueueMode → RtpInboundStreamDynamicConfig
dynamic_of Passthrough = no_dynamic
dynamic_of (SortedQueue Fixed) = no_dynamic
dynamic_of (SortedQueue (Dynamic d)) = d
