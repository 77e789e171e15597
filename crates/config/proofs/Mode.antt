-- A mode is what its number and its dynamic part name.
use mathlib.Core.Path.{◌≡◌, refl}
use Rattle.config.specs.declared.RtpInboundStreamSortedQueueMode.TheVariants.{Fixed, Dynamic}
use Rattle.config.specs.declared.RtpInboundQueueMode.{RtpInboundQueueMode}
use Rattle.config.specs.declared.RtpInboundQueueMode.TheVariants.{Passthrough, SortedQueue}
use Rattle.config.specs.Mode.{mode_of, mode_number, dynamic_of}

pub mode-back : (m : RtpInboundQueueMode) → mode_of (mode_number m) (dynamic_of m) ≡ m
unfolding mode_of mode_number dynamic_of
mode-back Passthrough = refl
mode-back (SortedQueue Fixed) = refl
mode-back (SortedQueue (Dynamic d)) = refl
