-- `settings_are_kept`: as the line's numbers are; and each mode's words fit it, as they are computed.
use mathlib.Core.Path.{◌≡◌, refl}
use mathlib.Core.Bool.{true, ◌&&◌, ◌||◌}
use lib.Dec.{eqb, ltb}
use Rattle.config.specs.declared.Settings.{Settings}
use Rattle.config.specs.declared.RtpInboundQueueMode.{RtpInboundQueueMode}
use Rattle.config.specs.declared.RtpInboundQueueMode.TheVariants.{Passthrough, SortedQueue}
use Rattle.config.specs.declared.RtpInboundStreamSortedQueueMode.TheVariants.{Fixed, Dynamic}
use Rattle.config.specs.Mode.{mode_number, no_dynamic, dynamic_of}
use Rattle.settings_line.specs.Fields.{numbers_of, settings_of as settings_in}
use Rattle.settings_line.proofs.Ranges.{settings_back}
use Rattle.settings_words.specs.Words.{settings_of, words_of, mode_fits}
use Rattle.settings_words.proofs.settings_are_kept.Goals as goal

fits : (s : Settings) → mode_fits (words_of s) ≡ true
unfolding mode_fits words_of mode_number dynamic_of no_dynamic
fits s = go s.mode
  where
    go : (m : RtpInboundQueueMode)
        → (let d = dynamic_of m in eqb (mode_number m) 2 || (ltb (mode_number m) 2 && (eqb d.min 0 && (eqb d.max 0 && eqb d.target_recovery 0)))) ≡ true
    go Passthrough = refl
    go (SortedQueue Fixed) = refl
    go (SortedQueue (Dynamic d)) = refl

back : (s : Settings) → settings_of (words_of s) ≡ s
unfolding settings_of words_of settings_in numbers_of
back = settings_back

pub returns : goal.returns
returns c = record { taken = fits; same = back }
