-- `delta_in_rtp_timesteps`: the product is below 2 ^ 52 in size, so its bits can be cut.
use mathlib.Core.Path.{◌≡◌, sym, ap, ◌∙◌, subst}
use lib.IntN.{pos}
use lib.Ieee.{Float, binary64, of_int, mul}
use mir.Syntax.{w64}
use mir.ValLaws.{to_z-of_z}
use Rattle.durations.specs.Seconds.{signed_seconds}
use Rattle.handout.specs.Bits.{Below52}
use Rattle.handout.proofs.Signed.{below_52}
use Rattle.handout.proofs.delta_in_rtp_timesteps.Goals as goal

pub truncated-requires : goal.truncated-requires
truncated-requires c =
    let seconds : c.signed_seconds.result ≡ signed_seconds c.args.delta = c.signed_seconds.ensures ∙ ap signed_seconds (to_z-of_z w64 c.args.delta c.ranges.delta) in
    subst (λ (y : Float). Below52 (mul binary64 y (of_int binary64 (pos c.args.clock_rate)))) (sym seconds) (below_52 c.args.delta c.args.clock_rate c.requires.0 c.requires.1)
