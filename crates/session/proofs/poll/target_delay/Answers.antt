-- `target_delay` meets its contract: the settings' delay at the estimate; a minute at most.
use mathlib.Core.Path.{◌≡◌, sym, ap, ◌∙◌, subst}
use native.Mathlib.Omega.{arith}
use lib.Dec.{T}
use Rattle.rtx_state.specs.RoundTrip.{opt_rtt_in_range}
use Rattle.rtx_state.specs.declared.RtxRtt.{RtxRtt}
use Rattle.std.specs.Prelude.{Option}
use Rattle.config.specs.Delay.{target_delay}
use Rattle.model.specs.Poll.{estimate_of, delay_of}
use Rattle.session.proofs.Bounds.{estimate_in_lem, delay_bound}
use Rattle.session.proofs.poll.target_delay.Goals as goal

pub target_delay-requires : goal.target_delay-requires
target_delay-requires c =
    let q = c.args.q in
    (c.requires.0, c.requires.1, subst (λ (x : Option RtxRtt). T (opt_rtt_in_range x)) (sym c.estimate_of-estimate.ensures) (estimate_in_lem q.config.senders.has_rtx q.rtx.rtt c.requires.2))

pub returns : goal.returns
unfolding delay_of
returns c =
    let q = c.args.q in
    let e : c.target_delay.result ≡ target_delay q.config.settings q.jitter q.loss (estimate_of q) = c.target_delay.ensures ∙ ap (λ (x : Option RtxRtt). target_delay q.config.settings q.jitter q.loss x) c.estimate_of-estimate.ensures in
    (e, omega (arith, e, delay_bound q c.requires.0))
