-- `effect_at` meets its contract: what `poll` does, counted part by part.
use mathlib.Core.Path.{sym, ap, ◌∙◌}
use mathlib.Core.List.{[], ◌∷◌}
use Prim.Native.Nat.{◌≤◌}
use native.Mathlib.Omega.{arith}
use lib.ListN.{take}
use Rattle.model.specs.Records.{Entry}
use Rattle.model.specs.Storage.{payload_bytes, parse}
use Rattle.storage.specs.Held.{held}
use Rattle.poll.proofs.Fronts.{hands_held, first-is}
use Rattle.poll.proofs.Losing.{due-none, due-some}
use Rattle.poll.proofs.effect_at.Goals as goal

pub read-first-requires : goal.read-first-requires
read-first-requires c =
    let some = hands_held c.args.instant (held c.args.q.now) (sym c.goes_out.ensures ∙ c.if-goes_out.true) in
    let n : 1 ≤ c.args.q.now.session.entries = omega arith in
    omega (arith, c.requires.entries_room)

pub returns-then-goes_out : goal.returns-then-goes_out
unfolding parse
returns-then-goes_out c =
    let q = c.args.q.now in
    let out = sym c.goes_out.ensures ∙ c.if-goes_out.true in
    let first =
    first-is q.entries.now q.payloads.now q.session.entries (hands_held c.args.instant (held q) out) ∙ ap (λ (e : Entry). e ∷ []) (c.read-first.ensures (take payload_bytes q.payloads.now)) in
    due-some c.args.instant (parse (held q)) _ _ _ _ c.given_up-given.ensures c.target_delay-delay.ensures.0 out first c.lost_below.ensures

pub returns-else-goes_out : goal.returns-else-goes_out
unfolding parse
returns-else-goes_out c =
    due-none c.args.instant (parse (held c.args.q.now)) _ _ c.given_up-given.ensures c.target_delay-delay.ensures.0 (sym c.goes_out.ensures ∙ c.if-goes_out.false)
