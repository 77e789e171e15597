-- `goes_out` meets its contract: no entry, or the first, by its timestamp.
use mathlib.Core.Path.{sym, ap, ◌∙◌}
use Prim.Native.Nat.{ℕ}
use lib.ListN.{take}
use Rattle.model.specs.Records.{Entry}
use Rattle.model.specs.Poll.{ready_in, ready}
use Rattle.model.specs.Storage.{payload_bytes}
use Rattle.poll.proofs.Fronts.{hands_none, hands_first}
use Rattle.poll.proofs.goes_out.Goals as goal

pub returns-then-q-eq0 : goal.returns-then-q-eq0
returns-then-q-eq0 c =
    let q = c.args.q.now in
    hands_none c.args.instant q.session.queue q.entries.now q.payloads.now q.session.entries c.if-q-eq0.true

pub returns : goal.returns
returns c =
    let q = c.args.q.now in
    let s = q.session.queue in
    c.ready.ensures
    ∙ ap (λ (d : ℕ). ready_in s.config.settings.mode s.config.settings.clock_rate d s.last c.args.instant c.read-first.result.timestamp.0) c.requires.delay_value
    ∙ ap (λ (e : Entry). ready s c.args.instant e.timestamp) (sym (c.read-first.ensures (take payload_bytes q.payloads.now)))
    ∙ sym (hands_first c.args.instant s q.entries.now q.payloads.now q.session.entries c.if-q-eq0.false)
