-- `receive_timeout` meets its contract: where there is an entry, the front one decides.
use mathlib.Core.Path.{◌≡◌, ap, subst}
use mathlib.Core.List.{[]}
use Prim.Native.Nat.{ℕ, ◌≤◌}
use native.Mathlib.Omega.{arith}
use Rattle.durations.specs.Seconds.{largest}
use Rattle.config.specs.declared.RtpInboundQueueMode.TheVariants.{Passthrough, SortedQueue}
use Rattle.config.proofs.Facts.{usable}
use Rattle.model.specs.Records.{Entry}
use Rattle.model.specs.Poll.{delay_of}
use Rattle.model.specs.Storage.{parse}
use Rattle.queue.proofs.Unchanged.{empty-timeout, waiting-timeout, front_timeout}
use Rattle.queue.proofs.reading.receive_timeout.Goals as goal

pub returns-then-session-eq0 : goal.returns-then-session-eq0
unfolding parse
returns-then-session-eq0 c =
    let m = c.args.q.now in
    let q = m.session.queue in
    empty-timeout q.config.settings.mode q.config.settings.clock_rate (delay_of q) q.last m.entries.now m.payloads.now m.session.entries c.args.now c.if-session-eq0.true

pub until_front-requires : goal.until_front-requires
until_front-requires c =
    let q = c.args.q.now.session.queue in
    let t = ap (λ (x : Entry). x.timestamp) (c.read-front.ensures []) in
    let u = usable q.config.settings c.requires.sound.0 in
    (u.rate-some, c.target_delay-delay.ensures.1, c.requires.sound.1, subst (λ (x : ℕ). x ≤ largest) t (c.requires.front_fits (omega (arith, c.if-session-eq0.false)) []), c.requires.sound.2)

pub returns-in-Passthrough : goal.returns-in-Passthrough
unfolding parse
returns-in-Passthrough c =
    let m = c.args.q.now in
    let q = m.session.queue in
    let e : q.config.settings.mode ≡ Passthrough = c.in-Passthrough.is in
    waiting-timeout q.config.settings.mode q.config.settings.clock_rate (delay_of q) q.last m.entries.now m.payloads.now m.session.entries c.args.now c.if-session-eq0.false e

pub returns-in-SortedQueue : goal.returns-in-SortedQueue
unfolding parse
returns-in-SortedQueue c =
    let m = c.args.q.now in
    let q = m.session.queue in
    let e : q.config.settings.mode ≡ SortedQueue c.in-SortedQueue.field-0 = c.in-SortedQueue.is in
    rw (← c.target_delay-delay.ensures.0) (front_timeout q.config.settings.mode q.config.settings.clock_rate c.target_delay-delay.result q.last m.entries.now m.payloads.now m.session.entries c.args.now c.if-session-eq0.false c.in-SortedQueue.field-0 e c.read-front.result.timestamp.0 _ (λ p. ap (λ (x : Entry). x.timestamp) (c.read-front.ensures p)) (c.until_front.ensures c.in-SortedQueue.field-0))
