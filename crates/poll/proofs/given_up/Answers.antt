-- `given_up` meets its contract, arm by arm.
use mathlib.Core.Path.{◌≡◌}
use Rattle.config.specs.declared.RtpInboundQueueMode.TheVariants.{Passthrough, SortedQueue}
use Rattle.model.specs.Rules.{given_up_in}
use Rattle.poll.proofs.given_up.Goals as goal

pub returns-in-Passthrough : goal.returns-in-Passthrough
unfolding given_up_in
returns-in-Passthrough c =
    let m : c.args.q.now.session.queue.config.settings.mode ≡ Passthrough = c.in-Passthrough.is in
    rw m c.count_lost.ensures

pub returns-in-SortedQueue : goal.returns-in-SortedQueue
unfolding given_up_in
returns-in-SortedQueue c =
    let m : c.args.q.now.session.queue.config.settings.mode ≡ SortedQueue c.in-SortedQueue.field-0 = c.in-SortedQueue.is in
    rw m
