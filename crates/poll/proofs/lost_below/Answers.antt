-- `lost_below` meets its contract, arm by arm.
use mathlib.Core.Path.{◌≡◌}
use Rattle.config.specs.declared.RtpInboundQueueMode.TheVariants.{Passthrough, SortedQueue}
use Rattle.model.specs.Rules.{lost_below_of}
use Rattle.poll.proofs.lost_below.Goals as goal

pub returns-in-Passthrough : goal.returns-in-Passthrough
unfolding lost_below_of
returns-in-Passthrough c =
    let m : c.args.q.now.session.queue.config.settings.mode ≡ Passthrough = c.in-Passthrough.is in
    rw m

pub returns-in-SortedQueue : goal.returns-in-SortedQueue
unfolding lost_below_of
returns-in-SortedQueue c =
    let m : c.args.q.now.session.queue.config.settings.mode ≡ SortedQueue c.in-SortedQueue.field-0 = c.in-SortedQueue.is in
    rw m c.count_below.ensures
