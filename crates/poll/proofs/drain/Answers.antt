-- `drain` meets its contract: the gaps given up are the first ones.
use Rattle.storage.specs.Held.{held}
use Rattle.poll.proofs.Parted.{drained-is, dropped-is}
use Rattle.poll.proofs.Drained.{drain_fits, drained-written}
use Rattle.poll.proofs.drain.Goals as goal

pub drained-queue-requires : goal.drained-queue-requires
drained-queue-requires c = (drain_fits c.args.instant _ c.requires.settled _ c.requires.given_value).0

pub drain-requires : goal.drain-requires
drain-requires c = let d = drain_fits c.args.instant _ c.requires.settled _ c.requires.given_value in record { gaps_in = d.1; k_le_n = d.2 }

pub overflow_sub-q : goal.overflow_sub-q
overflow_sub-q c = (drain_fits c.args.instant _ c.requires.settled _ c.requires.given_value).2

pub returns-clause-drained : goal.returns-clause-drained
returns-clause-drained c =
    let m = held c.args.q.now in
    let now = c.args.instant in
    rw (drained-is now m _ c.requires.given_value _ c.drained-queue.ensures, c.drain.ensures, dropped-is now m _ c.requires.given_value) (drained-written now m c.requires.settled)
