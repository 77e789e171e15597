-- `insert` meets its contract: an entry, the gaps and the queue's own records, each as `model` says.
use Rattle.storage.proofs.Settled.{holding}
use Rattle.push.proofs.Queueing.{counters_fit, opens, inserted-packet}
use native.Mathlib.Omega.{arith}
use Rattle.push.proofs.Accepted.insert.Goals as goal

pub queued-queue-requires : goal.queued-queue-requires
queued-queue-requires c = let w = c.requires.waiting in counters_fit _ _ w.fit w.queued

pub insert-requires : goal.insert-requires
insert-requires c =
    let r = holding _ c.requires.waiting.fit.settled in
    record { entries_in = r.entries_in; n_value = r.entries-ascend; n_in_bounds = (omega (arith, r.lengths.entries, c.requires.below, r.checked.usable), omega (arith, r.lengths.payloads, c.requires.below)); incoming = c.requires.waiting.fit.incoming }

pub gaps_after-open-requires : goal.gaps_after-open-requires
gaps_after-open-requires c =
    let o = opens _ _ c.requires.waiting.fit c.requires.waiting.queued in
    record { gaps_in = o.0; n_value = o.1; takes = o.2 }

pub overflow_add-q : goal.overflow_add-q
overflow_add-q c = omega (arith, (holding _ c.requires.waiting.fit.settled).entries_in.room)

pub returns-clause-placed : goal.returns-clause-placed
returns-clause-placed c =
    let w = c.requires.waiting in
    let g = c.gaps_after-open.ensures in
    let i = c.insert.ensures in
    inserted-packet _ _ w.fit w.queued _ _ _ (rw c.received.ensures at c.queued-queue.ensures) g.value g.gaps_after c.requires.below _ _ i.words_after i.bytes_after
