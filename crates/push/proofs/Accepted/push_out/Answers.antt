-- `push_out` meets its contract: an entry, the gaps and the queue's own records, each as `model` says.
use Rattle.storage.proofs.Settled.{holding}
use Rattle.push.proofs.Queueing.{counters_fit, opens, opened_in, opened-ascend, still_fits, pushed_out_packet}
use mathlib.Core.List.{[]}
use Rattle.push.proofs.Accepted.push_out.Goals as goal

pub queued-queued-requires : goal.queued-queued-requires
queued-queued-requires c = let w = c.requires.waiting in counters_fit _ _ w.fit w.queued

pub push_out-front-requires : goal.push_out-front-requires
push_out-front-requires c =
    let r = holding _ c.requires.waiting.fit.settled in
    record { entries_in = r.entries_in; n_value = r.entries-ascend; incoming = c.requires.waiting.fit.incoming }

pub gaps_after-open-requires : goal.gaps_after-open-requires
gaps_after-open-requires c =
    let o = opens _ _ c.requires.waiting.fit c.requires.waiting.queued in
    record { gaps_in = o.0; n_value = o.1; takes = o.2 }

pub gaps_from-left-requires : goal.gaps_from-left-requires
gaps_from-left-requires c =
    let w = c.requires.waiting in
    let g = c.gaps_after-open.ensures in
    record { gaps_in = opened_in _ _ w.fit w.queued _ _ g.value g.gaps_after; n_value = opened-ascend _ _ w.fit w.queued _ _ g.value g.gaps_after }

pub pushed_out-queue-requires : goal.pushed_out-queue-requires
pushed_out-queue-requires c =
    let w = c.requires.waiting in
    let g = c.gaps_after-open.ensures in
    still_fits _ _ w.fit w.queued c.requires.full _ c.args.q.now.session.now.queue _ 0 0 _ [] [] [] (rw c.received.ensures at c.queued-queued.ensures) g.value g.gaps_after

pub returns-clause-placed : goal.returns-clause-placed
returns-clause-placed c =
    let w = c.requires.waiting in
    let g = c.gaps_after-open.ensures in
    let i = c.push_out-front.ensures in
    let d = c.gaps_from-left.ensures in
    pushed_out_packet _ _ w.fit w.queued c.requires.full _ _ _ _ _ _ _ _ _ (rw c.received.ensures at c.queued-queued.ensures) g.value g.gaps_after c.pushed_out-queue.ensures i.result_value i.words_after i.bytes_after d.value d.gaps_after
