-- `hand_out` meets its contract: the first entry goes, and what stands below it.
use mathlib.Core.Path.{◌≡◌, ap, ◌∙◌}
use lib.ListN.{length}
use mathlib.Core.List.{List}
use Rattle.model.specs.Records.{Entry}
use Rattle.model.specs.Rules.{lost_below_of}
use Rattle.model.specs.Poll.{lost_under}
use Rattle.model.specs.Calls.{handed, packet}
use Rattle.storage.specs.Held.{held}
use Rattle.poll.specs.Steps.{gaps_in}
use Rattle.poll.proofs.Handed.{payload-size, handed_leaves}
use Rattle.poll.proofs.hand_out.Goals as goal

pub returns-clause-leaves : goal.returns-clause-leaves
unfolding lost_under
returns-clause-leaves c =
    let m = held c.args.q.now in
    let h = c.requires.handing in
    let p = c.pop_front-e.ensures in
    let kept = c.remember-remembered.ensures in
    let mode = m.session.queue.config.settings.mode in
    let below : c.args.lost ≡ length (lost_below_of mode c.pop_front-e.result.number.0 (gaps_in m)) = h.lost_are ∙ ap (λ (l : List Entry). length (lost_under mode l (gaps_in m))) p.n_value in
    handed_leaves m h.ascend c.pop_front-e.result _ p.n_value c.args.lost below _ _ _ _ _ _ c.handed_out.ensures kept.value p.words_after p.bytes_after c.drain.ensures kept.remembered_after

pub returns-clause-answer_value : goal.returns-clause-answer_value
unfolding handed
returns-clause-answer_value c =
    let q = c.args.q.now in
    let h = c.requires.handing in
    let size = payload-size c.pop_front-e.result.size q.payloads.now q.session.entries h.entries_held.places h.some c.pop_front-e.ensures.size_bound in
    rw c.pop_front-e.ensures.n_value (ap packet (c.packet.ensures _ size))
