-- `push_original` meets its contract: turned back under 14 or 13, or applied to the settled storage.
use Rattle.push.specs.declared.rtx.Repair.{Repair}
use Rattle.push.proofs.Repaired.{incoming_repair, fit_repair, fate-refused, fate-accepted}
use Rattle.push.proofs.Pushing.{passed, readable}
use Rattle.storage.proofs.Settled.{checked}
use Rattle.storage.specs.Held.{held}
use Rattle.model.specs.Storage.{parse}
use Rattle.model.specs.Push.{repair_fate}
use Rattle.push.proofs.rtx.push_original.Goals as goal

pub repair_fate-fate-requires : goal.repair_fate-fate-requires
repair_fate-fate-requires c =
    let k = readable _ c.requires.sound in
    record { n_in_bounds = k.room; n_value = k.ascend }

pub check_fate-requires : goal.check_fate-requires
unfolding parse
check_fate-requires c = (checked (held c.args.q.now) c.requires.sound).usable.entries

pub returns-in_err-check_fate-clause-does : goal.returns-in_err-check_fate-clause-does
unfolding repair_fate parse
returns-in_err-check_fate-clause-does c =
    let e = c.extended_entry-e in
    let r : Repair = record { instant = c.args.instant; entry = e.result; payload = c.args.payload } in
    rw (passed c.from_residual.result _ c.from_residual.ensures.1, ← e.ensures.by_index c.args.payload.now)
    (fate-refused r _ (held c.args.q.now) c.repair_fate-fate.ensures e.ensures.size_value.0 _ c.in_err-check_fate.ensures)

pub apply-requires : goal.apply-requires
unfolding repair_fate parse
apply-requires c =
    let e = c.extended_entry-e.ensures in
    let i = incoming_repair c.extended_entry-e.result c.args.payload.now e.size_value.0 e.size_value.1 c.requires.payload_len_bound in
    fit_repair _ _ (held c.args.q.now) c.repair_fate-fate.ensures e.size_value.0 _ c.requires.sound c.settle.ensures.settled c.in_ok-check_fate.ensures i

pub returns-clause-does : goal.returns-clause-does
unfolding repair_fate parse
returns-clause-does c =
    let e = c.extended_entry-e in
    let r : Repair = record { instant = c.args.instant; entry = e.result; payload = c.args.payload } in
    rw (← e.ensures.by_index c.args.payload.now)
    (fate-accepted r _ (held c.args.q.now) c.repair_fate-fate.ensures e.ensures.size_value.0
    _ _ c.requires.sound c.settle.ensures.settled c.in_ok-check_fate.ensures c.apply.ensures.left)
