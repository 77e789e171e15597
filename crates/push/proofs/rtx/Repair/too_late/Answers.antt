-- `too_late` meets its contract: the remembered numbers and the repair state, each as `model` says.
use Rattle.storage.proofs.Settled.{holding}
use Rattle.push.proofs.Repaired.{taken-some, late_is}
use Rattle.push.proofs.rtx.Repair.too_late.Goals as goal

pub forget-nacked-requires : goal.forget-nacked-requires
forget-nacked-requires c = (holding _ c.requires).remembered_in

pub left_after-left-requires : goal.left_after-left-requires
left_after-left-requires c = taken-some c.args.self.now _ c.requires _ c.forget-nacked.ensures.value

pub returns-clause-left : goal.returns-clause-left
returns-clause-left c = late_is c.args.self.now _ c.requires _ _ _ _ c.forget-nacked.ensures.value c.too_late-queue.ensures c.left_after-left.ensures c.forget-nacked.ensures.s_after
