-- `push_next` meets its contract: refused under 16, or one of the two calls on what the session stands as.
use mathlib.Core.Path.{sym}
use Rattle.refusals.specs.declared.Refusal.TheVariants as Refusal
use Rattle.storage.specs.Held.{held}
use Rattle.push.proofs.Pushing.{push_damaged}
use Rattle.burst.specs.Standing.{Stands}
use Rattle.burst.proofs.Steps.{stands_as, sound_next, settled_next}
use borrow.Author.Rules.{rules}
use Rattle.burst.proofs.push_next.Goals as goal

pub push_checked-answer-requires : goal.push_checked-answer-requires
unfolding Stands
push_checked-answer-requires c = rw c.in-Sound.is at c.requires

pub push_settled-answer-requires : goal.push_settled-answer-requires
unfolding Stands
push_settled-answer-requires c = rw c.in-Settled.is at c.requires

pub returns-in-Damaged : goal.returns-in-Damaged
unfolding Stands
returns-in-Damaged c =
    let h = rw c.in-Damaged.is at c.requires in
    record { same_slices = search rules; does = push_damaged c.args.instant c.args.datagram.now (held c.args.q.now) Refusal.Session (sym h); stands = c.requires }

pub returns-in-Sound : goal.returns-in-Sound
unfolding Stands
returns-in-Sound c =
    let r = c.push_checked-answer.ensures in
    record { same_slices = r.same_slices; does = r.does; stands = stands_as _ _ _ c.after_sound-standing.ensures (sound_next _ _ _ _ _ r.does (rw c.in-Sound.is at c.requires)) }

pub returns-in-Settled : goal.returns-in-Settled
unfolding Stands
returns-in-Settled c =
    let r = c.push_settled-answer.ensures in
    record { same_slices = r.same_slices; does = r.does; stands = stands_as _ _ _ c.in-Settled.is (settled_next _ _ _ _ _ r.does (rw c.in-Settled.is at c.requires)) }
