-- `check_output` meets its contract: the same test.
use borrow.Author.Tests.{lt-ltb, le-ltb}
use native.Mathlib.Omega.{arith}
use Rattle.refusals.specs.Refusals.{refuse_if}
use Rattle.model.specs.Table.{output_refusal}
use Rattle.poll.proofs.check_output.Goals as goal

pub returns-then-room-needed : goal.returns-then-room-needed
unfolding output_refusal refuse_if
returns-then-room-needed c = rw (lt-ltb c.args.room c.args.needed (omega (arith, c.if-room-needed.true)))

pub returns : goal.returns
unfolding output_refusal refuse_if
returns c = rw (le-ltb c.args.room c.args.needed (omega (arith, c.if-room-needed.false)))
