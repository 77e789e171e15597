-- `remember` meets its contract: without RTX the list stays as it is held.
use mathlib.Core.Path.{sym}
use Rattle.model.specs.Rules.{remembered_after}
use Rattle.model.proofs.Laid.{length-remembered_of}
use Rattle.poll.proofs.remember.Goals as goal

pub returns-else-q : goal.returns-else-q
unfolding remembered_after
returns-else-q c =
    rw c.if-q.false record { value = sym (length-remembered_of c.args.remembered.now c.args.n); remembered_after = c.requires.remembered_in.held }
