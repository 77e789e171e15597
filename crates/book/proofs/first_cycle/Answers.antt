-- `book::first_cycle` meets its contract: what it ensures is proved in Begun.
use Rattle.book.proofs.Begun.{first_cycle_lem}
use Rattle.book.proofs.first_cycle.Goals as goal

pub returns : goal.returns
returns c = first_cycle_lem
