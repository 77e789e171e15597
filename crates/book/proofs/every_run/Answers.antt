-- `book::every_run` meets its contract: what it ensures is proved in Theorem.
use Rattle.book.proofs.Theorem.{every_run}
use Rattle.book.proofs.every_run.Goals as goal

pub returns : goal.returns
returns c = every_run
