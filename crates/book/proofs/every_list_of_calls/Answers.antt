-- `book::every_list_of_calls` meets its contract: what it ensures is proved in Theorem.
use Rattle.book.proofs.Theorem.{every-list_of_calls}
use Rattle.book.proofs.every_list_of_calls.Goals as goal

pub returns : goal.returns
returns c = every-list_of_calls
