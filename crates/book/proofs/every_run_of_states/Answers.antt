-- `book::every_run_of_states` meets its contract: what it ensures is proved in States.
use Rattle.book.proofs.States.{every_run_of_states}
use Rattle.book.proofs.every_run_of_states.Goals as goal

pub returns : goal.returns
returns c = every_run_of_states
