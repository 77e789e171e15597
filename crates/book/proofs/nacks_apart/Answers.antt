-- `book::nacks_apart` meets its contract: what it ensures is proved in Asked.
use Rattle.book.proofs.Asked.{nacks-apart}
use Rattle.book.proofs.nacks_apart.Goals as goal

pub returns : goal.returns
returns c = nacks-apart
