-- `model::flipped_across` meets its contract: what it ensures is proved in Across.
use Rattle.model.proofs.Across.{flipped_across}
use Rattle.model.proofs.flipped_across.Goals as goal

pub returns : goal.returns
returns c = flipped_across
