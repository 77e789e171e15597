-- `model::flipped_bit` meets its contract: what it ensures is proved in Flipped.
use Rattle.model.proofs.Flipped.{flipped-bit}
use Rattle.model.proofs.flipped_bit.Goals as goal

pub returns : goal.returns
returns c = flipped-bit
