-- `model::stays_sound` meets its contract: what it ensures is proved in SoundCalls.
use Rattle.model.proofs.SoundCalls.{stays-sound}
use Rattle.model.proofs.stays_sound.Goals as goal

pub returns : goal.returns
returns c = stays-sound
