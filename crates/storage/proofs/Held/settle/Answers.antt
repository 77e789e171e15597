-- `settle` meets its contract: each list is laid out as it was read.
use Rattle.model.specs.Storage.{parse}
use Rattle.storage.proofs.Settled.{checked, settled}
use Rattle.storage.proofs.Held.settle.Goals as goal

pub tidy-requires : goal.tidy-requires
unfolding parse
tidy-requires c = let k = checked _ c.requires in record { n_in_bounds = (k.room.entries, k.room.payloads); n_value = k.payloads }

pub tidy-requires-2 : goal.tidy-requires-2
tidy-requires-2 c = (checked _ c.requires).room.gaps

pub tidy-requires-3 : goal.tidy-requires-3
tidy-requires-3 c = (checked _ c.requires).room.remembered

pub returns-clause-settled : goal.returns-clause-settled
unfolding parse
returns-clause-settled c = settled _ (checked _ c.requires) _ _ _ _ c.tidy.ensures.words_after c.tidy.ensures.bytes_after c.tidy-2.ensures c.tidy-3.ensures
