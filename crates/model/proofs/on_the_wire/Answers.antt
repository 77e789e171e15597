-- `model::on_the_wire` meets its contract: what it ensures is proved in OnTheWire.
use Rattle.model.proofs.OnTheWire.{on_the_wire}
use Rattle.model.proofs.on_the_wire.Goals as goal

pub returns : goal.returns
returns c = on_the_wire
