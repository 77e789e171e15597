-- `grow` meets its contract.
use Rattle.nack_attempts.proofs.Bits.{loss-grows}
use Rattle.nack_attempts.proofs.Powers.{attempts_grow}
use Rattle.nack_attempts.proofs.grow.Goals as goal

pub returns : goal.returns
returns c = record { loss = loss-grows; attempts = attempts_grow }
