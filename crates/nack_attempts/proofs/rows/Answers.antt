-- `rows` meets its contract: each row is computed.
use mathlib.Core.Path.{refl}
use lib.Ieee.{of_bits}
use Rattle.nack_attempts.specs.Attempts.{least_from, loss_of, attempts_of}
use Rattle.nack_attempts.specs.Claims.{hold, hold_losses}
use Rattle.nack_attempts.proofs.rows.Goals as goal

pub returns : goal.returns
unfolding of_bits least_from loss_of attempts_of hold hold_losses
returns c = record { attempts = refl; losses = refl }
