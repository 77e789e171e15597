use Rattle.hex.specs.Hex.{lower_digits}
use Rattle.replay.proofs.LookUps.{side_by_side}
use Rattle.replay.proofs.digits.both_digits.Goals as goal

pub returns : goal.returns
returns c = rw (c.first_digits.ensures, c.second_digits.ensures) (side_by_side lower_digits c.args.bytes c.fits-bytes.0)
