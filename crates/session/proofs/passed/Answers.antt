-- `passed` meets its contract: not above what the bounds say is passed.
use mathlib.Core.Path.{ap}
use Rattle.std.proofs.Math.Bool.{not-not}
use Rattle.model.specs.Push.{passed}
use Rattle.model.specs.Valid.{Bounds, bounds_of, not_passed}
use Rattle.session.proofs.passed.Goals as goal

pub returns : goal.returns
unfolding passed bounds_of not_passed
returns c = rw (c.above.ensures, ap (λ (b : Bounds). b.passed) c.bounds_of-bounds.ensures) (not-not _)
