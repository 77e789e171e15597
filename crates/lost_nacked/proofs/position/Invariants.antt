-- `position`: those before place i are of other numbers than x, and those from it on decide.
use mathlib.Core.Path.{◌≡◌}
use Prim.Native.Nat.{◌+◌}
use lib.ListN.{length, drop}
use Rattle.model.specs.Lists.{leading}
use Rattle.model.specs.Storage.{remembered_of}
use Rattle.lost_nacked.specs.Remembered.{another}
use Rattle.lost_nacked.proofs.position.Given as goal

abbrev pub invariant-loop-i : goal.invariant-loop-i
invariant-loop-i l = length (leading (another l.x.0) (remembered_of l.s l.n)) ≡ l.i + length (leading (another l.x.0) (drop l.i (remembered_of l.s l.n)))
