-- `are_sound`: those from place i on decide.
use mathlib.Core.Path.{◌≡◌}
use lib.ListN.{drop}
use Rattle.model.specs.Lists.{every?}
use Rattle.model.specs.Storage.{remembered_of}
use Rattle.model.specs.Valid.{remembered_sound}
use Rattle.lost_nacked.proofs.are_sound.Given as goal

abbrev pub invariant-loop-i : goal.invariant-loop-i
invariant-loop-i l = every? (remembered_sound l.clock) (remembered_of l.s l.n) ≡ every? (remembered_sound l.clock) (drop l.i (remembered_of l.s l.n))
