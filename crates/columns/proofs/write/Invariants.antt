-- `write`: the columns that are filled, with those still to come before them, are the field.
use mathlib.Core.Path.{◌≡◌}
use mathlib.Core.List.{◌++◌}
use lib.ListN.{length, drop}
use Rattle.columns.specs.Columns.{justified}
use Rattle.columns.specs.Filled.{columns_of}
use Rattle.columns.proofs.write.Given as goal

abbrev pub invariant-loop-i : goal.invariant-loop-i
invariant-loop-i l = justified (length l.field) l.n ≡ columns_of l.i l.rest ++ drop l.i l.field
