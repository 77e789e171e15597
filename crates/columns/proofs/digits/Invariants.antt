-- `digits`: what the digits passed make, with those left behind it, is what all of them make.
use mathlib.Core.Path.{◌≡◌}
use lib.ListN.{drop}
use Rattle.std.specs.Prelude.{Some}
use Rattle.columns.specs.Columns.{digits_of}
use Rattle.columns.proofs.digits.Given as goal

abbrev pub invariant-loop-b : goal.invariant-loop-b
invariant-loop-b l = digits_of l.s (Some 0) ≡ digits_of (drop l.b-index l.s) (Some l.value)
