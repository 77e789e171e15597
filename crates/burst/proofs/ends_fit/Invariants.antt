-- `ends_fit`: the ends from the place on that the loop has come to decide.
use mathlib.Core.Path.{◌≡◌}
use lib.ListN.{drop}
use Rattle.burst.specs.Burst.{ends_fit}
use Rattle.burst.proofs.ends_fit.Given as goal

abbrev pub invariant-loop-end : goal.invariant-loop-end
invariant-loop-end l = ends_fit l.bytes 0 l.ends ≡ ends_fit l.bytes l.from (drop l.end-index l.ends)
