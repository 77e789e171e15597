-- `count_lost`: the gaps before place i were tried, and those from it on decide.
use mathlib.Core.Path.{◌≡◌}
use Prim.Native.Nat.{◌+◌}
use lib.ListN.{length, drop}
use Rattle.model.specs.Lists.{leading}
use Rattle.model.specs.Rules.{tried}
use Rattle.model.specs.Storage.{gaps_of}
use Rattle.packet_gaps.proofs.nacks.count_lost.Given as goal

abbrev pub invariant-loop-i : goal.invariant-loop-i
invariant-loop-i l = length (leading (tried l.max) (gaps_of l.s l.n)) ≡ l.i + length (leading (tried l.max) (drop l.i (gaps_of l.s l.n)))
