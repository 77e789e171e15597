-- `push_each`: before each turn what stands there is the fold of the single calls over the datagrams so far (`Along`).
use Rattle.storage.specs.Held.{held, SameSlices}
use Rattle.burst.proofs.Fold.{Along}
use Rattle.burst.proofs.push_each.Given as goal

abbrev pub invariant-loop-i : goal.invariant-loop-i
invariant-loop-i l =
    Along l.instant l.buffer l.ends l.initial.answers (held l.initial.q) l.standing (held l.q) l.answers l.from l.i
    × SameSlices l.initial.q l.q
