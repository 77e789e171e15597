-- `timeout_nacks`: it is the timeout of the gaps from place i on.
use mathlib.Core.Path.{◌≡◌}
use lib.ListN.{drop}
use Rattle.model.specs.Poll.{nack_timeout_of}
use Rattle.model.specs.Storage.{gaps_of}
use Rattle.packet_gaps.proofs.nacks.timeout_nacks.Given as goal

abbrev pub invariant-loop-i : goal.invariant-loop-i
invariant-loop-i l = l.timeout ≡ nack_timeout_of l.t l.now (drop l.i (gaps_of l.s l.n))
