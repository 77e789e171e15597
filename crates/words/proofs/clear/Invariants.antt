-- `words::clear` meets its contract: each turn writes one zero more.
use Rattle.std.proofs.Common.{◌≡◌, ℕ, ◌<◌, get_or}
use Rattle.words.proofs.clear.Given as goal

abbrev pub invariant-loop-x : goal.invariant-loop-x
invariant-loop-x g l = (k : ℕ) → k < l.x-index → get_or l.part k g.T.Element.ZERO ≡ g.T.Element.ZERO
