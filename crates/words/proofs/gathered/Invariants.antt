-- `words::gathered` meets its contract: each turn takes one more in.
use Rattle.std.proofs.Common.{◌≡◌, ℕ, ◌<◌, get_or}
use Rattle.words.proofs.gathered.Given as goal

abbrev pub invariant-loop-x : goal.invariant-loop-x
invariant-loop-x g l = l.all ≡ g.T.Element.ZERO → (k : ℕ) → k < l.x-index → get_or l.part k g.T.Element.ZERO ≡ g.T.Element.ZERO
