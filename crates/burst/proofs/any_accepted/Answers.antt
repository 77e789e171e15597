-- `any_accepted`: the search is that of the definition, over the first n answers.
use mathlib.Core.Path.{◌∙◌}
use borrow.Author.Rules.{rules}
use borrow.Author.Tests.{tests}
use Rattle.std.proofs.lemmas.Iterator.{YieldsList-from_slice, YieldsList-from_take}
use Rattle.std.proofs.lemmas.Iterator.Search.{any_from_yields_List}
use Rattle.burst.specs.Burst.{is_accepted}
use Rattle.burst.proofs.Accepted.{some-is}
use Rattle.burst.proofs.any_accepted.Goals as goal

pub returns : goal.returns
unfolding is_accepted
returns c =
    any_from_yields_List is_accepted _ _ _ c.any.ensures.ran (YieldsList-from_take c.args.n (YieldsList-from_slice c.args.answers.now (cc)) (cc)) (λ x b q k. search (rules, tests))
    ∙ some-is is_accepted _
