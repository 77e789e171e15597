-- `blanks`: the blanks passed are those that the definition drops.
use Rattle.std.proofs.Common.{◌∙◌, eqb, rules, tests}
use Rattle.std.proofs.lemmas.Iterator.{YieldsList-from_slice}
use Rattle.std.proofs.lemmas.Iterator.Consumers.{count_from_yields_List}
use Rattle.std.proofs.lemmas.Iterator.Search.{YieldsList-from_take_while}
use Rattle.std.proofs.lemmas.List.Folds.{length-prefix_len}
use Rattle.columns.proofs.Reading.{blanks_dropped}
use Rattle.columns.proofs.blanks.Goals as goal

pub returns : goal.returns
returns c =
    blanks_dropped c.args.field.now _
    (count_from_yields_List c.take_while.result _ c.count.ensures.ran
    (YieldsList-from_take_while _ (λ b. eqb b 32) (YieldsList-from_slice c.args.field.now cc) c.take_while.ensures.closure c.take_while.ensures.done (λ x b q k. search (rules, tests)))
    ∙ length-prefix_len (λ b. eqb b 32) c.args.field.now)
