-- `tidy_places`: the loop keeps `Tidying`.
use borrow.Author.Rules.{rules}
use Rattle.entries.proofs.Scan.{tidying_fits, tidying_all}
use Rattle.entries.proofs.check.tidy_places.Goals as goal

pub tidy_place-requires : goal.tidy_place-requires
tidy_place-requires c = let h = tidying_fits c.loop-i.invariant c.loop-i-test.true c.read-e.result c.read-e.ensures in
    search rules

pub returns : goal.returns
returns c = tidying_all c.loop-i.invariant _ c.loop-i-test.false c.tidy.ensures
