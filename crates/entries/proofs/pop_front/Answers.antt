-- `pop_front`: the first entry is read, its payload copied out, and its words and its place go.
use mathlib.Core.Path.{sym, ap, ◌∙◌}
use mathlib.Core.List.{List}
use native.Mathlib.Omega.{arith}
use lib.ListN.{length-take}
use Rattle.words.specs.Words.{over}
use Rattle.model.specs.Records.{Entry}
use Rattle.model.specs.Calls.{payload_out}
use Rattle.entries.proofs.Laws.{front_fits, front_there, front_is}
use Rattle.entries.proofs.pop_front.Goals as goal

pub slice_bounds-copy-end : goal.slice_bounds-copy-end
slice_bounds-copy-end c = front_there c.requires.entries_in c.requires.n_nonzero.0 c.read-e.result c.read-e.ensures

pub slice_bounds-copy-end-2 : goal.slice_bounds-copy-end-2
slice_bounds-copy-end-2 c = omega (arith, front_there c.requires.entries_in c.requires.n_nonzero.0 c.read-e.result c.read-e.ensures, length-take c.read-e.result.size c.args.bytes.now)

pub copy-requires : goal.copy-requires
copy-requires c = omega (arith, front_fits c.requires.entries_in c.requires.n_nonzero.0 c.read-e.result c.read-e.ensures, length-take c.read-e.result.size c.args.bytes.now)

pub returns-clause-size_bound : goal.returns-clause-size_bound
returns-clause-size_bound c = front_fits c.requires.entries_in c.requires.n_nonzero.0 c.read-e.result c.read-e.ensures

pub returns-clause-n_value : goal.returns-clause-n_value
returns-clause-n_value c = front_is c.requires.entries_in c.requires.n_nonzero.0 c.read-e.result c.read-e.ensures

pub returns-clause-out_after : goal.returns-clause-out_after
unfolding payload_out
returns-clause-out_after c =
    let f = front_is c.requires.entries_in c.requires.n_nonzero.0 c.read-e.result c.read-e.ensures in
    c.copy.ensures ∙ ap (λ (l : List Entry). over (payload_out l) c.args.out.now) (sym f)
