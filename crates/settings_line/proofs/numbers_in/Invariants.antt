-- `numbers_in`: the numbers stored, with those of the fields that are left, are all of them.
use Rattle.settings_line.proofs.Numbered.{Parting}
use Rattle.settings_line.proofs.numbers_in.Given as goal

abbrev pub invariant-loop-value : goal.invariant-loop-value
invariant-loop-value g l = Parting l.fields g.row.N l.value-items l.value-index l.parts.rest.now l.parts.size
