-- `write_numbers`: field i is that of number i.
use mathlib.Core.Path.{◌≡◌}
use lib.ListN.{take}
use Rattle.words.specs.Words.{over}
use Rattle.settings_line.specs.Line.{fields}
use Rattle.settings_line.proofs.write_numbers.Given as goal

abbrev pub invariant-loop-i : goal.invariant-loop-i
invariant-loop-i l = l.out ≡ over (fields (take l.i l.numbers)) l.initial.out
