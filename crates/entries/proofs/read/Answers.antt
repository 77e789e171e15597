-- `read`: an entry is made of its four words.
use mathlib.Core.Path.{◌∙◌}
use Rattle.entries.proofs.Laws.{entry-words, arrival_read}
use Rattle.entries.proofs.read.Goals as goal

pub returns : goal.returns
returns c = λ p. entry-words c.args.words.now c.args.i p ∙ rw (arrival_read _ _ c.checked_sub.ensures)
