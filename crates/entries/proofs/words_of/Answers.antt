-- `words_of`: a word each.
use Rattle.entries.proofs.Laws.{row_words}
use Rattle.entries.proofs.words_of.Goals as goal

pub returns : goal.returns
returns c = λ p s. row_words c.args.e p _ _ s c.arrival_word.ensures c.from.ensures
