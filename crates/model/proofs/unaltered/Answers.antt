-- `unaltered`: a refusal that is not 0 takes the other branch of `did` and `opened`.
use borrow.Author.Tests.{ne_eqb}
use Rattle.model.specs.Table.{refusal, opening_refusal}
use Rattle.model.specs.Did.{turned_back, did, opened}
use Rattle.model.specs.Unaltered.{Unaltered}
use Rattle.model.proofs.unaltered.Goals as goal

unaltered : Unaltered
unfolding turned_back did opened
unaltered = record {
  calls = λ c m h. rw (ne_eqb (refusal c m) 0 h);
  opening = λ c t h. rw (ne_eqb (opening_refusal c t) 0 h);
}

pub returns : goal.returns
returns c = unaltered
