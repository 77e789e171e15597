-- `insert`: the words and the payload go in at the rank of the number.
use mathlib.Core.Path.{ap, ◌∙◌}
use mathlib.Core.List.{List}
use Prim.Native.Nat.{◌*◌}
use lib.ListN.{take}
use Rattle.words.specs.Words.{over, inserted}
use Rattle.model.specs.Storage.{payload_bytes_of}
use Rattle.entries.specs.Entries.{entry}
use Rattle.entries.proofs.Laws.{words-inserted, bytes-inserted}
use Rattle.entries.proofs.insert.Goals as goal

pub returns-clause-words_after : goal.returns-clause-words_after
returns-clause-words_after c =
    let w : List _ = c.args.words.now in
    let row = c.words_of-record.ensures c.args.payload.now c.requires.incoming.size in
    c.insert.ensures ∙ ap (λ (q : List _). over (inserted (4 * c.rank_of-k.result) q (take (4 * c.args.n) w)) w) row ∙ words-inserted c.requires.entries_in (entry c.args.e c.args.payload.now) c.rank_of-k.ensures

pub returns-clause-bytes_after : goal.returns-clause-bytes_after
unfolding payload_bytes_of
returns-clause-bytes_after c = c.insert_place.ensures ∙ bytes-inserted c.requires.entries_in (entry c.args.e c.args.payload.now) c.rank_of-k.ensures
