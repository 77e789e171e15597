-- `push_out`: the words and the payload go in before the rank of the number, those between move down; or nothing moves.
use mathlib.Core.Path.{ap, ◌∙◌}
use mathlib.Core.List.{List}
use Prim.Native.Nat.{◌*◌}
use native.Mathlib.Omega.{arith}
use lib.ListN.{length, drop}
use Rattle.words.specs.Words.{inserted}
use Rattle.model.specs.Storage.{entry_words_of, payload_bytes_of}
use Rattle.entries.specs.Entries.{entry}
use Rattle.entries.proofs.Laws.{words_replaced, bytes_replaced, first_out, row-place}
use Rattle.entries.proofs.push_out.Goals as goal

pub returns-clause-words_after : goal.returns-clause-words_after
unfolding entry_words_of
returns-clause-words_after c =
    let w : List _ = c.args.words.now in
    let row = c.words_of-record.ensures c.args.payload.now c.requires.incoming.size in
    c.replace_first.ensures ∙ ap (λ (q : List _). drop (length q) (inserted (4 * c.rank_of-k.result) q w)) row ∙ words_replaced c.requires.entries_in (entry c.args.e c.args.payload.now) c.rank_of-k.ensures (omega arith)

pub returns-clause-result_value : goal.returns-clause-result_value
returns-clause-result_value c = first_out c.requires.entries_in (entry c.args.e c.args.payload.now) c.rank_of-k.ensures (omega arith)

pub returns-clause-bytes_after : goal.returns-clause-bytes_after
unfolding payload_bytes_of
returns-clause-bytes_after c = c.replace_first_place.ensures ∙ bytes_replaced c.requires.entries_in (entry c.args.e c.args.payload.now) c.rank_of-k.ensures (omega arith) (row-place c.args.e c.args.payload.now c.requires.incoming)
