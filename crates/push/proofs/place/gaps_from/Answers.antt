-- `gaps_from` meets its contract: the gaps below x stand at the front.
use Rattle.push.proofs.Placing.{from_is, below-few, length_from}
use Rattle.model.specs.Storage.{gap_words_of, gaps_of}
use Rattle.words.specs.Blocks.{laid}
use lib.ListN.{length, drop}
use Prim.Native.Nat.{ℕ}
use native.Mathlib.Omega.{arith}
use mathlib.Core.Path.{sym, ap, ◌∙◌}
use Rattle.push.proofs.place.gaps_from.Goals as goal

pub drain-requires : goal.drain-requires
drain-requires c = record { gaps_in = c.requires.gaps_in; k_le_n = omega (arith, c.count_below-k.ensures, below-few c.args.gaps.now c.args.n c.args.x.0 c.requires.n_value) }

pub overflow_sub-result : goal.overflow_sub-result
overflow_sub-result c = omega (arith, c.count_below-k.ensures, below-few c.args.gaps.now c.args.n c.args.x.0 c.requires.n_value)

pub returns : goal.returns
returns c = let k = c.count_below-k.ensures in record { value = omega (arith, k, length_from c.args.gaps.now c.args.n c.args.x.0 c.requires.n_value); gaps_after = c.drain.ensures ∙ ap (laid gap_words_of (length c.args.gaps.now)) (ap (λ (i : ℕ). drop i (gaps_of c.args.gaps.now c.args.n)) k ∙ sym (from_is c.args.gaps.now c.args.n c.args.x.0 c.requires.n_value)) }
