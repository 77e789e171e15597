-- `packet_gaps::remove` meets its contract: the gap of a number stands at its rank, and its words go.
use mathlib.Core.Path.{sym, ap, ◌∙◌}
use native.Mathlib.Omega.{arith}
use lib.ListN.{length}
use Rattle.words.specs.Blocks.{laid}
use Rattle.model.specs.Rules.{nacked_once, once_of}
use Rattle.model.specs.Storage.{gap_words_of}
use Rattle.packet_gaps.proofs.Laws.{found_in, found_is, without_is, gap_at, gaps_cut}
use Rattle.packet_gaps.proofs.remove.Goals as goal

pub returns : goal.returns
unfolding once_of
returns c = let h = found_in c.args.s.now c.args.n c.requires.n_value c.args.x.0 _ c.rank_of-k.ensures c.requires.n_value_2 in record {
  value = c.nacked_once.ensures
      ∙ ap nacked_once (c.read-g.ensures ∙ sym (gap_at c.args.s.now c.args.n c.rank_of-k.result h))
      ∙ ap once_of (sym (found_is c.args.s.now c.args.n c.requires.n_value c.args.x.0 _ c.rank_of-k.ensures c.requires.n_value_2));
  s_after = c.remove.ensures
      ∙ gaps_cut c.args.s.now c.args.n c.requires.gaps_in c.rank_of-k.result 1 (omega arith)
      ∙ ap (laid gap_words_of (length c.args.s.now)) (sym (without_is c.args.s.now c.args.n c.requires.n_value c.args.x.0 _ c.rank_of-k.ensures c.requires.n_value_2));
}
