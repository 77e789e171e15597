-- Gaps after a media packet: what a number at its place asks of the gaps in storage, and how many there are then.
use mathlib.Core.Path.{◌≡◌, sym, ap, ◌∙◌}
use mathlib.Core.Bool.{true}
use mathlib.Core.List.{List, ◌++◌, map}
use Prim.Native.Nat.{ℕ, ◌+◌, ◌*◌, ◌-◌, ◌≤◌, ◌<◌}
use native.Mathlib.Omega.{arith}
use lib.ListN.{length, drop, length-append, length-map, length-drop}
use Rattle.words.specs.Order.{ascends, rank}
use lib.Seq.{length-take-le}
use Rattle.words.proofs.Ordered.{rank-le}
use Rattle.words.proofs.Lists.{length_cut}
use Rattle.model.specs.Lists.{some?}
use Rattle.model.specs.Records.{Gap, gap_numbers}
use Rattle.model.specs.Rules.{is, without, gaps_below, gaps_from, below, between, fresh}
use Rattle.model.specs.Storage.{gap_words, gaps_of}
use Rattle.model.proofs.Lists.{length-following, length-keep}
use Rattle.model.proofs.Laid.{length-gaps_of}
use Rattle.packet_gaps.proofs.Laws.{below_front, found_at}
use Rattle.rtp.specs.declared.ExtendedSequenceNumber.{ExtendedSequenceNumber}
use Rattle.session.specs.declared.push.Place.{Place}
use Rattle.session.specs.declared.push.Place.TheVariants.{Near, Fills}
use Rattle.session.specs.Place.{place}
use Rattle.push.specs.Media.{Takes}

module _ (words : List ℕ) (n x : ℕ) (p : Place) (t : Takes words n x (place p)) where
  pub near_takes : (h : ExtendedSequenceNumber) → p ≡ Near h → (h.0 < x) × (gap_words * (n + (x - (h.0 + 1))) ≤ length words)
  unfolding place Takes
  near_takes h e = rw e at t

  pub fills_takes : p ≡ Fills → some? (is x) (gaps_of words n) ≡ true
  unfolding place Takes
  fills_takes e = rw e at t

pub length-opened : (l : List Gap) (now h x : ℕ) → length (l ++ map (fresh now) (between h x)) ≡ length l + (x - (h + 1))
unfolding between
length-opened l now h x = simp (length-append, length-map, length-following) (omega arith)

module _ (words : List ℕ) (n x : ℕ) (a : ascends (gap_numbers (gaps_of words n)) ≡ true) where
  pub length-filled : some? (is x) (gaps_of words n) ≡ true → (0 < n) × (length (without x (gaps_of words n)) ≡ n - 1)
  length-filled t =
      let l = gaps_of words n in
      let f = found_at x l a t in
      let k = rank x (gap_numbers l) in
      let n-is : length l ≡ n = length-gaps_of words n in
      (omega (arith, f.0), ap length f.2 ∙ length_cut k 1 l (omega (arith, f.0)) ∙ ap (λ (i : ℕ). i - 1) n-is)

  pub from_is : gaps_from x (gaps_of words n) ≡ drop (length (gaps_below x (gaps_of words n))) (gaps_of words n)
  from_is =
      let gs = gaps_of words n in
      let k = rank x (gap_numbers gs) in
      let le : k ≤ length gs = omega (arith, rank-le x (gap_numbers gs), length-map gs (λ (g : Gap). g.number)) in
      let few : length (gaps_below x gs) ≡ k = ap length (below_front x gs a).0 ∙ length-take-le k gs le in
      (below_front x gs a).1 ∙ ap (λ (i : ℕ). drop i gs) (sym few)

  pub below-few : length (gaps_below x (gaps_of words n)) ≤ n
  unfolding gaps_below
  below-few = omega (arith, length-keep (below x) (gaps_of words n), length-gaps_of words n)

  pub length_from : length (gaps_from x (gaps_of words n)) ≡ n - length (gaps_below x (gaps_of words n))
  length_from = ap length from_is ∙ length-drop (length (gaps_below x (gaps_of words n))) (gaps_of words n) ∙ ap (λ (i : ℕ). i - length (gaps_below x (gaps_of words n))) (length-gaps_of words n)
