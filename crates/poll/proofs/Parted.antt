-- Gaps that are given up or lost stand at the front, and those that stay after them; so both are said by a count.
use mathlib.Core.Path.{◌≡◌, refl, sym, ap, ◌∙◌}
use mathlib.Core.Bool.{true}
use mathlib.Core.List.{List}
use Prim.Native.Nat.{ℕ, ◌-◌, ◌≤◌}
use native.Mathlib.Omega.{arith}
use lib.ListN.{length, take, drop, length-take, length-drop}
use Rattle.words.specs.Order.{ascends}
use Rattle.config.specs.declared.Settings.{Settings}
use Rattle.config.specs.declared.RtpInboundQueueMode.{RtpInboundQueueMode}
use Rattle.config.specs.declared.RtpInboundQueueMode.TheVariants.{Passthrough, SortedQueue}
use Rattle.model.specs.Lists.{leading}
use Rattle.model.specs.declared.Queue.{Queue}
use Rattle.model.specs.Records.{Gap, gap_numbers, with_clock}
use Rattle.model.specs.Rules.{tried, given_up_of, given_up_in, not_given_up, not_given_up_in, lost_below_of, left_from_of}
use Rattle.model.specs.Poll.{lose}
use Rattle.model.specs.Storage.{Stored}
use Rattle.model.proofs.Laid.{length-gaps_of}
use Rattle.packet_gaps.proofs.Model.{below_parts, leading_front}
use Rattle.poll.specs.Steps.{gaps_in, drained_session}

-- ---- given up

module _ (set : Settings) where
  pub given-up-le : (mode : RtpInboundQueueMode) (l : List Gap) → length (given_up_in mode set l) ≤ length l
  unfolding given_up_in
  given-up-le Passthrough l = let f = leading_front (tried set.max_nack_attempts) l in omega (arith, ap length f.0, length-take (length (leading (tried set.max_nack_attempts) l)) l)
  given-up-le (SortedQueue sorted) l = omega arith

  pub not-given-up : (mode : RtpInboundQueueMode) (l : List Gap) → not_given_up_in mode set l ≡ drop (length (given_up_in mode set l)) l
  unfolding given_up_in not_given_up_in
  not-given-up Passthrough l = (leading_front (tried set.max_nack_attempts) l).1
  not-given-up (SortedQueue sorted) l = refl

  pub length-not-given-up : (mode : RtpInboundQueueMode) (l : List Gap) → length (not_given_up_in mode set l) ≡ length l - length (given_up_in mode set l)
  length-not-given-up mode l = ap length (not-given-up mode l) ∙ length-drop (length (given_up_in mode set l)) l

pub given-few : (m : Stored) (k : ℕ) → k ≡ length (given_up_of m.session.queue.config.settings (gaps_in m)) → k ≤ m.session.gaps
given-few m k e = let set = m.session.queue.config.settings in omega (arith, e, given-up-le set set.mode (gaps_in m), length-gaps_of m.storage.gaps m.session.gaps)

-- ---- below the one handed out

module _ (x : ℕ) (l : List Gap) (a : ascends (gap_numbers l) ≡ true) where
  pub lost_front : (mode : RtpInboundQueueMode) → take (length (lost_below_of mode x l)) l ≡ lost_below_of mode x l
  unfolding lost_below_of
  lost_front Passthrough = refl
  lost_front (SortedQueue sorted) = sym (below_parts x l a).0

  pub left_front : (mode : RtpInboundQueueMode) → drop (length (lost_below_of mode x l)) l ≡ left_from_of mode x l
  unfolding lost_below_of left_from_of
  left_front Passthrough = refl
  left_front (SortedQueue sorted) = sym (below_parts x l a).1

  pub lost-le : (mode : RtpInboundQueueMode) → length (lost_below_of mode x l) ≤ length l
  lost-le mode = omega (arith, ap length (lost_front mode), length-take (length (lost_below_of mode x l)) l)

-- ---- the session after `drain`

module _ (now : ℕ) (m : Stored) (k : ℕ) (ek : k ≡ length (given_up_of m.session.queue.config.settings (gaps_in m))) where
  pub drained-is : (q : Queue) → q ≡ lose k (with_clock m.session.queue now)
      → record { queue = q; entries = m.session.entries; gaps = m.session.gaps - k; remembered = m.session.remembered } ≡ drained_session now m.session (gaps_in m)
  unfolding drained_session
  drained-is q eq =
      let set = m.session.queue.config.settings in
      let z : m.session.gaps - k ≡ length (not_given_up set (gaps_in m)) = omega (arith, length-not-given-up set set.mode (gaps_in m), length-gaps_of m.storage.gaps m.session.gaps, ek) in
      rw (z, eq, ek)

  pub dropped-is : drop k (gaps_in m) ≡ not_given_up m.session.queue.config.settings (gaps_in m)
  dropped-is = let set = m.session.queue.config.settings in rw (ek, ← not-given-up set set.mode (gaps_in m))
