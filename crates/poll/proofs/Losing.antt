-- How many gaps `poll` makes lost. In either mode one of the two parts is empty, so that both together are no more than there are.
use mathlib.Core.Path.{◌≡◌, refl, sym}
use mathlib.Core.Bool.{Bool, true, false, cond}
use mathlib.Core.List.{List, [], ◌∷◌}
use Prim.Native.Nat.{ℕ, ◌+◌, ◌≤◌}
use native.Mathlib.Omega.{arith}
use lib.ListN.{length, take, length-append}
use Rattle.std.specs.Bool.{then_some}
use Rattle.std.specs.Prelude.{None, Some, unwrap_or}
use Rattle.words.specs.Order.{ascends}
use Rattle.config.specs.declared.Settings.{Settings}
use Rattle.config.specs.declared.RtpInboundQueueMode.{RtpInboundQueueMode}
use Rattle.config.specs.declared.RtpInboundQueueMode.TheVariants.{Passthrough, SortedQueue}
use Rattle.model.specs.Records.{Entry, Gap, State, gap_numbers}
use Rattle.model.specs.Rules.{given_up_of, given_up_in, not_given_up_in, lost_below_of}
use Rattle.model.specs.Poll.{delay_of, drained, hands_out, going_out, lost_under}
use Rattle.model.specs.Table.{lost_with}
use Rattle.poll.specs.declared.Effect.{Effect}
use Rattle.poll.specs.Steps.{effect_for}
use Rattle.poll.proofs.Parted.{given-up-le, lost-le}

-- what is given up does not change what is below
same-below : (set : Settings) (mode : RtpInboundQueueMode) (n : ℕ) (l : List Gap) → lost_below_of mode n (not_given_up_in mode set l) ≡ lost_below_of mode n l
unfolding lost_below_of not_given_up_in
same-below set Passthrough n l = refl
same-below set (SortedQueue sorted) n l = refl

both_le : (set : Settings) (mode : RtpInboundQueueMode) (es : List Entry) (l : List Gap) → ascends (gap_numbers l) ≡ true → length (given_up_in mode set l) + length (lost_under mode es (not_given_up_in mode set l)) ≤ length l
unfolding lost_under lost_below_of given_up_in not_given_up_in
both_le set mode [] l a = omega (arith, given-up-le set mode l)
both_le set Passthrough (e ∷ es) l a = omega (arith, given-up-le set Passthrough l)
both_le set (SortedQueue sorted) (e ∷ es) l a = omega (arith, lost-le e.number l a (SortedQueue sorted))

module _ (now : ℕ) (s : State) where
  abbrev set : Settings
  set = s.queue.config.settings

  -- ---- what the code counts

  pub due-none : (given delay : ℕ) → given ≡ length (given_up_of set s.gaps) → delay ≡ delay_of s.queue → hands_out now s.queue s.entries ≡ false
      → record { given = given; delay = delay; lost = None } ≡ effect_for now s
  unfolding effect_for
  due-none given delay eg d e = rw (eg, d, e)

  pub due-some : (given delay lost : ℕ) (x : Entry) → given ≡ length (given_up_of set s.gaps) → delay ≡ delay_of s.queue → hands_out now s.queue s.entries ≡ true → take 1 s.entries ≡ x ∷ []
      → lost ≡ length (lost_below_of set.mode x.number s.gaps) → record { given = given; delay = delay; lost = Some lost } ≡ effect_for now s
  unfolding effect_for going_out lost_under drained
  due-some given delay lost x eg d e t el = rw (eg, d, e, t, el, same-below set set.mode x.number s.gaps)

  -- ---- 14

  module _ (d : Effect) (ed : d ≡ effect_for now s) where
    -- nothing is lost below an entry that does not go out
    counted : unwrap_or (effect_for now s).lost 0 ≡ length (lost_under set.mode (going_out now s s.entries) (drained now s).gaps)
    unfolding effect_for going_out lost_under
    counted = by_test (hands_out now s.queue s.entries)
      where
        by_test : (b : Bool) → unwrap_or (then_some b (length (lost_under set.mode (cond b (take 1 s.entries) []) (drained now s).gaps))) 0 ≡ length (lost_under set.mode (cond b (take 1 s.entries) []) (drained now s).gaps)
        by_test true = refl
        by_test false = refl

    pub due-counts : d.given + unwrap_or d.lost 0 ≡ length (lost_with now s (going_out now s s.entries))
    unfolding effect_for lost_with
    due-counts = rw (ed, counted) (sym (length-append (given_up_of set s.gaps) _))

    pub due-few : ascends (gap_numbers s.gaps) ≡ true → d.given + unwrap_or d.lost 0 ≤ length s.gaps
    unfolding effect_for drained
    due-few a = rw (ed, counted) (both_le set set.mode (going_out now s s.entries) s.gaps a)
