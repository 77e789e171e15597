-- A number that a NACK list named is asked for again only after the resend delay, which is at least a millisecond where an estimate stands: its gap
-- remembers the instant of its last NACK, no call opens it anew, since new gaps lie above the highest number, and the clock never goes back.
use mathlib.Core.Path.{◌≡◌, refl, sym, ◌∙◌, subst}
use mathlib.Core.Bool.{Bool, not}
use mathlib.Core.List.{List, [], ◌∷◌, ◌++◌, map, foldl, foldl-append}
use Prim.Native.Nat.{ℕ, suc, ◌+◌, ◌-◌, ◌≤◌, ◌<◌}
use native.Mathlib.Omega.{arith}
use lib.Dec.{T, T_not, eqb, leb→le, eqb→eq}
use lib.Ieee.Bits.{cond_no}
use lib.ListN.{length}
use borrow.Author.Tests.{eq-eqb}
use Rattle.std.specs.Prelude.{Option, None, Some}
use Rattle.refusals.proofs.Laws.{or_else-none}
use Rattle.rtx_state.specs.declared.RtxRtt.{RtxRtt}
use Rattle.rtx_state.specs.RoundTrip.{nack_resend_delay}
use Rattle.rtx_state.proofs.Range.{delay_ge}
use Rattle.config.specs.declared.Settings.{Settings}
use Rattle.config.specs.declared.NackTimings.{NackTimings}
use Rattle.config.specs.Timings.{resend_delay_of, nack_timings}
use Rattle.model.specs.declared.Config.{Config}
use Rattle.model.specs.Lists.{keep, some?}
use Rattle.model.specs.Records.{Entry, Gap, State, highest_of}
use Rattle.model.specs.Rules.{is, below, without, Place, waits, between, fresh, gaps_from, gaps_after, timings_in, estimate_in, due_at, due, nacked, nacked_if_due, overfull, not_given_up}
use Rattle.model.specs.Push.{media_place, heard, last_after, after_queued, after_dropped, front_out_of, within_depth, media_entry_of, after_placed, after_media, Fate, too_late, recovered, redundant, repair_entry, repair_fate, after_fate, after_repair}
use Rattle.model.specs.Poll.{drained, lose, going_out, hand_out, after_poll, due_gaps, nack_numbers, nack_entries_of, nack_all, after_poll_nack, timings_of}
use Rattle.model.specs.Storage.{parse}
use Rattle.model.specs.Calls.{Call, media, repair, poll, poll_nack, nack_wire, timeout_receive, timeout_nack, rtx_stats, highest_received, taken, output_after}
use Rattle.model.specs.Table.{call_refusal, media_refusal, repair_refusal, poll_refusal, poll_nack_refusal, refusal}
use Rattle.model.specs.Did.{did, accepted}
use Rattle.model.proofs.Lists.{by_cases, by_or, no_eqb, Each, none, more, each_imp, each_both, each_append, each_keep, each_kept, each_map, each_following, Rising, rising_rest, rising_first, holds_of_some}
use Rattle.model.proofs.Sound.{Reached, Under, Sound}
use Rattle.model.proofs.SoundQueue.{clock_of}
use Rattle.model.proofs.SoundPush.{Stands, is-first, is_near, is_far, is-gap, is-other, waiting-stands}
use Rattle.model.proofs.SoundPoll.{part_not-given-up, rising_not-given-up, part_left}
use Rattle.book.specs.Book.{Book}
use Rattle.book.specs.States.{View, after, Next, stays, moves}
use Rattle.book.specs.Claim.{Run, start, call, calls}
use Rattle.book.specs.Nacks.{named_at, Measured, measured, Asks, in_a_list, on_the_wire, NacksApart}
use Rattle.book.proofs.Same.{Same, by-same}
use Rattle.book.proofs.States.{kept}
use Rattle.book.proofs.Theorem.{next_call, call-taken, ran}

abbrev gap_number : Gap → ℕ
gap_number g = g.number

-- if it is the gap of n, it was NACKed, at `from` or later
abbrev Asked : ℕ → ℕ → Gap → Type 0
Asked from n g = g.number ≡ n → (1 ≤ g.nacks) × (from ≤ g.nacked_at)

-- what holds from that NACK on
record Since (from n : ℕ) (s : State) : Type 0 where
  by : from ≤ s.queue.clock
  reached : Reached (highest_of s.queue.last) n
  asked : Each (Asked from n) s.gaps

-- ---- each call keeps it

module _ (from n : ℕ) where
  -- gaps that open lie above the highest number
  new_gaps : (now h m : ℕ) → n ≤ h → Each (Asked from n) (map (fresh now) (between h m))
  unfolding between fresh
  new_gaps now h m le = each_map (fresh now) (each_imp (λ k b e. absurd (omega arith)) (each_following (suc h) (m - suc h)))

  module _ (now : ℕ) (s : State) (i : Since from n s) (le : s.queue.clock ≤ now) where
    queued_since : (e : Entry) {p : Place} → Stands (highest_of s.queue.last) s.gaps e.number p → T (waits p) → Since from n (after_queued now e p s)
    unfolding after_queued heard last_after gaps_after highest_of Reached waits without
    queued_since e (is-first at) w = absurd (rw at at i.reached)
    queued_since e (is_near {h = h} at lt) w =
        let r : n ≤ h = rw at at i.reached in record { by = omega (arith, i.by); reached = omega arith; asked = each_append i.asked (new_gaps now h e.number r) }
    queued_since e (is_far {h = h} at lt) w = let r : n ≤ h = rw at at i.reached in record { by = omega (arith, i.by); reached = omega arith; asked = none }
    queued_since e (is-gap t) w = record { by = omega (arith, i.by); reached = i.reached; asked = each_keep (λ (g : Gap). not (is e.number g)) i.asked }
    queued_since e is-other w = absurd w

    fate_since : (e : Entry) (f : Fate) → Since from n (after_fate now e f s)
    unfolding after_fate without
    fate_since e too_late = record { by = omega (arith, i.by); reached = i.reached; asked = i.asked }
    fate_since e redundant = record { by = omega (arith, i.by); reached = i.reached; asked = i.asked }
    fate_since e recovered = record { by = omega (arith, i.by); reached = i.reached; asked = each_keep (λ (g : Gap). not (is e.number g)) i.asked }

    drained_since : Since from n (drained now s)
    unfolding drained lose
    drained_since =
        let set = s.queue.config.settings in
        record { by = omega (arith, i.by); reached = i.reached; asked = part_not-given-up set set.mode (Asked from n) i.asked }

  front_since : (es : List Entry) (s : State) → Since from n s → Since from n (front_out_of es s)
  unfolding front_out_of gaps_from
  front_since [] s i = i
  front_since (e ∷ es) s i = record { by = i.by; reached = i.reached; asked = each_keep (λ (g : Gap). not (below e.number g)) i.asked }

  depth_since : (s : State) → Since from n s → Since from n (within_depth s)
  unfolding within_depth
  depth_since s i = by_cases (Since from n) (overfull s.queue.config.settings (length s.entries)) (λ t. front_since s.entries s i) (λ t. i)

  hand_since : (es : List Entry) (s : State) → Since from n s → Since from n (hand_out es s)
  unfolding hand_out lose
  hand_since [] s i = i
  hand_since (e ∷ es) s i = record { by = i.by; reached = i.reached; asked = part_left s.queue.config.settings.mode e.number (Asked from n) i.asked }

  nacked-asked : (t : NackTimings) (now : ℕ) (g : Gap) → from ≤ now → Asked from n g → Asked from n (nacked_if_due t now g)
  unfolding nacked_if_due nacked
  nacked-asked t now g le a = by_cases (Asked from n) (due t now g) (λ d e. (omega arith, le)) (λ d. a)

  nack_since : (now : ℕ) (s : State) → s.queue.clock ≡ now → Since from n s → Since from n (nack_all now s)
  unfolding nack_all
  nack_since now s at i =
      let t = timings_of s.queue in
      record { by = i.by; reached = i.reached; asked = each_map (nacked_if_due t now) (each_imp (λ g a. nacked-asked t now g (omega (arith, i.by)) a) i.asked) }

  taken_since : (k : Call) (s : State) → call_refusal k s ≡ 0 → Since from n s → Since from n (taken k s)
  unfolding call_refusal media_refusal repair_refusal poll_refusal poll_nack_refusal taken after_media after_placed after_dropped heard after_repair after_poll after_poll_nack drained lose
  taken_since (media now d) s e i =
      let x = media_entry_of now d s.queue in
      let le = (clock_of s.queue now (or_else-none _ _ e).0).0 in
      by_cases (Since from n) (waits (media_place s x.number))
      (λ w. depth_since _ (queued_since now s i le x (waiting-stands s x.number w).1 w))
      (λ w. record { by = omega (arith, i.by); reached = i.reached; asked = i.asked })
  taken_since (repair now d) s e i =
      let x = repair_entry d s.queue in fate_since now s i (clock_of s.queue now (or_else-none _ _ e).0).0 x (repair_fate s x.number)
  taken_since (poll now out) s e i =
      hand_since (going_out now s s.entries) (drained now s) (drained_since now s i (clock_of s.queue now (or_else-none _ _ (or_else-none _ _ e).1).0).0)
  taken_since (poll_nack now out) s e i =
      nack_since now (drained now s) refl (drained_since now s i (clock_of s.queue now (or_else-none _ _ (or_else-none _ _ e).1).0).0)
  taken_since (nack_wire now out) s e i =
      nack_since now (drained now s) refl (drained_since now s i (clock_of s.queue now (or_else-none _ _ (or_else-none _ _ e).1).0).0)
  taken_since (timeout_receive now) s e i = i
  taken_since (timeout_nack now) s e i = i
  taken_since rtx_stats s e i = i
  taken_since highest_received s e i = i

  next_since : {c : Config} {x : View} {k : Call} {y : View} → Next c x k y → Since from n x.state → Since from n y.state
  unfolding after
  next_since stays i = i
  next_since {x = x} {k = k} (moves e) i = taken_since k x.state e i

  calls_since : (c : Config) (x : Run) (ks : List Call) → Since from n (parse x.stored) → Since from n (parse (foldl (call c) x ks).stored)
  calls_since c x [] i = i
  calls_since c x (k ∷ ks) i = calls_since c (call c x k) ks (next_since (next_call c x k) i)

-- ---- a list names the number

module _ (n : ℕ) where
  -- numbers rise, so there is no other gap of n
  kept_of : (p : Gap → Bool) (l : List Gap) → Rising gap_number l → T (some? (is n) (keep p l)) → Each (λ (g : Gap). g.number ≡ n → T (p g)) l
  unfolding keep some? is
  kept_of p [] r t = none
  kept_of p (x ∷ xs) r t =
      by_cases (λ (l : List Gap). T (some? (is n) l) → Each (λ (g : Gap). g.number ≡ n → T (p g)) (x ∷ xs)) (p x)
      (λ y u. more (λ e. y) (rest (λ v. kept_of p xs (rising_rest _ r) v) u))
      (λ z u. more (λ e. absurd (let lt = beyond u in omega arith)) (kept_of p xs (rising_rest _ r) u))
      t
    where
      beyond : T (some? (is n) (keep p xs)) → x.number < n
      beyond u = holds_of_some (λ m. x.number < m) n (keep p xs) u (each_keep p (rising_first _ r))

      rest : (T (some? (is n) (keep p xs)) → Each (λ (g : Gap). g.number ≡ n → T (p g)) xs) → T (some? (is n) (x ∷ keep p xs)) → Each (λ (g : Gap). g.number ≡ n → T (p g)) xs
      rest ih u =
          by_or (eqb x.number n) (some? (is n) (keep p xs)) u
          (λ v. each_imp (λ g lt e. absurd (omega (arith, eqb→eq x.number n v))) (rising_first _ r))
          ih

  -- what is known of each gap, of that of n
  of_some : {P : Gap → Type 0} {X : Type 0} (l : List Gap) → T (some? (is n) l) → Each P l → ((g : Gap) → g.number ≡ n → P g → X) → X
  unfolding some? is
  of_some [] t h f = absurd t
  of_some (g ∷ gs) t (more h k) f = by_or (eqb g.number n) (some? (is n) gs) t (λ y. f g (eqb→eq g.number n y) h) (λ u. of_some gs u k f)

under_reached : (h : Option ℕ) (n : ℕ) → Under h n → Reached h n
unfolding Under Reached
under_reached None n u = u
under_reached (Some h) n u = omega arith

module _ (now n : ℕ) (s : State) (h : Sound s) (named : T (some? (is n) (due_gaps now s.queue s.gaps))) where
  abbrev set : Settings
  set = s.queue.config.settings

  abbrev timings : NackTimings
  timings = timings_of s.queue

  abbrev left : List Gap
  left = not_given_up set s.gaps

  -- the first list: the gap of n has its NACK at `now`
  asked_now : (g : Gap) → (g.number ≡ n → T (due timings now g)) → Asked now n (nacked_if_due timings now g)
  unfolding nacked_if_due nacked
  asked_now g d =
      by_cases (λ (x : Gap). (g.number ≡ n → T (due timings now g)) → Asked now n x) (due timings now g) (λ y f e. (omega arith, omega arith))
      (λ z f e. absurd (T_not (due timings now g) z (f e))) d

  since_now : Since now n (after_poll_nack now s)
  unfolding after_poll_nack nack_all drained lose due_gaps
  since_now =
      record {
        by = omega arith;
        reached =
            of_some n (keep (due timings now) left) named (each_keep (due timings now) (part_not-given-up set set.mode _ h.lists_in.gaps_in))
            (λ g e k. subst (Reached (highest_of s.queue.last)) e (under_reached _ _ k.under));
        asked =
            each_map (nacked_if_due timings now)
            (each_imp asked_now (kept_of n (due timings now) left (rising_not-given-up set set.mode h.lists_in.gaps_rise) named));
      }

  -- a further list: it is due by its last NACK
  again : {from : ℕ} (e : RtxRtt) → timings.resend ≡ nack_resend_delay e → Since from n s → from + 1000000 ≤ now
  unfolding due_gaps due_at
  again {from} e r i =
      of_some n (keep (due timings now) left) named
      (each_both (each_kept (due timings now) left) (each_keep (due timings now) (part_not-given-up set set.mode (Asked from n) i.asked)))
      (λ g is k.
      let a = k.1 is in
      let d = leb→le (due_at timings g) now k.0 in
      let at : due_at timings g ≡ g.nacked_at + timings.resend = cond_no (eqb g.nacks 0) _ _ (no_eqb g.nacks 0 (λ z. absurd (omega arith))) in
      omega (arith, delay_ge e))

-- ---- the theorem

named-is : {c : Config} {s : State} {b : Book} (now : ℕ) → Same c s b → named_at c now b ≡ due_gaps now s.queue s.gaps
unfolding named_at due_gaps
named-is {s = s} now same = by-same (λ (c : Config) (b : Book). named_at c now b ≡ due_gaps now s.queue s.gaps) same refl

resend-is : {c : Config} {s : State} {b : Book} (e : RtxRtt) → Same c s b → estimate_in c.senders.has_rtx b.estimate ≡ Some e → (timings_of s.queue).resend ≡ nack_resend_delay e
unfolding timings_in nack_timings resend_delay_of
resend-is {s = s} e same m =
    by-same (λ (c : Config) (b : Book). estimate_in c.senders.has_rtx b.estimate ≡ Some e → (timings_of s.queue).resend ≡ nack_resend_delay e) same
    (λ q. rw q refl) m

-- in a list or on the wire, the same is left
asking : {now : ℕ} {k : Call} → Asks now k → (s : State) → taken k s ≡ after_poll_nack now s
unfolding taken
asking (in_a_list out) s = refl
asking (on_the_wire out) s = refl

pub nacks-apart : NacksApart
unfolding calls output_after nack_numbers nack_entries_of did accepted
nacks-apart =
    record {
      listed =
          λ c t ks now out o e.
          let x = calls c ks in
          let k = kept (ran c t ks o) in
          rw (eq-eqb (refusal (poll_nack now out) x.stored) 0 e, named-is now k.inv.same) refl;
      wired =
          λ c t ks now out o e.
          let x = calls c ks in
          let k = kept (ran c t ks o) in
          rw (eq-eqb (refusal (nack_wire now out) x.stored) 0 e, named-is now k.inv.same) refl;
      apart =
          λ c t ks js k k' now later n o a a' e e' m first further.
          let x = calls c ks in
          let y = calls c (ks ++ (k ∷ js)) in
          let kx = kept (ran c t ks o) in
          let ky = kept (ran c t (ks ++ (k ∷ js)) o) in
          let f = subst (λ (l : List Gap). T (some? (is n) l)) (named-is now kx.inv.same) first in
          let g = subst (λ (l : List Gap). T (some? (is n) l)) (named-is later ky.inv.same) further in
          let i : Since now n (parse (call c x k).stored) = subst (Since now n) (sym (call-taken c x k e ∙ asking a (parse x.stored))) (since_now now n (parse x.stored) kx.sound f) in
          let j : Since now n (parse y.stored) = subst (λ (r : Run). Since now n (parse r.stored)) (sym (foldl-append (call c) (start c) ks (k ∷ js))) (calls_since now n c (call c x k) js i) in
          by-measured m (λ r q. omega (arith, again later n (parse y.stored) ky.sound g r (resend-is r ky.inv.same q) j));
    }
  where
    by-measured : {c : Config} {b : Book} {X : Type 0} → Measured c b → ((r : RtxRtt) → estimate_in c.senders.has_rtx b.estimate ≡ Some r → X) → X
    by-measured (measured r q) f = f r q
