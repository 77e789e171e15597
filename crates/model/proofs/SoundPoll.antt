-- A `poll` or `poll_nack` that is not refused leaves a sound session.
use mathlib.Core.Path.{◌≡◌, refl}
use mathlib.Core.Bool.{Bool, true, false, not, cond}
use mathlib.Core.List.{List, [], ◌∷◌}
use Prim.Native.Nat.{ℕ, ◌+◌, ◌-◌, ◌≤◌}
use native.Mathlib.Omega.{arith}
use lib.Dec.{eqb}
use lib.ListN.{length, drop, length-append, length-map, length-drop}
use Rattle.std.specs.Prelude.{Option, Some}
use Rattle.refusals.proofs.Laws.{or_else-none}
use Rattle.durations.specs.Seconds.{largest}
use Rattle.config.specs.declared.Settings.{Settings}
use Rattle.config.specs.declared.RtpInboundQueueMode.{RtpInboundQueueMode}
use Rattle.config.specs.declared.RtpInboundQueueMode.TheVariants.{Passthrough, SortedQueue}
use Rattle.rtp.specs.Opt.{number_of}
use Rattle.model.specs.Records.{Entry, Gap, Remembered, State}
use Rattle.model.specs.Rules.{max_lost_nacked, below, gaps_below, gaps_from, due, nacked, nacked_if_due, tried, latest, remember, remembered_after, given_up_of, not_given_up_in, lost_below_of, left_from_of}
use Rattle.model.specs.Poll.{timings_of, count_lost, lose, drained, ready, hands_out, going_out, lost_under, hand_out, after_poll, nack_all, after_poll_nack}
use Rattle.model.specs.Table.{lost_with, poll_refusal, nacks_refusal, poll_nack_refusal}
use Rattle.model.proofs.Lists.{by_cases, Each, none, each_first, each_imp, each_append, each_drop, each_keep, each_trailing, each_map, Rising, rising_keep, rising_trailing, length-keep, length-trailing}
use Rattle.model.proofs.Sound.{Ahead, GapIn, Apart, RememberedIn, Sound}
use Rattle.model.proofs.SoundLists.{later, fewer, changed, remembering, out, from-ahead}
use Rattle.model.proofs.SoundQueue.{clock_of, counts_of, under-fits, clock-set, returned-set, lose_in}

abbrev gap_number : Gap → ℕ
gap_number g = g.number

-- ---- the gaps that stay

module _ (set : Settings) where
  pub part_not-given-up : (mode : RtpInboundQueueMode) {l : List Gap} (P : Gap → Type 0) → Each P l → Each P (not_given_up_in mode set l)
  unfolding not_given_up_in
  part_not-given-up Passthrough P h = each_trailing (tried set.max_nack_attempts) h
  part_not-given-up (SortedQueue sorted) P h = h

  pub rising_not-given-up : (mode : RtpInboundQueueMode) {l : List Gap} → Rising gap_number l → Rising gap_number (not_given_up_in mode set l)
  unfolding not_given_up_in
  rising_not-given-up Passthrough h = rising_trailing _ (tried set.max_nack_attempts) h
  rising_not-given-up (SortedQueue sorted) h = h

  length-not-given-up : (mode : RtpInboundQueueMode) (l : List Gap) → length (not_given_up_in mode set l) ≤ length l
  unfolding not_given_up_in
  length-not-given-up Passthrough l = length-trailing (tried set.max_nack_attempts) l
  length-not-given-up (SortedQueue sorted) l = omega arith

pub part_left : (mode : RtpInboundQueueMode) (n : ℕ) {l : List Gap} (P : Gap → Type 0) → Each P l → Each P (left_from_of mode n l)
unfolding left_from_of gaps_from
part_left Passthrough n P h = h
part_left (SortedQueue sorted) n P h = each_keep (λ (g : Gap). not (below n g)) h

rising_left : (mode : RtpInboundQueueMode) (n : ℕ) {l : List Gap} → Rising gap_number l → Rising gap_number (left_from_of mode n l)
unfolding left_from_of gaps_from
rising_left Passthrough n h = h
rising_left (SortedQueue sorted) n h = rising_keep _ (λ (g : Gap). not (below n g)) h

length-left : (mode : RtpInboundQueueMode) (n : ℕ) (l : List Gap) → length (left_from_of mode n l) ≤ length l
unfolding left_from_of gaps_from
length-left Passthrough n l = omega arith
length-left (SortedQueue sorted) n l = length-keep (λ (g : Gap). not (below n g)) l

ahead-left : (mode : RtpInboundQueueMode) (n : ℕ) (l : List Gap) → Apart l n → Each (λ (g : Gap). Ahead mode (Some n) g.number) (left_from_of mode n l)
unfolding left_from_of Ahead
ahead-left Passthrough n l a = each_imp (λ g ne. tt) a
ahead-left (SortedQueue sorted) n l a = from-ahead (SortedQueue sorted) n l a

-- ---- the numbers remembered

part_lost : (mode : RtpInboundQueueMode) (n : ℕ) {P : Gap → Type 0} {l : List Gap} → Each P l → Each P (lost_below_of mode n l)
unfolding lost_below_of gaps_below
part_lost Passthrough n h = none
part_lost (SortedQueue sorted) n h = each_keep (below n) h

each_latest : {P : Remembered → Type 0} {l : List Remembered} → Each P l → Each P (latest l)
unfolding latest
each_latest {l = l} h = each_drop (length l - max_lost_nacked) h

module _ (P : Remembered → Type 0) where
  pub each_remembered : (rtx : Bool) {lost : List Gap} {l : List Remembered} → Each (λ (g : Gap). P (remember g)) lost → Each P l → Each P (remembered_after rtx lost l)
  unfolding remembered_after
  each_remembered false h k = k
  each_remembered true h k = each_latest (each_append k (each_map remember (each_keep (λ (g : Gap). eqb g.nacks 1) h)))

length-remembered : (rtx : Bool) (lost : List Gap) (l : List Remembered) → length l ≤ max_lost_nacked → length (remembered_after rtx lost l) ≤ max_lost_nacked
unfolding remembered_after latest
length-remembered false lost l h = h
length-remembered true lost l h = simp length-drop (omega arith)

-- ---- the clock, then the numbers given up

module _ (now : ℕ) (s : State) (h : Sound s) (later-now : s.queue.clock ≤ now) where
  abbrev set : Settings
  set = s.queue.config.settings

  drained-sound : s.queue.counters.lost + length (given_up_of set s.gaps) ≤ largest → Sound (drained now s)
  unfolding drained lose count_lost
  drained-sound fits =
      let q = h.queue_in in
      record {
        fits = record { entries_fit = h.fits.entries_fit; gaps-fit = omega (arith, length-not-given-up set set.mode s.gaps, h.fits.gaps-fit); remembered-fit = h.fits.remembered-fit };
        queue_in = lose_in _ (clock-set q later-now) fits;
        lists_in = fewer (later h.lists_in later-now) (part_not-given-up set set.mode) (rising_not-given-up set set.mode h.lists_in.gaps_rise);
      }

-- ---- `poll`

-- the front e goes out
out_sound : (e : Entry) (es : List Entry) (s : State) → s.entries ≡ e ∷ es → Sound s → s.queue.counters.lost + length (lost_below_of s.queue.config.settings.mode e.number s.gaps) ≤ largest → Sound (hand_out (e ∷ []) s)
unfolding hand_out lose count_lost number_of remember
out_sound e es s at h fits =
    let q = h.queue_in in
    let l = h.lists_in in
    let n = e.number in
    let mode = s.queue.config.settings.mode in
    let lost = lost_below_of mode n s.gaps in
    let few : length (drop 1 s.entries) ≤ length s.entries = simp length-drop (omega arith) in
    let rest : drop 1 s.entries ≡ es = rw at refl in
    record {
      fits =
          record {
            entries_fit = omega (arith, h.fits.entries_fit);
            gaps-fit = omega (arith, length-left mode n s.gaps, h.fits.gaps-fit);
            remembered-fit = length-remembered s.queue.config.senders.has_rtx lost s.remembered h.fits.remembered-fit;
          };
      queue_in = returned-set (lose_in (length lost) q fits) n;
      lists_in =
          rw rest
          (remembering
          (out l at (part_left mode n) (rising_left mode n l.gaps_rise) (ahead-left mode n s.gaps (each_first (rw at at l.apart))))
          (each_remembered (RememberedIn s.queue.clock) s.queue.config.senders.has_rtx
          (part_lost mode n (each_imp (λ g k. record { number_fits = under-fits s.queue.clock s.queue.last q.last_in k.under; nacked-by = k.nacked-by }) l.gaps_in))
          l.remembered_in));
    }

nothing-sound : (now : ℕ) (s : State) → Sound s → s.queue.clock ≤ now → s.queue.counters.lost + length (lost_with now s []) ≤ largest → Sound (drained now s)
unfolding lost_with lost_under
nothing-sound now s h later-now fits = drained-sound now s h later-now (omega (arith, length-append (given_up_of s.queue.config.settings s.gaps) []))

front_sound : (now : ℕ) (s : State) → Sound s → s.queue.clock ≤ now → (es : List Entry) → s.entries ≡ es → s.queue.counters.lost + length (lost_with now s (going_out now s es)) ≤ largest → Sound (hand_out (going_out now s es) (drained now s))
unfolding going_out hands_out lost_under lost_with hand_out drained lose count_lost
front_sound now s h later-now [] at = nothing-sound now s h later-now
front_sound now s h later-now (x ∷ xs) at =
    by_cases P (ready s.queue now x.timestamp)
    (λ y fits.
    let given = given_up_of s.queue.config.settings s.gaps in
    let both = length-append given (lost_below_of s.queue.config.settings.mode x.number (drained now s).gaps) in
    out_sound x xs (drained now s) at (drained-sound now s h later-now (omega arith)) (omega arith))
    (λ n. nothing-sound now s h later-now)
  where
    P : List Entry → Type 0
    P l = s.queue.counters.lost + length (lost_with now s l) ≤ largest → Sound (hand_out l (drained now s))

pub poll_sound : (now : ℕ) (lent : List ℕ) (s : State) → Sound s → poll_refusal now lent s ≡ 0 → Sound (after_poll now s)
unfolding poll_refusal after_poll
poll_sound now lent s h e =
    let a = or_else-none _ _ e in
    let b = or_else-none _ _ a.1 in
    front_sound now s h (clock_of s.queue now b.0).0 s.entries refl (each_first (counts_of _ b.1))

-- ---- `poll_nack`

nacked-number : (b : Bool) (now : ℕ) (g : Gap) → (cond b (nacked now g) g).number ≡ g.number
unfolding nacked
nacked-number true now g = refl
nacked-number false now g = refl

nacked_in : {now : ℕ} {highest : Option ℕ} {mode : RtpInboundQueueMode} {returned : Option ℕ} (b : Bool) (g : Gap) → GapIn now highest mode returned g → GapIn now highest mode returned (cond b (nacked now g) g)
unfolding nacked
nacked_in true g h = record { under = h.under; ahead = h.ahead; detected-by = h.detected-by; nacked-by = omega arith }
nacked_in false g h = h

nacks-sound : (s : State) → Sound s → Sound (nack_all s.queue.clock s)
unfolding nack_all nacked_if_due
nacks-sound s h =
    let is_due = due (timings_of s.queue) s.queue.clock in
    record {
      fits = record { entries_fit = h.fits.entries_fit; gaps-fit = rw length-map h.fits.gaps-fit; remembered-fit = h.fits.remembered-fit };
      queue_in = h.queue_in;
      lists_in = changed h.lists_in _ (λ g. nacked-number (is_due g) s.queue.clock g) (λ g k. nacked_in (is_due g) g k);
    }

pub poll_nack-sound : (needed places now : ℕ) (s : State) → Sound s → poll_nack_refusal needed places now s.queue s.gaps ≡ 0 → Sound (after_poll_nack now s)
unfolding nacks_refusal poll_nack_refusal after_poll_nack drained lose
poll_nack-sound needed places now s h e =
    let a = or_else-none _ _ e in
    let b = or_else-none _ _ a.1 in
    let c = or_else-none _ _ b.1 in
    nacks-sound (drained now s) (drained-sound now s h (clock_of s.queue now b.0).0 (each_first (counts_of _ c.0)))
