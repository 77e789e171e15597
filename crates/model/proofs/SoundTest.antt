-- The facts of Sound, taken out of the tests of check 16 and put back into them.
use mathlib.Core.Bool.{Bool, not, ◌&&◌}
use mathlib.Core.List.{List, [], ◌∷◌}
use Prim.Native.Nat.{◌≤◌}
use lib.Dec.{T, leb, leb→le, le→leb}
use lib.Ieee.Fits.{and_l, and_r, and_i}
use lib.ListN.{length}
use Rattle.words.specs.Order.{ascends}
use Rattle.std.specs.Prelude.{Option, ℕ}
use Rattle.durations.specs.Seconds.{largest}
use Rattle.rtp_packet.specs.Datagram.{largest_payload}
use Rattle.rtx_state.specs.Repair.{rtx_in_range}
use Rattle.rtx_state.specs.RoundTrip.{opt_rtt_in_range}
use Rattle.rtx_state.specs.declared.RtxState.{RtxState}
use Rattle.jitter.specs.Interarrival.{jitter_in_range}
use Rattle.packet_loss.specs.Loss.{loss_in_range}
use Rattle.config.specs.declared.RtpInboundQueueMode.{RtpInboundQueueMode}
use Rattle.config.specs.Valid.{settings_valid, senders_valid}
use Rattle.config.proofs.Facts.{usable}
use Rattle.model.specs.declared.Config.{Config}
use Rattle.model.specs.declared.Counters.{Counters}
use Rattle.model.specs.declared.Queue.{Queue}
use Rattle.model.specs.Lists.{some?, every?}
use Rattle.rtp.specs.Opt.{number_of, at_most}
use Rattle.model.specs.Records.{Entry, Gap, Remembered, State, entry_numbers, gap_numbers, highest_of}
use Rattle.model.specs.Rules.{is, max_lost_nacked}
use Rattle.model.specs.Valid.{Bounds, bounds_of, under, not_passed, by_clock, gap_sound, gaps_sound, fields_sound, entry_sound, entries_sound, remembered_sound, lists_sound, last_sound, returned_sound, counters_sound, queue_sound, counts_fit, sound}
use Rattle.model.specs.Push.{passed}
use Rattle.model.specs.Storage.{entry_places}
use Rattle.model.specs.Table.{config_valid}
use Rattle.model.proofs.Lists.{each_imp, each_both, each_of_every, every_of_each, rising_of_ascends, ascends_of_rising, apart_of_not-some, not-some_of_apart}
use Rattle.model.proofs.Sound.{Returned, reached_of, reached_to, under_of, under_to, ahead_of, ahead_to, returned_of_lem, returned_to, by_of, by_to, GapIn, EntryIn, Apart, RememberedIn, CountersIn, RtxIn, QueueIn, Fits, Sound}

-- ---- a chain of tests

unfoldable all_of : Bool → List Bool → Bool
all_of a [] = a
all_of a (b ∷ bs) = a && all_of b bs

unfoldable Parts : Bool → List Bool → Type 0
Parts a [] = T a
Parts a (b ∷ bs) = T a × Parts b bs

parts : (a : Bool) (bs : List Bool) → T (all_of a bs) → Parts a bs
unfolding all_of Parts
parts a [] t = t
parts a (b ∷ bs) t = (and_l a (all_of b bs) t, parts b bs (and_r a (all_of b bs) t))

whole : (a : Bool) (bs : List Bool) → Parts a bs → T (all_of a bs)
unfolding all_of Parts
whole a [] t = t
whole a (b ∷ bs) (t, u) = and_i a (all_of b bs) t (whole b bs u)

-- the same where the chain is grouped to the left
unfoldable all_left : Bool → List Bool → Bool
all_left a [] = a
all_left a (b ∷ bs) = all_left (a && b) bs

left : (a : Bool) (bs : List Bool) → T (all_left a bs) → Parts a bs
unfolding all_left Parts
left a [] t = t
left a (b ∷ bs) t = split bs (left (a && b) bs t)
  where
    split : (bs : List Bool) → Parts (a && b) bs → T a × Parts b bs
    split [] t = (and_l a b t, and_r a b t)
    split (c ∷ cs) (t, u) = (and_l a b t, (and_r a b t, u))

left-whole : (a : Bool) (bs : List Bool) → Parts a bs → T (all_left a bs)
unfolding all_left Parts
left-whole a [] t = t
left-whole a (b ∷ bs) (t, u) = left-whole (a && b) bs (join bs u)
  where
    join : (bs : List Bool) → Parts b bs → Parts (a && b) bs
    join [] u = and_i a b t u
    join (c ∷ cs) (u, v) = (and_i a b t u, v)

-- ---- from the test, and back

abbrev counter_tests : Counters → List Bool
counter_tests c = leb c.received largest ∷ leb c.bytes largest ∷ leb c.lost largest ∷ []

counters_of : (c : Counters) → T (counters_sound c) → CountersIn c
unfolding counters_sound all_of Parts
counters_of c t =
    let p = parts (leb c.dropped largest) (counter_tests c) t in
    record { dropped_fits = leb→le _ _ p.0; received-fits = leb→le _ _ p.1.0; bytes_fit = leb→le _ _ p.1.1.0; lost_fits = leb→le _ _ p.1.1.1 }

counters_to : (c : Counters) → CountersIn c → T (counters_sound c)
unfolding counters_sound all_of Parts
counters_to c h =
    whole (leb c.dropped largest) (counter_tests c) (le→leb _ _ h.dropped_fits, (le→leb _ _ h.received-fits, (le→leb _ _ h.bytes_fit, le→leb _ _ h.lost_fits)))

abbrev rtx_tests : RtxState → List Bool
rtx_tests r =
    leb r.received_in_time largest
    ∷ leb r.received_too_late largest
    ∷ leb r.received_redundant largest
    ∷ leb r.bytes_received largest
    ∷ []

rtx_of : (r : RtxState) → T (rtx_in_range r) → RtxIn r
unfolding rtx_in_range all_left Parts
rtx_of r t =
    let p = left (opt_rtt_in_range r.rtt) (rtx_tests r) t in
    record { rtt_in = p.0; in_time_fits = leb→le _ _ p.1.0; too_late_fits = leb→le _ _ p.1.1.0; redundant_fits = leb→le _ _ p.1.1.1.0; bytes_fit = leb→le _ _ p.1.1.1.1 }

rtx_to : (r : RtxState) → RtxIn r → T (rtx_in_range r)
unfolding rtx_in_range all_left Parts
rtx_to r h =
    left-whole (opt_rtt_in_range r.rtt) (rtx_tests r)
    (h.rtt_in, (le→leb _ _ h.in_time_fits, (le→leb _ _ h.too_late_fits, (le→leb _ _ h.redundant_fits, le→leb _ _ h.bytes_fit))))

module _ (q : Queue) where
  abbrev highest : Option ℕ
  highest = highest_of q.last

  abbrev mode : RtpInboundQueueMode
  mode = q.config.settings.mode

  abbrev returned : Option ℕ
  returned = number_of q.returned

  abbrev gap_tests : Gap → List Bool
  gap_tests g = not_passed (bounds_of q).passed g.number ∷ leb g.detected q.clock ∷ leb g.nacked_at q.clock ∷ []

  gap_of_lem : (g : Gap) → T (gap_sound (bounds_of q) g) → GapIn q.clock highest mode returned g
  unfolding gap_sound bounds_of not_passed passed all_of Parts
  gap_of_lem g t =
      let p = parts (under highest g.number) (gap_tests g) t in
      record { under = under_of _ _ p.0; ahead = ahead_of _ _ _ p.1.0; detected-by = leb→le _ _ p.1.1.0; nacked-by = leb→le _ _ p.1.1.1 }

  gap_to : (g : Gap) → GapIn q.clock highest mode returned g → T (gap_sound (bounds_of q) g)
  unfolding gap_sound bounds_of not_passed passed all_of Parts
  gap_to g h =
      whole (under highest g.number) (gap_tests g) (under_to _ _ h.under, (ahead_to _ _ _ h.ahead, (le→leb _ _ h.detected-by, le→leb _ _ h.nacked-by)))

  abbrev entry_tests : List Gap → Entry → List Bool
  entry_tests gaps e =
      not_passed (bounds_of q).passed e.number
      ∷ not (some? (is e.number) gaps)
      ∷ leb e.timestamp largest
      ∷ by_clock q.clock e.arrival
      ∷ leb (length e.payload) largest_payload
      ∷ []

  entry_of_lem : (gaps : List Gap) (e : Entry) → T (entry_sound (bounds_of q) gaps e) → EntryIn q.clock highest mode returned e × Apart gaps e.number
  unfolding fields_sound bounds_of not_passed passed all_of Parts
  entry_of_lem gaps e t =
      let p = parts (at_most e.number highest) (entry_tests gaps e) t in
      (record { reached = reached_of _ _ p.0; ahead = ahead_of _ _ _ p.1.0; timestamp-fits = leb→le _ _ p.1.1.1.0; came_by = by_of _ _ p.1.1.1.1.0; payload-fits = leb→le _ _ p.1.1.1.1.1 }, apart_of_not-some e.number gaps p.1.1.0)

  entry_to : (gaps : List Gap) (e : Entry) → EntryIn q.clock highest mode returned e × Apart gaps e.number → T (entry_sound (bounds_of q) gaps e)
  unfolding fields_sound bounds_of not_passed passed all_of Parts
  entry_to gaps e (h, a) =
      whole (at_most e.number highest) (entry_tests gaps e)
      (reached_to _ _ h.reached, (ahead_to _ _ _ h.ahead, (not-some_of_apart e.number gaps a, (le→leb _ _ h.timestamp-fits, (by_to _ _ h.came_by, le→leb _ _ h.payload-fits)))))

  remembered_of_lem : (r : Remembered) → T (remembered_sound q.clock r) → RememberedIn q.clock r
  unfolding remembered_sound all_of Parts
  remembered_of_lem r t =
      let p = parts (leb r.number largest) (leb r.nacked_at q.clock ∷ []) t in
      record { number_fits = leb→le _ _ p.0; nacked-by = leb→le _ _ p.1 }

  remembered_to : (r : Remembered) → RememberedIn q.clock r → T (remembered_sound q.clock r)
  unfolding remembered_sound all_of Parts
  remembered_to r h = whole (leb r.number largest) (leb r.nacked_at q.clock ∷ []) (le→leb _ _ h.number_fits, le→leb _ _ h.nacked-by)

  abbrev queue_tests : List Bool
  queue_tests =
      returned_sound highest returned
      ∷ counters_sound q.counters
      ∷ rtx_in_range q.rtx
      ∷ jitter_in_range q.config.settings.clock_rate q.jitter
      ∷ loss_in_range q.loss
      ∷ []

  queue_of_lem : T (config_valid q.config) → T (queue_sound q) → QueueIn q × Returned highest returned
  unfolding queue_sound all_of Parts
  queue_of_lem c t =
      let p = parts (last_sound q.clock q.last) queue_tests t in
      (record { config_in = c; last_in = p.0; counters_in = counters_of _ p.1.1.0; rtx_in = rtx_of _ p.1.1.1.0; jitter_in = p.1.1.1.1.0; loss_in = p.1.1.1.1.1 }, returned_of_lem _ _ p.1.0)

  queue_to : QueueIn q → Returned highest returned → T (queue_sound q)
  unfolding queue_sound all_of Parts
  queue_to h r =
      whole (last_sound q.clock q.last) queue_tests
      (h.last_in, (returned_to _ _ r, (counters_to _ h.counters_in, (rtx_to _ h.rtx_in, (h.jitter_in, h.loss_in)))))

module _ (s : State) where
  abbrev fit_tests : List Bool
  fit_tests = leb (length s.gaps) s.queue.config.settings.max_gaps ∷ leb (length s.remembered) max_lost_nacked ∷ []

  abbrev counted : Bool
  counted = counts_fit s.queue.config.settings (length s.entries) (length s.gaps) (length s.remembered)

  fits_of : T counted → Fits s
  unfolding counts_fit all_of Parts
  fits_of t =
      let p = parts (leb (length s.entries) (entry_places s.queue.config.settings)) fit_tests t in
      record { entries_fit = leb→le _ _ p.0; gaps-fit = leb→le _ _ p.1.0; remembered-fit = leb→le _ _ p.1.1 }

  pub fits_to : Fits s → T counted
  unfolding counts_fit all_of Parts
  fits_to h =
      whole (leb (length s.entries) (entry_places s.queue.config.settings)) fit_tests
      (le→leb _ _ h.entries_fit, (le→leb _ _ h.gaps-fit, le→leb _ _ h.remembered-fit))

  abbrev bounds : Bounds
  bounds = bounds_of s.queue

  abbrev sound_tests : List Bool
  sound_tests = queue_sound s.queue ∷ gaps_sound bounds s.gaps ∷ entries_sound bounds s.gaps s.entries ∷ every? (remembered_sound s.queue.clock) s.remembered ∷ []

  pub sound_of : T (config_valid s.queue.config) → T (sound s) → Sound s
  unfolding sound lists_sound all_of Parts
  sound_of v t =
      let p = parts counted sound_tests t in
      let q = queue_of_lem s.queue v p.1.0 in
      let g = parts (ascends (gap_numbers s.gaps)) (every? (gap_sound bounds) s.gaps ∷ []) p.1.1.0 in
      let w = parts (ascends (entry_numbers s.entries)) (every? (entry_sound bounds s.gaps) s.entries ∷ []) p.1.1.1.0 in
      let e = each_of_every (entry_sound bounds s.gaps) s.entries (entry_of_lem s.queue s.gaps) w.1 in
      record {
        fits = fits_of p.0;
        queue_in = q.0;
        lists_in =
            record {
              returned_in = q.1;
              gaps_rise = rising_of_ascends _ s.gaps g.0;
              gaps_in = each_of_every (gap_sound bounds) s.gaps (gap_of_lem s.queue) g.1;
              entries_rise = rising_of_ascends _ s.entries w.0;
              entries_in = each_imp (λ x h. h.0) e;
              apart = each_imp (λ x h. h.1) e;
              remembered_in = each_of_every (remembered_sound s.queue.clock) s.remembered (remembered_of_lem s.queue) p.1.1.1.1;
            };
      }

  pub sound_to : Sound s → T (sound s)
  unfolding sound lists_sound all_of Parts
  sound_to h =
      let l = h.lists_in in
      let g = and_i (ascends (gap_numbers s.gaps)) (every? (gap_sound bounds) s.gaps) (ascends_of_rising _ s.gaps l.gaps_rise) (every_of_each (gap_sound bounds) (gap_to s.queue) l.gaps_in) in
      let e = and_i (ascends (entry_numbers s.entries)) (every? (entry_sound bounds s.gaps) s.entries) (ascends_of_rising _ s.entries l.entries_rise) (every_of_each (entry_sound bounds s.gaps) (entry_to s.queue s.gaps) (each_both l.entries_in l.apart)) in
      whole counted sound_tests
      (fits_to h.fits, (queue_to s.queue h.queue_in l.returned_in, (g, (e, every_of_each (remembered_sound s.queue.clock) (remembered_to s.queue) l.remembered_in))))

-- ---- the setting that the jitter's range rests on

pub rate-small : (c : Config) → T (config_valid c) → c.settings.clock_rate ≤ 1000000
unfolding config_valid
rate-small c t = (usable c.settings (and_l (settings_valid c.settings) (senders_valid c.senders) t)).rate
