-- A media packet or a repair that is not refused leaves a sound session.
use mathlib.Core.Path.{◌≡◌, refl, subst}
use mathlib.Core.Bool.{not}
use mathlib.Core.List.{List, [], ◌∷◌}
use Prim.Native.Nat.{ℕ, suc, ◌+◌, ◌-◌, ◌*◌, ◌≤◌, ◌<◌}
use native.Mathlib.Omega.{arith}
use lib.Dec.{T, leb, ltb, ltb→lt, nleb→lt, nltb→le, lit<}
use lib.ListN.{length, length-append, length-map, length-drop}
use Rattle.rtp.specs.Opt.{number_of}
use Rattle.model.specs.declared.Received.{Received}
use Rattle.std.specs.Prelude.{Option, None, Some}
use Rattle.refusals.specs.Refusals.{gaps_full, entries_full}
use Rattle.refusals.proofs.Laws.{or_else-none}
use Rattle.durations.specs.Seconds.{largest}
use Rattle.rtp_packet.specs.Header.{payload_of}
use Rattle.rtp_packet.specs.Datagram.{largest_payload, largest_repair}
use Rattle.rtp_packet.specs.Original.{original_payload}
use Rattle.rtx_state.specs.Repair.{record_in_time, record_redundant, record_too_late}
use Rattle.rtp_packet.proofs.Bounds.{payload-fits}
use Rattle.packet_loss.proofs.Range.{received_in, lost_in}
use Rattle.config.specs.declared.Settings.{Settings}
use Rattle.config.specs.declared.RtpInboundQueueMode.{RtpInboundQueueMode}
use Rattle.model.specs.Lists.{some?}
use Rattle.model.specs.Records.{Entry, Gap, Remembered, State, highest_of}
use Rattle.model.specs.Rules.{max_gap_size, max_lost_nacked, is, below, without, gaps_from, Place, first, near, far, fills, other, place_of, waits, between, gaps_after, is_of, forget_first, overfull}
use Rattle.model.specs.Push.{passed, insert_sorted, media_place, heard, last_after, count_dropped, count_received, after_dropped, after_queued, front_out_of, within_depth, media_entry_of, after_media, Fate, too_late, recovered, redundant, repair_fate, repair_entry, after_fate, after_repair}
use Rattle.model.specs.Storage.{entry_places}
use Rattle.model.specs.Table.{media_values, too_many_gaps, packet_refusal, media_refusal, original_number_refusal, fate_values, no_place, fate_refusal, repair_refusal}
use Rattle.model.proofs.Lists.{by_cases, by_nand, arm_yes, arm_no, Each, none, more, each_first, each_rest, each_keep, empty, rising_keep, length-keep, length-following, length_insert}
use Rattle.model.proofs.Sound.{Reached, Ahead, ahead_of, By, EntryIn, ListsIn, QueueIn, ListsOf, Sound}
use Rattle.model.proofs.SoundLists.{reached_gap, later, fewer, remembering, out, fill, come, step, from-ahead}
use Rattle.model.proofs.SoundQueue.{not-refused, clock_of, counts_of, last-after, sample_in, clock-set, last_set, returned-set, rtx_set, counters_set, loss-set, dropped_in, heard_in_lem}

-- ---- where a media number stands

pub data Stands (highest : Option ℕ) (gaps : List Gap) (n : ℕ) : Place → Type 0 where
  is-first : highest ≡ None → Stands highest gaps n first
  is_near : {h : ℕ} → highest ≡ Some h → h < n → Stands highest gaps n (near h)
  is_far : {h : ℕ} → highest ≡ Some h → h < n → Stands highest gaps n (far h)
  is-gap : T (some? (is n) gaps) → Stands highest gaps n fills
  is-other : Stands highest gaps n other

pub stands : (highest : Option ℕ) (gaps : List Gap) (n : ℕ) → Stands highest gaps n (place_of highest gaps n)
unfolding place_of
stands None gaps n = is-first refl
stands (Some h) gaps n =
    by_cases (Stands (Some h) gaps n) (ltb h n)
    (λ lt. by_cases (Stands (Some h) gaps n) (leb (n - h) max_gap_size) (λ y. is_near refl (ltb→lt h n lt)) (λ z. is_far refl (ltb→lt h n lt)))
    (λ ge. by_cases (Stands (Some h) gaps n) (some? (is n) gaps) (λ t. is-gap t) (λ z. is-other))

pub waiting-stands : (s : State) (n : ℕ) → T (waits (media_place s n)) → Ahead s.queue.config.settings.mode (number_of s.queue.returned) n × Stands (highest_of s.queue.last) s.gaps n (media_place s n)
unfolding media_place waits
waiting-stands s n =
    by_cases P (passed mode returned n) (λ y w. absurd w) (λ z w. (ahead_of mode returned n z, stands (highest_of s.queue.last) s.gaps n))
  where
    mode : RtpInboundQueueMode
    mode = s.queue.config.settings.mode

    returned : Option ℕ
    returned = number_of s.queue.returned

    P : Place → Type 0
    P p = T (waits p) → Ahead mode returned n × Stands (highest_of s.queue.last) s.gaps n p

-- ---- it comes to wait

module _ {now : ℕ} {mode : RtpInboundQueueMode} {returned : Option ℕ} {gaps : List Gap} {entries : List Entry} {remembered : List Remembered} where
  lists_queued : (last : Option Received) (e : Entry) {p : Place} → ListsIn now (highest_of last) mode returned gaps entries remembered → Stands (highest_of last) gaps e.number p → T (waits p) → Ahead mode returned e.number
      → By now e.arrival → e.timestamp ≤ largest → length e.payload ≤ largest_payload
      → ListsIn now (highest_of (last_after now e.timestamp e.number p last)) mode returned (gaps_after now e.number p gaps) (insert_sorted e entries) remembered
  unfolding highest_of last_after gaps_after waits Reached
  lists_queued last e l st w ahead by ts size = go st w
    where
      new : EntryIn now (Some e.number) mode returned e
      new = record { reached = omega arith; ahead = ahead; timestamp-fits = ts; came_by = by; payload-fits = size }

      go : {p : Place} → Stands (highest_of last) gaps e.number p → T (waits p) → ListsIn now (highest_of (last_after now e.timestamp e.number p last)) mode returned (gaps_after now e.number p gaps) (insert_sorted e entries) remembered
      go (is-first none_yet) w = come l e new (λ j r. absurd (rw none_yet at r))
      go (is_near at lt) w = step (rw at at l) e new lt
      go (is_far at lt) w = come (fewer l (λ P k. none) empty) e new (λ j r. let le = rw at at r in omega arith)
      go (is-gap t) w =
          fill l e (record { reached = reached_gap l e.number t; ahead = ahead; timestamp-fits = ts; came_by = by; payload-fits = size }) t
      go is-other w = absurd w

-- check 12: the gaps that open find places
gaps-after-fit : {highest : Option ℕ} {gaps : List Gap} {n : ℕ} {p : Place} (now : ℕ) (set : Settings) → Stands highest gaps n p → length gaps ≤ set.max_gaps → T (not (too_many_gaps set (length gaps) n p)) → length (gaps_after now n p gaps) ≤ set.max_gaps
unfolding gaps_after too_many_gaps without between
gaps-after-fit now set (is-first at) fit t = fit
gaps-after-fit {gaps = gaps} {n = n} now set (is_near {h = h} at lt) fit t =
    simp (length-append, length-map, length-following)
    (by_nand (ltb set.max_gaps (length gaps + ((n - h) - 1))) (leb 2 (n - h)) t
    (λ few. omega (arith, nltb→le set.max_gaps (length gaps + ((n - h) - 1)) few))
    (λ one. omega (arith, nleb→lt 2 (n - h) one)))
gaps-after-fit now set (is_far at lt) fit t = omega arith
gaps-after-fit {gaps = gaps} {n = n} now set (is-gap t) fit u = omega (arith, length-keep (λ (g : Gap). not (is n g)) gaps)
gaps-after-fit now set is-other fit t = fit

-- ---- the depth

module _ (s : State) (q : QueueIn s.queue) (l : ListsOf s) (entries_fit : length s.entries ≤ suc (2 * s.queue.config.settings.max_entries)) (gaps-fit : length s.gaps ≤ s.queue.config.settings.max_gaps) (remembered-fit : length s.remembered ≤ max_lost_nacked) where
  front_out : (es : List Entry) → s.entries ≡ es → T (overfull s.queue.config.settings (length s.entries)) → s.queue.counters.dropped + 1 ≤ largest → Sound (front_out_of es s)
  unfolding front_out_of count_dropped gaps_from number_of
  front_out [] e t d = let all : length s.entries ≡ 0 = rw e refl in absurd (omega (arith, ltb→lt s.queue.config.settings.max_entries (length s.entries) t))
  front_out (x ∷ xs) e t d =
      let all : length s.entries ≡ suc (length xs) = rw e refl in
      record {
        fits = record { entries_fit = omega arith; gaps-fit = omega (arith, length-keep (λ (g : Gap). not (below x.number g)) s.gaps); remembered-fit = remembered-fit };
        queue_in = returned-set (dropped_in q d) x.number;
        lists_in =
            out l e (λ P k. each_keep (λ (g : Gap). not (below x.number g)) k) (rising_keep _ (λ (g : Gap). not (below x.number g)) l.gaps_rise)
            (from-ahead s.queue.config.settings.mode x.number s.gaps (each_first (rw e at l.apart)));
      }

  depth : (T (overfull s.queue.config.settings (length s.entries)) → s.queue.counters.dropped + 1 ≤ largest) → Sound (within_depth s)
  unfolding within_depth
  depth d =
      by_cases Sound (overfull s.queue.config.settings (length s.entries)) (λ t. front_out s.entries refl t (d t))
      (λ t. record { fits = record { entries_fit = omega (arith, nltb→le s.queue.config.settings.max_entries (length s.entries) t); gaps-fit = gaps-fit; remembered-fit = remembered-fit }; queue_in = q; lists_in = l })

-- ---- a media packet

-- a queued packet leaves one entry more
one_more : (now : ℕ) (s : State) (e : Entry) (p : Place) → let after = after_queued now e p s in T (overfull after.queue.config.settings (length after.entries)) → T (overfull s.queue.config.settings (suc (length s.entries)))
unfolding after_queued heard
one_more now s e p t = subst (λ (n : ℕ). T (overfull s.queue.config.settings n)) (length_insert e s.entries) t

module _ (now : ℕ) (s : State) (h : Sound s) (later-now : s.queue.clock ≤ now) (now-fits : now ≤ largest) where
  dropped_sound : (ts : ℕ) → ts ≤ largest → s.queue.counters.dropped + 1 ≤ largest → Sound (after_dropped now ts s)
  unfolding after_dropped heard count_dropped
  dropped_sound ts a d =
      let q = heard_in_lem s.queue h.queue_in later-now now-fits a in
      record {
        fits = record { entries_fit = h.fits.entries_fit; gaps-fit = h.fits.gaps-fit; remembered-fit = h.fits.remembered-fit };
        queue_in = dropped_in q d;
        lists_in = later h.lists_in later-now;
      }

  queued_queue : (e : Entry) (p : Place) → e.timestamp ≤ largest → e.number ≤ largest → s.queue.counters.received + 1 ≤ largest → s.queue.counters.bytes + length e.payload ≤ largest → QueueIn (after_queued now e p s).queue
  unfolding after_queued heard count_received
  queued_queue e p a b r y =
      let q = heard_in_lem s.queue h.queue_in later-now now-fits a in
      let c = q.counters_in in
      loss-set (counters_set (last_set q (last-after now p s.queue.last a b q.last_in)) (record { dropped_fits = c.dropped_fits; received-fits = r; bytes_fit = y; lost_fits = c.lost_fits }))
      (received_in s.queue.loss q.loss_in)

  queued_sound : (e : Entry) → let p = media_place s e.number in T (waits p) → By now e.arrival → length e.payload ≤ largest_payload → Each (λ v. v ≤ largest) (e.timestamp ∷ e.number ∷ media_values s.queue.counters (length e.payload) (waits p) (overfull s.queue.config.settings (suc (length s.entries)))) → T (not (too_many_gaps s.queue.config.settings (length s.gaps) e.number p)) → Sound (within_depth (after_queued now e p s))
  unfolding media_values after_queued heard count_received
  queued_sound e w by size values room =
      let p = media_place s e.number in
      let st = waiting-stands s e.number w in
      let raised = arm_yes (Each (λ v. v ≤ largest)) (waits p) _ _ w (each_rest (each_rest values)) in
      depth (after_queued now e p s)
      (queued_queue e p (each_first values) (each_first (each_rest values)) (each_first raised) (each_first (each_rest raised)))
      (lists_queued s.queue.last e (later h.lists_in later-now) st.1 w st.0 by (each_first values) size)
      (omega (arith, length_insert e s.entries, h.fits.entries_fit))
      (gaps-after-fit now s.queue.config.settings st.1 h.fits.gaps-fit room)
      h.fits.remembered-fit
      (λ t. each_first (arm_yes (Each (λ v. v ≤ largest)) (overfull s.queue.config.settings (suc (length s.entries))) _ _ (one_more now s e p t) (each_rest (each_rest raised))))

pub media_sound : (now : ℕ) (d : List ℕ) (s : State) → Sound s → media_refusal now d s ≡ 0 → Sound (after_media now d s)
unfolding media_refusal packet_refusal after_media media_entry_of media_values By
media_sound now d s h e =
    let x = media_entry_of now d s.queue in
    let p = media_place s x.number in
    let a = or_else-none _ _ e in
    let b = or_else-none _ _ a.1 in
    let c = or_else-none _ _ b.1 in
    let t = clock_of s.queue now a.0 in
    let values = counts_of _ c.0 in
    by_cases Sound (waits p)
    (λ w. queued_sound now s h t.0 t.1 x w (omega arith) (payload-fits _ _ largest_payload d b.0) values (not-refused (too_many_gaps s.queue.config.settings (length s.gaps) x.number p) gaps_full (lit< tt) c.1))
    (λ n. dropped_sound now s h t.0 t.1 x.timestamp (each_first values) (each_first (arm_no (Each (λ v. v ≤ largest)) (waits p) _ _ n (each_rest (each_rest values)))))

-- ---- a repair

each_forget : {P : Remembered → Type 0} {l : List Remembered} (n : ℕ) → Each P l → Each P (forget_first n l)
unfolding forget_first
each_forget n none = none
each_forget {P} n (more {x = r} h t) = by_cases (Each P) (is_of n r) (λ y. t) (λ z. more h (each_forget n t))

length-forget : (n : ℕ) (l : List Remembered) → length (forget_first n l) ≤ length l
unfolding forget_first
length-forget n [] = omega arith
length-forget n (r ∷ rs) = let ih = length-forget n rs in by_cases (λ (l : List Remembered). length l ≤ suc (length rs)) (is_of n r) (λ y. omega arith) (λ z. omega arith)

module _ (now : ℕ) (e : Entry) (s : State) (h : Sound s) (later-now : s.queue.clock ≤ now) (now-fits : now ≤ largest) where
  abbrev q : QueueIn s.queue
  q = h.queue_in

  too_late_sound : Each (λ v. v ≤ largest) (fate_values s.queue.rtx (length e.payload) too_late) → Sound (after_fate now e too_late s)
  unfolding after_fate fate_values record_too_late
  too_late_sound values =
      let l = later h.lists_in later-now in
      let raised = each_first values in
      record {
        fits = record { entries_fit = h.fits.entries_fit; gaps-fit = h.fits.gaps-fit; remembered-fit = omega (arith, length-forget e.number s.remembered, h.fits.remembered-fit) };
        queue_in = rtx_set (clock-set q later-now) (record { rtt_in = sample_in _ s.queue.rtx.rtt now-fits q.rtx_in.rtt_in; in_time_fits = q.rtx_in.in_time_fits; too_late_fits = omega arith; redundant_fits = q.rtx_in.redundant_fits; bytes_fit = q.rtx_in.bytes_fit });
        lists_in = remembering l (each_forget e.number l.remembered_in);
      }

  redundant_sound : Each (λ v. v ≤ largest) (fate_values s.queue.rtx (length e.payload) redundant) → Sound (after_fate now e redundant s)
  unfolding after_fate fate_values record_redundant
  redundant_sound values =
      let raised = each_first values in
      record {
        fits = record { entries_fit = h.fits.entries_fit; gaps-fit = h.fits.gaps-fit; remembered-fit = h.fits.remembered-fit };
        queue_in = rtx_set (clock-set q later-now) (record { rtt_in = q.rtx_in.rtt_in; in_time_fits = q.rtx_in.in_time_fits; too_late_fits = q.rtx_in.too_late_fits; redundant_fits = omega arith; bytes_fit = q.rtx_in.bytes_fit });
        lists_in = later h.lists_in later-now;
      }

  recovered_sound : Each (λ v. v ≤ largest) (fate_values s.queue.rtx (length e.payload) recovered) → T (not (no_place (entry_places s.queue.config.settings) (length s.entries) recovered)) → EntryIn now (highest_of s.queue.last) s.queue.config.settings.mode (number_of s.queue.returned) e → T (some? (is e.number) s.gaps) → Sound (after_fate now e recovered s)
  unfolding after_fate fate_values record_in_time no_place without
  recovered_sound values room k t =
      let raised = each_first values in
      let bytes = each_first (each_rest values) in
      record {
        fits =
            record {
              entries_fit = omega (arith, length_insert e s.entries, nleb→lt (entry_places s.queue.config.settings) (length s.entries) room);
              gaps-fit = omega (arith, length-keep (λ (g : Gap). not (is e.number g)) s.gaps, h.fits.gaps-fit);
              remembered-fit = h.fits.remembered-fit;
            };
        queue_in = loss-set (rtx_set (clock-set q later-now) (record { rtt_in = sample_in _ s.queue.rtx.rtt now-fits q.rtx_in.rtt_in; in_time_fits = omega arith; too_late_fits = q.rtx_in.too_late_fits; redundant_fits = q.rtx_in.redundant_fits; bytes_fit = omega arith })) (lost_in s.queue.loss 1 q.loss_in);
        lists_in = fill (later h.lists_in later-now) e k t;
      }

  fate-sound : e.arrival ≡ None → e.timestamp ≤ largest → length e.payload ≤ largest_payload → (let f = repair_fate s e.number in Each (λ v. v ≤ largest) (fate_values s.queue.rtx (length e.payload) f) → T (not (no_place (entry_places s.queue.config.settings) (length s.entries) f)) → Sound (after_fate now e f s))
  unfolding repair_fate By
  fate-sound none_came ts size =
      by_cases P (passed mode returned e.number) (λ y values room. too_late_sound values)
      (λ z.
      by_cases P (some? (is e.number) s.gaps)
      (λ t values room.
      recovered_sound values room
      (record { reached = reached_gap h.lists_in e.number t; ahead = ahead_of mode returned e.number z; timestamp-fits = ts; came_by = rw none_came tt; payload-fits = size })
      t)
      (λ n values room. redundant_sound values))
    where
      mode : RtpInboundQueueMode
      mode = s.queue.config.settings.mode

      returned : Option ℕ
      returned = number_of s.queue.returned

      P : Fate → Type 0
      P f = Each (λ v. v ≤ largest) (fate_values s.queue.rtx (length e.payload) f) → T (not (no_place (entry_places s.queue.config.settings) (length s.entries) f)) → Sound (after_fate now e f s)

pub repair_sound : (now : ℕ) (d : List ℕ) (s : State) → Sound s → repair_refusal now d s ≡ 0 → Sound (after_repair now d s)
unfolding repair_refusal original_number_refusal fate_refusal after_repair repair_entry original_payload
repair_sound now d s h e =
    let x = repair_entry d s.queue in
    let a = or_else-none _ _ e in
    let b = or_else-none _ _ a.1 in
    let c = or_else-none _ _ b.1 in
    let o = or_else-none _ _ c.1 in
    let v = or_else-none _ _ o.1 in
    let t = clock_of s.queue now a.0 in
    let values = counts_of (x.timestamp ∷ x.number ∷ fate_values s.queue.rtx (length x.payload) (repair_fate s x.number)) v.0 in
    fate-sound now x s h t.0 t.1 refl (each_first values) (omega (arith, length-drop 2 (payload_of d), payload-fits _ _ largest_repair d c.0)) (each_rest (each_rest values))
    (not-refused _ entries_full (lit< tt) v.1)
