-- A media packet that is accepted: what its checks and check 16 give the functions that queue it, and that they leave what `model` says.
use mathlib.Core.Path.{◌≡◌, refl, sym, ap, subst, ◌∙◌}
use mathlib.Core.Bool.{Bool, true, false, not}
use mathlib.Core.List.{List, [], ◌∷◌}
use Prim.Native.Nat.{ℕ, suc, ◌+◌, ◌*◌, ◌-◌, ◌≤◌, ◌<◌}
use native.Mathlib.Omega.{arith}
use lib.Dec.{T, leb, leb-suc-suc, ltb, lit<, nltb→le, nleb→lt}
use lib.Ieee.Bits.{is_true}
use lib.ListN.{length, drop, length-drop}
use borrow.Author.Tests.{lt-ltb, le-ltb}
use Rattle.words.specs.Blocks.{laid}
use Rattle.words.specs.Order.{ascends}
use Rattle.std.specs.Prelude.{Option}
use Rattle.durations.specs.Seconds.{largest}
use Rattle.refusals.specs.Refusals.{gaps_full, refuse_if, or_else}
use Rattle.refusals.proofs.Laws.{or_else-none}
use Rattle.config.specs.declared.Settings.{Settings}
use Rattle.model.specs.declared.Queue.{Queue}
use Rattle.model.specs.declared.Session.{Session}
use Rattle.model.specs.Records.{Entry, Gap, State, gap_numbers, highest_of}
use Rattle.model.specs.Rules.{is, without, gaps_from, fresh, Place, near, waits, between, gaps_after, overfull}
use Rattle.model.specs.Push.{insert_sorted, media_place, heard, count_received, queue_dropped, queue_queued, queue_pushed_out, after_queued, after_dropped, front_out_of, within_depth, after_placed}
use Rattle.model.specs.Storage.{Stored, gap_words, entry_words_of, payload_bytes_of, gap_words_of, entry_places, entries_of, gaps_of, entries_laid, payloads_laid, gaps_laid, remembered_laid, parse, write}
use Rattle.model.specs.Table.{media_values, too_many_gaps, count_refusal, packet_refusal}
use Rattle.model.proofs.Lists.{Each, each_first, each_rest, each_imp, each_map, each_following, by_nand, Rising, empty, rising_keep, rising_append, rising_map, rising_following, ascends_of_rising, length-keep, length_insert}
use Rattle.model.proofs.Laid.{parse-entries, gap_wide, length-words, gaps_of-laid, length-entries_of, length-gaps_of, length-remembered_of}
use Rattle.model.proofs.Sound.{Under}
use Rattle.model.proofs.SoundQueue.{not-refused, counts_of}
use Rattle.model.proofs.SoundPush.{Stands, is-first, is_near, is_far, is-gap, is-other, waiting-stands}
use Rattle.words.proofs.Moves.{length-padded}
use Rattle.packet_gaps.specs.Gaps.{GapsIn}
use Rattle.entries.specs.declared.Entry as Row
use Rattle.entries.specs.Entries.{entry, first_number}
use Rattle.session.specs.declared.push.Place as Code
use Rattle.session.specs.Place.{place}
use Rattle.model.specs.Contract.{stored}
use Rattle.push.specs.declared.Accepted.{Accepted}
use Rattle.push.specs.Media.{Takes, Fit}
use Rattle.storage.proofs.Settled.{Ready, holding}
use Rattle.push.proofs.Placing.{length-opened}

-- ---- what is left is what is written

pub written_as : (t : State) (s : Session) (e p g r : List ℕ) → s.queue ≡ t.queue → s.entries ≡ length t.entries → s.gaps ≡ length t.gaps → s.remembered ≡ length t.remembered
    → e ≡ entries_laid (entry_places t.queue.config.settings) t.entries → p ≡ payloads_laid (entry_places t.queue.config.settings) t.entries → g ≡ gaps_laid t.queue.config.settings.max_gaps t.gaps → r ≡ remembered_laid t.remembered
    → stored s e p g r ≡ write t
unfolding write
written_as t s e p g r hq he hg hr es ps gs rs = rw (← es, ← ps, ← gs, ← rs, ← hq, ← he, ← hg, ← hr)

front_out-is : (l : List Entry) (t : State) → 0 < length l
    → front_out_of l t ≡ record { queue = queue_pushed_out (first_number l) t.queue; entries = drop 1 l; gaps = gaps_from (first_number l) t.gaps; remembered = t.remembered }
unfolding front_out_of first_number
front_out-is [] t h = absurd (omega arith)
front_out-is (x ∷ xs) t h = refl

-- ---- the gaps

-- their numbers ascend also after the packet
rising_after : {highest : Option ℕ} {gaps : List Gap} {n : ℕ} {p : Place} (now : ℕ) → Stands highest gaps n p → Rising (λ (g : Gap). g.number) gaps → Each (λ (g : Gap). Under highest g.number) gaps → Rising (λ (g : Gap). g.number) (gaps_after now n p gaps)
unfolding gaps_after between fresh without Under
rising_after now (is-first at) r u = r
rising_after {n = n} now (is_near {h = h} at lt) r u =
    rising_append (λ (g : Gap). g.number) (suc h) r (rising_map (λ k. k) (λ (g : Gap). g.number) (fresh now) (λ k. refl) (rising_following (suc h) (n - suc h)))
    (each_imp (λ g k. let v = rw at at k in omega arith) u)
    (each_map (fresh now) (each_imp (λ k v. v.0) (each_following (suc h) (n - suc h))))
rising_after now (is_far at lt) r u = empty
rising_after {n = n} now (is-gap t) r u = rising_keep (λ (g : Gap). g.number) (λ (g : Gap). not (is n g)) r
rising_after now is-other r u = r

-- more than D with one more is D or more without it
pub full_is : (s : Session) → overfull s.queue.config.settings (suc s.entries) ≡ leb s.queue.config.settings.max_entries s.entries
full_is s = leb-suc-suc s.queue.config.settings.max_entries s.entries

-- ---- 14, then 12

module _ (s : Session) (e : Row.Entry) (p : Code.Place) where
  pub packet-refusal-is : (r a b : ℕ) (w full : Bool) → r ≡ or_else a b → w ≡ waits (place p) → full ≡ overfull s.queue.config.settings (suc s.entries) → a ≡ count_refusal (e.timestamp.0 ∷ e.number.0 ∷ media_values s.queue.counters e.size w full)
      → b ≡ refuse_if (too_many_gaps s.queue.config.settings s.gaps e.number.0 (place p)) gaps_full
      → r ≡ packet_refusal s.queue s.entries s.gaps e.timestamp.0 e.number.0 e.size (place p)
  unfolding packet_refusal
  packet-refusal-is r a b w full hr hw hf ha hb = hr ∙ rw (ha, hw, hf, hb)

-- ---- an accepted packet

module _ (a : Accepted) (m : Stored) (f : Fit a m) where
  abbrev instant : ℕ
  instant = a.found.instant

  abbrev e : Row.Entry
  e = a.found.entry

  abbrev payload : List ℕ
  payload = a.payload.now

  abbrev p : Code.Place
  p = a.found.place

  abbrev x : Entry
  x = entry e payload

  ready_for : Ready m m.storage.entries m.storage.payloads m.storage.gaps m.storage.remembered
  ready_for = holding m f.settled

  abbrev raises : List ℕ
  raises = x.timestamp ∷ x.number ∷ media_values (parse m).queue.counters (length payload) (waits (place p)) (overfull (parse m).queue.config.settings (suc (length (parse m).entries)))

  values : Each (λ v. v ≤ largest) raises
  unfolding packet_refusal
  values = counts_of raises (or_else-none _ _ f.accepted).0

  few-gaps : T (not (too_many_gaps (parse m).queue.config.settings (length (parse m).gaps) e.number.0 (place p)))
  unfolding packet_refusal
  few-gaps = not-refused _ gaps_full (lit< tt) (or_else-none (count_refusal raises) _ f.accepted).1

  pub dropped_fits : waits (place p) ≡ false → m.session.queue.counters.dropped < largest
  unfolding media_values parse
  dropped_fits w = let k = each_first (rw w at (each_rest (each_rest values))) in omega (arith, k)

  module _ (w : waits (place p) ≡ true) where
    raised : (m.session.queue.counters.received + 1 ≤ largest) × (m.session.queue.counters.bytes + length payload ≤ largest)
    unfolding media_values parse
    raised = let k = rw w at (each_rest (each_rest values)) in (each_first k, each_first (each_rest k))

    pub counters_fit : (m.session.queue.counters.received < largest) × (m.session.queue.counters.bytes + e.size ≤ largest)
    counters_fit = let i : e.size ≡ length payload = f.incoming.size in (omega (arith, raised.0), omega (arith, raised.1, i))

    stands : Stands (highest_of (parse m).queue.last) (parse m).gaps e.number.0 (place p)
    stands =
        let t : T (waits (media_place (parse m) e.number.0)) = subst T (sym (ap waits (sym f.stands) ∙ w)) tt in
        subst (Stands (highest_of (parse m).queue.last) (parse m).gaps e.number.0) (sym f.stands) (waiting-stands (parse m) e.number.0 t).1

    gaps-ascend-after : ascends (gap_numbers (gaps_after instant e.number.0 (place p) (parse m).gaps)) ≡ true
    gaps-ascend-after =
        let l = ready_for.checked.sound.lists_in in
        is_true _ (ascends_of_rising (λ (g : Gap). g.number) _ (rising_after instant stands l.gaps_rise (each_imp (λ g k. k.under) l.gaps_in)))

    takes : Takes m.storage.gaps m.session.gaps e.number.0 (place p)
    unfolding parse Takes too_many_gaps
    takes = go stands few-gaps
      where
        set : Settings
        set = m.session.queue.config.settings

        l : List Gap
        l = gaps_of m.storage.gaps m.session.gaps

        room : (h : ℕ) → h < e.number.0 → T (not (too_many_gaps set (length l) e.number.0 (near h))) → gap_words * (m.session.gaps + (e.number.0 - (h + 1))) ≤ length m.storage.gaps
        room h lt t =
            let k : length l ≡ m.session.gaps = length-gaps_of m.storage.gaps m.session.gaps in
            let size : length m.storage.gaps ≡ gap_words * set.max_gaps = ready_for.lengths.gaps in
            let fit : m.session.gaps ≤ set.max_gaps = ready_for.checked.counts.gaps in
            by_nand (ltb set.max_gaps (length l + ((e.number.0 - h) - 1))) (leb 2 (e.number.0 - h)) t
            (λ few. omega (arith, nltb→le set.max_gaps (length l + ((e.number.0 - h) - 1)) few))
            (λ one. omega (arith, nleb→lt 2 (e.number.0 - h) one))

        go : {q : Place} → Stands (highest_of m.session.queue.last) l e.number.0 q → T (not (too_many_gaps set (length l) e.number.0 q)) → Takes m.storage.gaps m.session.gaps e.number.0 q
        go (is-first at) t = tt
        go (is_near {h = h} at lt) t = (lt, room h lt t)
        go (is_far at lt) t = tt
        go (is-gap h) t = is_true _ h
        go is-other t = tt

    -- what `gaps_after` asks of them
    pub opens : GapsIn m.storage.gaps m.session.gaps × (ascends (gap_numbers (gaps_of m.storage.gaps m.session.gaps)) ≡ true) × Takes m.storage.gaps m.session.gaps e.number.0 (place p)
    opens = (ready_for.gaps_in, ready_for.gaps-ascend, takes)

    abbrev after : State
    after = after_queued instant x (place p) (parse m)

    over-is : overfull after.queue.config.settings (length after.entries) ≡ overfull m.session.queue.config.settings (suc m.session.entries)
    unfolding after_queued heard parse
    over-is = ap (ltb m.session.queue.config.settings.max_entries) (length_insert x _ ∙ ap suc (length-entries_of m.storage.entries m.storage.payloads m.session.entries))

    -- below the depth
    placed_below : m.session.entries < m.session.queue.config.settings.max_entries → after_placed instant x (place p) (parse m) ≡ after
    unfolding after_placed within_depth
    placed_below low =
        let o : overfull after.queue.config.settings (length after.entries) ≡ false = over-is ∙ le-ltb _ _ low in
        rw (w, o)

    abbrev opened : List Gap
    opened = gaps_after instant e.number.0 (place p) (gaps_of m.storage.gaps m.session.gaps)

    remembered-is : m.storage.remembered ≡ remembered_laid after.remembered
    unfolding write after_queued
    remembered-is = ap (λ (y : Stored). y.storage.remembered) f.settled.held

    module _ (q : Queue) (k : ℕ) (gs : List ℕ)
        (hq : q ≡ queue_queued instant e.timestamp.0 e.number.0 e.size (place p) m.session.queue)
        (hk : k ≡ length opened) (hg : gs ≡ laid gap_words_of (length m.storage.gaps) opened) where
      queued_is : q ≡ after.queue
      unfolding after_queued heard parse
      queued_is = hq ∙ rw f.incoming.size

      pub inserted-packet : m.session.entries < m.session.queue.config.settings.max_entries → (es ps : List ℕ)
          → es ≡ laid entry_words_of (length m.storage.entries) (insert_sorted x (entries_of m.storage.entries m.storage.payloads m.session.entries))
          → ps ≡ laid payload_bytes_of (length m.storage.payloads) (insert_sorted x (entries_of m.storage.entries m.storage.payloads m.session.entries))
          → stored (record { queue = q; entries = m.session.entries + 1; gaps = k; remembered = m.session.remembered }) es ps gs m.storage.remembered ≡ write (after_placed instant x (place p) (parse m))
      unfolding after_queued heard parse laid entries_laid payloads_laid gaps_laid
      inserted-packet low es ps he hp =
          let l = ready_for.lengths in
          let n : m.session.entries + 1 ≡ length (insert_sorted x (entries_of m.storage.entries m.storage.payloads m.session.entries)) = omega (arith, length_insert x (entries_of m.storage.entries m.storage.payloads m.session.entries), length-entries_of m.storage.entries m.storage.payloads m.session.entries) in
          written_as after (record { queue = q; entries = m.session.entries + 1; gaps = k; remembered = m.session.remembered }) es ps gs m.storage.remembered
          queued_is n hk (sym (length-remembered_of m.storage.remembered m.session.remembered))
          (he ∙ rw l.entries) (hp ∙ rw l.payloads) (hg ∙ rw l.gaps) remembered-is
          ∙ ap write (sym (placed_below low))

    -- at the depth or above it: the front one goes out
    module _ (high : m.session.queue.config.settings.max_entries ≤ m.session.entries) where
      abbrev grown : List Entry
      grown = insert_sorted x (parse m).entries

      at_depth : overfull after.queue.config.settings (length after.entries) ≡ true
      at_depth = over-is ∙ lt-ltb m.session.queue.config.settings.max_entries (suc m.session.entries) (omega arith)

      placed_over : after_placed instant x (place p) (parse m) ≡ record { queue = queue_pushed_out (first_number grown) after.queue; entries = drop 1 grown; gaps = gaps_from (first_number grown) after.gaps; remembered = after.remembered }
      unfolding after_placed within_depth after_queued
      placed_over = let o : overfull after.queue.config.settings (length after.entries) ≡ true = at_depth in rw (w, o) (front_out-is grown after (omega (arith, length_insert x (parse m).entries)))

      front_fits : m.session.queue.counters.dropped < largest
      unfolding media_values parse
      front_fits =
          let n : length (parse m).entries ≡ m.session.entries = parse-entries m in
          let o : overfull m.session.queue.config.settings (suc (length (parse m).entries)) ≡ true = lt-ltb m.session.queue.config.settings.max_entries (suc (length (parse m).entries)) (omega arith) in
          let k = rw (w, o) at (each_rest (each_rest values)) in
          omega (arith, each_first (each_rest (each_rest k)))

    -- the gaps that were opened, read again
    fits_after : gap_words * length opened ≤ length m.storage.gaps
    unfolding parse Takes gaps_after without
    fits_after = go stands takes
      where
        l : List Gap
        l = gaps_of m.storage.gaps m.session.gaps

        n-is : length l ≡ m.session.gaps
        n-is = length-gaps_of m.storage.gaps m.session.gaps

        go : {q : Place} → Stands (highest_of m.session.queue.last) l e.number.0 q → Takes m.storage.gaps m.session.gaps e.number.0 q → gap_words * length (gaps_after instant e.number.0 q l) ≤ length m.storage.gaps
        go (is-first at) t = omega (arith, n-is, ready_for.gaps_in.room)
        go (is_near {h = h} at lt) t = omega (arith, n-is, t.1, length-opened l instant h e.number.0)
        go (is_far at lt) t = omega arith
        go (is-gap h) t = omega (arith, n-is, ready_for.gaps_in.room, length-keep (λ (g : Gap). not (is e.number.0 g)) l)
        go is-other t = omega (arith, n-is, ready_for.gaps_in.room)

    module _ (k : ℕ) (gs : List ℕ) (hk : k ≡ length opened) (hg : gs ≡ laid gap_words_of (length m.storage.gaps) opened) where
      opened_are : gaps_of gs k ≡ opened
      unfolding laid gaps_laid
      opened_are = let at : gs ≡ gaps_laid m.session.queue.config.settings.max_gaps opened = hg ∙ rw ready_for.lengths.gaps in rw (at, hk) (gaps_of-laid m.session.queue.config.settings.max_gaps opened)

      opened-length : length gs ≡ length m.storage.gaps
      unfolding laid
      opened-length = ap length hg ∙ length-padded (length m.storage.gaps) _ (omega (arith, length-words gap_words gap_words_of gap_wide opened, fits_after))

      pub opened_in : GapsIn gs k
      opened_in =
          record {
            room = omega (arith, opened-length, fits_after, hk);
            held = hg ∙ rw (opened_are, opened-length);
          }

      pub opened-ascend : ascends (gap_numbers (gaps_of gs k)) ≡ true
      unfolding parse
      opened-ascend = ap (λ (l : List Gap). ascends (gap_numbers l)) opened_are ∙ gaps-ascend-after

    module _ (high : m.session.queue.config.settings.max_entries ≤ m.session.entries) (q q2 : Queue) (k k2 front : ℕ) (gs gs2 es ps : List ℕ)
        (hq : q ≡ queue_queued instant e.timestamp.0 e.number.0 e.size (place p) m.session.queue)
        (hk : k ≡ length opened) (hg : gs ≡ laid gap_words_of (length m.storage.gaps) opened) where
      pub still_fits : q.counters.dropped < largest
      unfolding count_received
      still_fits = let d : q.counters.dropped ≡ m.session.queue.counters.dropped = ap (λ (y : Queue). y.counters.dropped) hq in omega (arith, d, front_fits high)

      pub pushed_out_packet : q2 ≡ queue_pushed_out front q
          → front ≡ first_number (insert_sorted x (entries_of m.storage.entries m.storage.payloads m.session.entries))
          → es ≡ laid entry_words_of (length m.storage.entries) (drop 1 (insert_sorted x (entries_of m.storage.entries m.storage.payloads m.session.entries)))
          → ps ≡ laid payload_bytes_of (length m.storage.payloads) (drop 1 (insert_sorted x (entries_of m.storage.entries m.storage.payloads m.session.entries)))
          → k2 ≡ length (gaps_from front (gaps_of gs k)) → gs2 ≡ laid gap_words_of (length gs) (gaps_from front (gaps_of gs k))
          → stored (record { queue = q2; entries = m.session.entries; gaps = k2; remembered = m.session.remembered }) es ps gs2 m.storage.remembered ≡ write (after_placed instant x (place p) (parse m))
      unfolding after_queued heard parse laid entries_laid payloads_laid gaps_laid
      pushed_out_packet hq2 hf he hp hk2 hg2 =
          let l = ready_for.lengths in
          let old = entries_of m.storage.entries m.storage.payloads m.session.entries in
          let n : m.session.entries ≡ length (drop 1 (insert_sorted x old)) = omega (arith, length-drop 1 (insert_sorted x old), length_insert x old, length-entries_of m.storage.entries m.storage.payloads m.session.entries) in
          let left : gaps_from front (gaps_of gs k) ≡ gaps_from (first_number (insert_sorted x old)) opened = rw (hf, opened_are k gs hk hg) in
          let cap : length gs ≡ gap_words * m.session.queue.config.settings.max_gaps = opened-length k gs hk hg ∙ l.gaps in
          let q-is : q ≡ after.queue = queued_is q k gs hq hk hg in
          written_as (record { queue = queue_pushed_out (first_number (insert_sorted x old)) after.queue; entries = drop 1 (insert_sorted x old); gaps = gaps_from (first_number (insert_sorted x old)) opened; remembered = after.remembered })
          (record { queue = q2; entries = m.session.entries; gaps = k2; remembered = m.session.remembered }) es ps gs2 m.storage.remembered
          (hq2 ∙ rw (hf, q-is)) n (hk2 ∙ ap length left) (sym (length-remembered_of m.storage.remembered m.session.remembered))
          (he ∙ rw l.entries) (hp ∙ rw l.payloads) (hg2 ∙ rw (left, cap)) remembered-is
          ∙ ap write (sym (placed_over high))

  -- ---- dropped, or queued

  pub dropped_packet : waits (place p) ≡ false → (q : Queue) → q ≡ queue_dropped instant e.timestamp.0 m.session.queue
      → stored (record { queue = q; entries = m.session.entries; gaps = m.session.gaps; remembered = m.session.remembered }) m.storage.entries m.storage.payloads m.storage.gaps m.storage.remembered ≡ write (after_placed instant x (place p) (parse m))
  unfolding after_placed after_dropped heard parse write
  dropped_packet w q hq =
      written_as (after_dropped instant e.timestamp.0 (parse m)) (record { queue = q; entries = m.session.entries; gaps = m.session.gaps; remembered = m.session.remembered }) m.storage.entries m.storage.payloads m.storage.gaps m.storage.remembered
      hq (ap (λ (y : Stored). y.session.entries) f.settled.held) (ap (λ (y : Stored). y.session.gaps) f.settled.held) (ap (λ (y : Stored). y.session.remembered) f.settled.held)
      (ap (λ (y : Stored). y.storage.entries) f.settled.held) (ap (λ (y : Stored). y.storage.payloads) f.settled.held) (ap (λ (y : Stored). y.storage.gaps) f.settled.held) (ap (λ (y : Stored). y.storage.remembered) f.settled.held)
      ∙ rw w
