-- A repair that is accepted: what its checks and check 16 give the functions over the lists, and that what they leave is what `model` says.
use mathlib.Core.Path.{◌≡◌, refl, sym, ap, ◌∙◌}
use mathlib.Core.Bool.{Bool, true, false, cond}
use mathlib.Core.List.{List, [], ◌∷◌}
use Prim.Native.Nat.{ℕ, suc, ◌+◌, ◌*◌, ◌-◌, ◌≤◌, ◌<◌}
use native.Mathlib.Omega.{arith}
use lib.Dec.{leb, lit<, nleb→lt}
use lib.ListN.{length}
use borrow.Author.Tests.{eq-eqb}
use Rattle.words.specs.Blocks.{laid}
use Rattle.words.specs.Order.{ascends}
use Rattle.packet_gaps.specs.Gaps.{GapsIn}
use Rattle.std.specs.Prelude.{Option, None, Some}
use Rattle.refusals.specs.declared.Refusal.{Refusal}
use Rattle.refusals.specs.Refusals.{number, entries_full, refuse_if, or_else}
use Rattle.refusals.proofs.Laws.{or_else-none, number_refuses}
use Rattle.rtp_packet.specs.Datagram.{largest_payload}
use Rattle.rtx_state.specs.Repair.{record_too_late, record_in_time}
use Rattle.model.specs.declared.Queue.{Queue}
use Rattle.model.specs.declared.Session.{Session}
use Rattle.model.specs.Lists.{keep, some?}
use Rattle.rtp.specs.Opt.{number_of}
use Rattle.model.specs.Records.{Entry, Remembered, State, entry_numbers, gap_numbers}
use Rattle.model.specs.Rules.{is, gap_of, without, once_of, instant_of, is_of, forget_first}
use Rattle.model.specs.Push.{passed, insert_sorted, too_late, recovered, redundant, repair_fate, queue_too_late, queue_redundant, queue_recovered, after_fate}
use Rattle.model.specs.Storage.{Stored, entry_words, payload_bytes, arrival_word, entry_words_of, payload_bytes_of, gap_words_of, remembered_words_of, entry_places, entries_of, gaps_of, remembered_of, entries_laid, payloads_laid, gaps_laid, remembered_laid, parse, write}
use Rattle.model.specs.Calls as Calls
use Rattle.model.specs.Table.{count_refusal, fate_values, no_place, fate_refusal, refusal_for, session_sound}
use Rattle.model.proofs.Lists.{length_insert}
use Rattle.model.proofs.Laid.{length-entries_of, length-remembered_of}
use Rattle.model.proofs.SoundQueue.{not-refused}
use Rattle.entries.specs.declared.Entry as Row
use Rattle.entries.specs.Entries.{EntriesIn, entry, Incoming}
use Rattle.session.specs.declared.rtx.Fate as Code
use Rattle.session.specs.declared.rtx.Fate.TheVariants as Variant
use Rattle.session.specs.Place.{fate}
use Rattle.model.specs.Contract.{stored}
use Rattle.storage.specs.Settled.{Settled}
use Rattle.push.specs.declared.rtx.Repair.{Repair}
use Rattle.push.specs.Repair.{left_after, did_fate, did_repair, FitRepair, repaired_by}
use Rattle.storage.proofs.Settled.{Ready, holding, settled_of}
use Rattle.push.proofs.Placing.{length-filled}
use Rattle.push.proofs.Pushing.{refusal_for_lem}
use Rattle.push.proofs.Queueing.{written_as}

-- ---- a remembered number that goes

unfoldable Left : ℕ → ℕ → Option ℕ → Type 0
Left n k None = k ≡ n
Left n k (Some i) = suc k ≡ n

left_more : (n k : ℕ) (o : Option ℕ) → Left n k o → Left (suc n) (suc k) o
unfolding Left
left_more n k None h = ap suc h
left_more n k (Some i) h = ap suc h

forget-left : (x : ℕ) (l : List Remembered) → Left (length l) (length (forget_first x l)) (instant_of (keep (is_of x) l))
unfolding Left forget_first instant_of keep
forget-left x [] = refl
forget-left x (r ∷ rs) = go (is_of x r) (forget-left x rs)
  where
    go : (b : Bool) → Left (length rs) (length (forget_first x rs)) (instant_of (keep (is_of x) rs)) → Left (suc (length rs)) (length (cond b rs (r ∷ forget_first x rs))) (instant_of (cond b (r ∷ keep (is_of x) rs) (keep (is_of x) rs)))
    go true h = refl
    go false h = left_more (length rs) (length (forget_first x rs)) (instant_of (keep (is_of x) rs)) h

left_is : (n k : ℕ) (o : Option ℕ) → Left n k o → left_after n o ≡ k
unfolding Left left_after
left_is n k None h = sym h
left_is n k (Some i) h = omega arith

left-some : (n k : ℕ) (o : Option ℕ) (i : ℕ) → o ≡ Some i → Left n k o → 0 < n
unfolding Left
left-some n k o i e h = let g = rw e at h in omega arith

-- ---- too late

module _ (r : Repair) (m : Stored) (s : Settled m) where
  ready_late : Ready m m.storage.entries m.storage.payloads m.storage.gaps m.storage.remembered
  ready_late = holding m s

  abbrev held : List Remembered
  held = remembered_of m.storage.remembered m.session.remembered

  pub taken-some : (o : Option ℕ) → o ≡ instant_of (keep (is_of r.entry.number.0) held) → (i : ℕ) → o ≡ Some i → 0 < m.session.remembered
  taken-some o h i g = let n : length held ≡ m.session.remembered = length-remembered_of m.storage.remembered m.session.remembered in
      omega (arith, left-some (length held) (length (forget_first r.entry.number.0 held)) (instant_of (keep (is_of r.entry.number.0) held)) i (sym h ∙ g) (forget-left r.entry.number.0 held))

  pub late_is : (q : Queue) (o : Option ℕ) (k : ℕ) (rs : List ℕ) → o ≡ instant_of (keep (is_of r.entry.number.0) held)
      → q ≡ queue_too_late r.instant o m.session.queue
      → k ≡ left_after m.session.remembered o → rs ≡ laid remembered_words_of (length m.storage.remembered) (forget_first r.entry.number.0 held)
      → stored (record { queue = q; entries = m.session.entries; gaps = m.session.gaps; remembered = k }) m.storage.entries m.storage.payloads m.storage.gaps rs ≡ repaired_by r Variant.TooLate m
  unfolding fate after_fate parse write laid remembered_laid record_too_late
  late_is q o k rs ho hq hk hr =
      let n : length held ≡ m.session.remembered = length-remembered_of m.storage.remembered m.session.remembered in
      let left : k ≡ length (forget_first r.entry.number.0 held) = hk ∙ ap (left_after m.session.remembered) ho ∙ ap (λ (j : ℕ). left_after j (instant_of (keep (is_of r.entry.number.0) held))) (sym n) ∙ left_is (length held) (length (forget_first r.entry.number.0 held)) (instant_of (keep (is_of r.entry.number.0) held)) (forget-left r.entry.number.0 held) in
      written_as (after_fate r.instant (entry r.entry r.payload.now) too_late (parse m)) (record { queue = q; entries = m.session.entries; gaps = m.session.gaps; remembered = k }) m.storage.entries m.storage.payloads m.storage.gaps rs
      (hq ∙ rw ho) (ap (λ (y : Stored). y.session.entries) s.held) (ap (λ (y : Stored). y.session.gaps) s.held) left
      (ap (λ (y : Stored). y.storage.entries) s.held) (ap (λ (y : Stored). y.storage.payloads) s.held) (ap (λ (y : Stored). y.storage.gaps) s.held) (hr ∙ rw ready_late.lengths.remembered)

  -- ---- redundant

  pub redundant_is : (q : Queue) → q ≡ queue_redundant r.instant m.session.queue
      → stored (record { queue = q; entries = m.session.entries; gaps = m.session.gaps; remembered = m.session.remembered }) m.storage.entries m.storage.payloads m.storage.gaps m.storage.remembered ≡ write (after_fate r.instant (entry r.entry r.payload.now) redundant (parse m))
  unfolding after_fate parse write
  redundant_is q hq =
      written_as (after_fate r.instant (entry r.entry r.payload.now) redundant (parse m)) (record { queue = q; entries = m.session.entries; gaps = m.session.gaps; remembered = m.session.remembered }) m.storage.entries m.storage.payloads m.storage.gaps m.storage.remembered
      hq (ap (λ (y : Stored). y.session.entries) s.held) (ap (λ (y : Stored). y.session.gaps) s.held) (ap (λ (y : Stored). y.session.remembered) s.held)
      (ap (λ (y : Stored). y.storage.entries) s.held) (ap (λ (y : Stored). y.storage.payloads) s.held) (ap (λ (y : Stored). y.storage.gaps) s.held) (ap (λ (y : Stored). y.storage.remembered) s.held)

-- ---- recovered

fate-some : (a b : Bool) → recovered ≡ cond a too_late (cond b recovered redundant) → b ≡ true
fate-some true b e = let z : ◌≡◌ {A = ℕ} 0 1 = cc in absurd (omega arith)
fate-some false true e = refl
fate-some false false e = let z : ◌≡◌ {A = ℕ} 0 1 = cc in absurd (omega arith)

module _ (r : Repair) (m : Stored) (f : FitRepair r Variant.Recovered m) where
  abbrev x : Entry
  x = entry r.entry r.payload.now

  ready_repair : Ready m m.storage.entries m.storage.payloads m.storage.gaps m.storage.remembered
  ready_repair = ready_late r m f.settled

  open_gap : some? (is r.entry.number.0) (gaps_of m.storage.gaps m.session.gaps) ≡ true
  unfolding fate repair_fate parse
  open_gap = fate-some (passed m.session.queue.config.settings.mode (number_of m.session.queue.returned) r.entry.number.0) _ f.meets

  place-left : m.session.entries < entry_places m.session.queue.config.settings
  unfolding fate fate_refusal no_place parse
  place-left =
      let t = not-refused (leb (entry_places m.session.queue.config.settings) (length (entries_of m.storage.entries m.storage.payloads m.session.entries))) entries_full (lit< tt) (or_else-none _ _ f.accepted).1 in
      let n : length (entries_of m.storage.entries m.storage.payloads m.session.entries) ≡ m.session.entries = length-entries_of m.storage.entries m.storage.payloads m.session.entries in
      omega (arith, n, nleb→lt (entry_places m.session.queue.config.settings) (length (entries_of m.storage.entries m.storage.payloads m.session.entries)) t)

  -- what the functions over the lists ask
  pub gap_goes : GapsIn m.storage.gaps m.session.gaps × (ascends (gap_numbers (gaps_of m.storage.gaps m.session.gaps)) ≡ true) × (some? (is r.entry.number.0) (gaps_of m.storage.gaps m.session.gaps) ≡ true)
  gap_goes = (ready_repair.gaps_in, ready_repair.gaps-ascend, open_gap)

  pub entry_comes : EntriesIn m.storage.entries m.storage.payloads m.session.entries × (ascends (entry_numbers (entries_of m.storage.entries m.storage.payloads m.session.entries)) ≡ true)
      × ((entry_words * m.session.entries + entry_words ≤ length m.storage.entries) × (payload_bytes * m.session.entries + payload_bytes ≤ length m.storage.payloads))
  entry_comes = (ready_repair.entries_in, ready_repair.entries-ascend, (omega (arith, ready_repair.lengths.entries, place-left), omega (arith, ready_repair.lengths.payloads, place-left)))

  pub one_left : 0 < m.session.gaps
  one_left = (length-filled m.storage.gaps m.session.gaps r.entry.number.0 ready_repair.gaps-ascend open_gap).0

  pub recovered_is : (q : Queue) (o : Option ℕ) (es ps gs : List ℕ) → o ≡ once_of (gap_of r.entry.number.0 (gaps_of m.storage.gaps m.session.gaps))
      → q ≡ queue_recovered r.instant o r.entry.size m.session.queue
      → es ≡ laid entry_words_of (length m.storage.entries) (insert_sorted x (entries_of m.storage.entries m.storage.payloads m.session.entries))
      → ps ≡ laid payload_bytes_of (length m.storage.payloads) (insert_sorted x (entries_of m.storage.entries m.storage.payloads m.session.entries))
      → gs ≡ laid gap_words_of (length m.storage.gaps) (without r.entry.number.0 (gaps_of m.storage.gaps m.session.gaps))
      → stored (record { queue = q; entries = m.session.entries + 1; gaps = m.session.gaps - 1; remembered = m.session.remembered }) es ps gs m.storage.remembered ≡ repaired_by r Variant.Recovered m
  unfolding fate after_fate parse write laid entries_laid payloads_laid gaps_laid record_in_time
  recovered_is q o es ps gs ho hq he hp hg =
      let l = ready_repair.lengths in
      let old = entries_of m.storage.entries m.storage.payloads m.session.entries in
      let n : m.session.entries + 1 ≡ length (insert_sorted x old) = omega (arith, length_insert x old, length-entries_of m.storage.entries m.storage.payloads m.session.entries) in
      written_as (after_fate r.instant x recovered (parse m)) (record { queue = q; entries = m.session.entries + 1; gaps = m.session.gaps - 1; remembered = m.session.remembered }) es ps gs m.storage.remembered
      (hq ∙ rw (ho, f.incoming.size)) n (sym (length-filled m.storage.gaps m.session.gaps r.entry.number.0 ready_repair.gaps-ascend open_gap).1) (ap (λ (y : Stored). y.session.remembered) f.settled.held)
      (he ∙ rw l.entries) (hp ∙ rw l.payloads) (hg ∙ rw l.gaps) (ap (λ (y : Stored). y.storage.remembered) f.settled.held)

-- ---- 14, then 13

pub fate-refusal-is : (s : Session) (e : Row.Entry) (f : Code.Fate) (r a b : ℕ) → r ≡ or_else a b → a ≡ count_refusal (e.timestamp.0 ∷ e.number.0 ∷ fate_values s.queue.rtx e.size (fate f)) → b ≡ refuse_if (no_place (entry_places s.queue.config.settings) s.entries (fate f)) entries_full
    → r ≡ fate_refusal s.queue s.entries e.timestamp.0 e.number.0 e.size (fate f)
unfolding fate_refusal
fate-refusal-is s e f r a b hr ha hb = hr ∙ rw (ha, hb)

-- ---- what `did` says

pub incoming_repair : (e : Row.Entry) (payload : List ℕ) → e.size ≡ length payload → e.arrival ≡ None → length payload ≤ largest_payload → Incoming e payload
unfolding arrival_word
incoming_repair e payload size came fit = record { size = size; fits = fit; arrival = rw came (lit< tt) }

module _ (r : Repair) (f : Code.Fate) (m : Stored) (at : fate f ≡ repair_fate (parse m) r.entry.number.0) (size : r.entry.size ≡ length r.payload.now) where
  abbrev payload : List ℕ
  payload = r.payload.now

  abbrev under : ℕ
  under = fate_refusal m.session.queue m.session.entries r.entry.timestamp.0 r.entry.number.0 r.entry.size (fate f)

  under_is : under ≡ refusal_for (entry r.entry payload) (fate f) (parse m)
  under_is = refusal_for_lem m r.entry payload (fate f) size

  pub fit_repair : (m2 : Stored) → session_sound m ≡ true → m2 ≡ write (parse m) → 0 ≡ under → Incoming r.entry payload → FitRepair r f m2
  fit_repair m2 h w z i =
      let k = settled_of m m2 h w in
      record {
        settled = k.0;
        meets = at ∙ ap (λ (t : State). repair_fate t r.entry.number.0) (sym k.1);
        accepted = ap (refusal_for (entry r.entry payload) (fate f)) k.1 ∙ sym (z ∙ under_is);
        incoming = i;
      }

  pub fate-refused : (k : Refusal) → number k ≡ under → did_repair r.instant (entry r.entry payload) m ≡ record { answer = Calls.refused (number k); stored = m; output = [] }
  unfolding did_repair did_fate
  fate-refused k h = rw (← at, ← (h ∙ under_is), number_refuses k)

  pub fate-accepted : (m2 after : Stored) → session_sound m ≡ true → m2 ≡ write (parse m) → 0 ≡ under → after ≡ repaired_by r f m2
      → did_repair r.instant (entry r.entry payload) m ≡ record { answer = Calls.repaired (fate f); stored = after; output = [] }
  unfolding did_repair did_fate
  fate-accepted m2 after h w z hw = rw (← at, eq-eqb (refusal_for (entry r.entry payload) (fate f) (parse m)) 0 (sym (z ∙ under_is)), hw, (settled_of m m2 h w).1)
