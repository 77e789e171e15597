-- A session that check 16 passes, and its storage once it is settled: what is written of the lists that were read is read as them again, so
-- that the functions over the lists find what they ask for.
use mathlib.Core.Path.{◌≡◌, refl, sym, ap, ◌∙◌}
use mathlib.Core.Bool.{Bool, true, false, cond, ◌&&◌, not}
use mathlib.Core.List.{List}
use Prim.Native.Nat.{ℕ, ◌≤◌}
use native.Mathlib.Omega.{arith}
use lib.Dec.{T, eqb}
use lib.Ieee.Bits.{is_true}
use lib.Ieee.Fits.{and_l}
use borrow.Author.Tests.{eq-eqb, ne_eqb, eqb-false, not-false}
use lib.ListN.{length}
use Rattle.words.specs.Order.{ascends}
use Rattle.words.specs.Blocks.{laid}
use Rattle.words.proofs.Ordered.{and_left, and_right}
use Rattle.durations.specs.Seconds.{largest}
use Rattle.std.specs.Prelude.{Result, IsErrAnd}
use Rattle.std.proofs.lemmas.Result.{err_from_is_err_and}
use Rattle.refusals.specs.declared.Refusal.{Refusal}
use Rattle.refusals.specs.Refusals.{SESSION, number, refuse_if, or_else}
use Rattle.refusals.proofs.Laws.{or_else-first, or_else_second, passes-last, number-nonzero}
use Rattle.config.specs.Valid.{settings_valid, senders_valid}
use Rattle.config.proofs.Facts.{Usable}
use Rattle.model.specs.declared.Session.{Session}
use Rattle.model.specs.Lists.{every?}
use Rattle.model.specs.Records.{Entry, Gap, Remembered, entry_numbers, gap_numbers}
use Rattle.model.specs.Valid.{bounds_of, queue_sound, lists_sound, last_sound}
use Rattle.model.specs.Storage.{Storage, Stored, entry_words_of, payload_bytes_of, gap_words_of, remembered_words_of, entry_places, lengths_fit, entries_of, gaps_of, remembered_of, entries_laid, payloads_laid, gaps_laid, remembered_laid, parse, write}
use Rattle.model.specs.Calls as Calls
use Rattle.model.specs.Calls.{Answer, Call, rtx_stats, taken, output_of}
use Rattle.model.specs.Table.{config_valid, session_sound, session_refusal, call_refusal, refusal}
use Rattle.model.specs.Did.{did, accepted, turned_back}
use Rattle.model.proofs.Lists.{Each}
use Rattle.model.proofs.Laid.{entries_of-laid, gaps_of-laid, remembered_of-laid, lengths-write, parse-write, parse-entries, parse-gaps, parse-remembered, length-entries_of, length-gaps_of, length-remembered_of}
use Rattle.model.proofs.Laid as Laid
use Rattle.model.proofs.Sound.{Sound}
use Rattle.model.proofs.SoundTest.{fits_to}
use Rattle.model.proofs.SoundCalls.{payloads-fit, sound-session, did-taken, stays-sound}
use Rattle.packet_gaps.specs.Gaps.{GapsIn, instants_fit}
use Rattle.packet_gaps.proofs.Model.{sound-instants}
use Rattle.entries.specs.Entries.{EntriesIn, fits}
use Rattle.entries.proofs.Model.{sound-fits}
use Rattle.lost_nacked.specs.Remembered.{RememberedIn}
use Rattle.model.specs.Contract.{said, storage, stored, Does}
use Rattle.storage.specs.Settled.{Settled}
use Rattle.storage.proofs.Checking.{Lists, lists_of, Lengths, lengths_of, Counts, counts_of, Room, room_of, valid_usable, counted, session_is}

-- ---- a session that check 16 passes

pub record Checked (m : Stored) : Type 0 where
  pub usable : Usable m.session.queue.config.settings
  pub lengths : Lengths m.session.queue.config.settings m.storage
  pub counts : Counts m.session
  pub room : Room m.session m.storage
  pub sound : Sound (parse m)
  pub lists : Lists (parse m)
  pub payloads : every? fits (parse m).entries ≡ true

sound_none : (m : Stored) → session_sound m ≡ true → session_refusal m ≡ 0
unfolding session_refusal refuse_if
sound_none m h = rw h

pub passed_16 : (m : Stored) → session_refusal m ≡ 0 → session_sound m ≡ true
unfolding session_refusal refuse_if
passed_16 m e = not-false (session_sound m) (passes-last (not (session_sound m)) SESSION (omega arith) e)

pub checked : (m : Stored) → session_sound m ≡ true → Checked m
checked m h =
    let s = m.session in
    let c = s.queue.config in
    let rest = queue_sound s.queue && lists_sound (parse m) in
    let all = sym (session_is m) ∙ h in
    let valid = and_left (config_valid c) (lengths_fit c.settings m.storage && (counted m && rest)) all in
    let more = and_right (config_valid c) (lengths_fit c.settings m.storage && (counted m && rest)) all in
    let l = lengths_of c.settings m.storage (and_left (lengths_fit c.settings m.storage) (counted m && rest) more) in
    let count = and_right (lengths_fit c.settings m.storage) (counted m && rest) more in
    let n = counts_of s (and_left (counted m) rest count) in
    let i = lists_of (parse m) (and_right (queue_sound s.queue) (lists_sound (parse m)) (and_right (counted m) rest count)) in
    record {
      usable = valid_usable c valid;
      lengths = l;
      counts = n;
      room = room_of s m.storage l n;
      sound = sound-session m (sound_none m h);
      lists = i;
      payloads = sound-fits (bounds_of (parse m).queue) (parse m).gaps (parse m).entries i.entries-sound;
    }

-- ---- settling

module _ (m : Stored) (k : Checked m) where
  same-session : (write (parse m)).session ≡ m.session
  unfolding write parse
  same-session =
      let t = m.storage in
      rw (length-entries_of t.entries t.payloads m.session.entries, length-gaps_of t.gaps m.session.gaps, length-remembered_of t.remembered m.session.remembered)

  module _ (e p g r : List ℕ) where
    pub settled : e ≡ laid entry_words_of (length m.storage.entries) (parse m).entries
        → p ≡ laid payload_bytes_of (length m.storage.payloads) (parse m).entries
        → g ≡ laid gap_words_of (length m.storage.gaps) (parse m).gaps
        → r ≡ laid remembered_words_of (length m.storage.remembered) (parse m).remembered
        → stored m.session e p g r ≡ write (parse m)
    unfolding laid write entries_laid payloads_laid gaps_laid remembered_laid parse
    settled he hp hg hr =
        let l = k.lengths in
        let all : storage e p g r ≡ (write (parse m)).storage = rw (he, hp, hg, hr, l.entries, l.payloads, l.gaps, l.remembered) in
        ap (λ (x : Session). record { session = x; storage = storage e p g r }) (sym same-session)
        ∙ ap (λ (t : Storage). record { session = (write (parse m)).session; storage = t }) all

-- ---- the settled storage

pub record Ready (m : Stored) (e p g r : List ℕ) : Type 0 where
  pub checked : Checked m
  pub lengths : Lengths m.session.queue.config.settings (storage e p g r)
  pub entries_in : EntriesIn e p m.session.entries
  pub gaps_in : GapsIn g m.session.gaps
  pub remembered_in : RememberedIn r m.session.remembered
  -- what is read is what was read before
  pub entries_are : entries_of e p m.session.entries ≡ (parse m).entries
  pub gaps_are : gaps_of g m.session.gaps ≡ (parse m).gaps
  pub remembered_are : remembered_of r m.session.remembered ≡ (parse m).remembered
  pub entries-ascend : ascends (entry_numbers (entries_of e p m.session.entries)) ≡ true
  pub gaps-ascend : ascends (gap_numbers (gaps_of g m.session.gaps)) ≡ true

back-entries : (places n : ℕ) (l : List Entry) (e p : List ℕ) → length l ≡ n → e ≡ entries_laid places l → p ≡ payloads_laid places l → Each Laid.Fits l → entries_of e p n ≡ l
back-entries places n l e p h he hp f = rw (he, hp, ← h) (entries_of-laid places l f)

back-gaps : (places n : ℕ) (l : List Gap) (g : List ℕ) → length l ≡ n → g ≡ gaps_laid places l → gaps_of g n ≡ l
back-gaps places n l g h e = rw (e, ← h) (gaps_of-laid places l)

back-remembered : (n : ℕ) (l : List Remembered) (r : List ℕ) → length l ≡ n → r ≡ remembered_laid l → remembered_of r n ≡ l
back-remembered n l r h e = rw (e, ← h) (remembered_of-laid l)

module _ (m : Stored) (h : session_sound m ≡ true) (e p g r : List ℕ) (w : stored m.session e p g r ≡ write (parse m)) where
  places : ℕ
  places = entry_places m.session.queue.config.settings

  holes : ℕ
  holes = m.session.queue.config.settings.max_gaps

  written-entries : e ≡ entries_laid places (parse m).entries
  unfolding places write parse
  written-entries = ap (λ (x : Stored). x.storage.entries) w

  written-payloads : p ≡ payloads_laid places (parse m).entries
  unfolding places write parse
  written-payloads = ap (λ (x : Stored). x.storage.payloads) w

  written-gaps : g ≡ gaps_laid holes (parse m).gaps
  unfolding holes write parse
  written-gaps = ap (λ (x : Stored). x.storage.gaps) w

  written-remembered : r ≡ remembered_laid (parse m).remembered
  unfolding write
  written-remembered = ap (λ (x : Stored). x.storage.remembered) w

  ready-lengths : Lengths m.session.queue.config.settings (storage e p g r)
  unfolding parse
  ready-lengths =
      let k = (checked m h).sound in
      let fit = lengths-write (parse m) (payloads-fit k) (is_true _ (fits_to (parse m) k.fits)) in
      lengths_of m.session.queue.config.settings (storage e p g r) (ap (λ (x : Stored). lengths_fit m.session.queue.config.settings x.storage) w ∙ fit)

  are_entries : entries_of e p m.session.entries ≡ (parse m).entries
  are_entries = back-entries places m.session.entries (parse m).entries e p (parse-entries m) written-entries written-payloads (payloads-fit (checked m h).sound)

  are_gaps : gaps_of g m.session.gaps ≡ (parse m).gaps
  are_gaps = back-gaps holes m.session.gaps (parse m).gaps g (parse-gaps m) written-gaps

  are_remembered : remembered_of r m.session.remembered ≡ (parse m).remembered
  are_remembered = back-remembered m.session.remembered (parse m).remembered r (parse-remembered m) written-remembered

  pub ready : Ready m e p g r
  unfolding places holes laid entries_laid payloads_laid gaps_laid remembered_laid
  ready =
      let k = checked m h in
      let l = ready-lengths in
      let room = room_of m.session (storage e p g r) l k.counts in
      record {
        checked = k;
        lengths = l;
        entries_in =
            record {
              room = room.entries;
              places = room.payloads;
              fit = ap (every? fits) are_entries ∙ k.payloads;
              held = written-entries ∙ rw (are_entries, l.entries);
              filled = written-payloads ∙ rw (are_entries, l.payloads);
            };
        gaps_in = record { room = room.gaps; held = written-gaps ∙ rw (are_gaps, l.gaps) };
        remembered_in = record { room = room.remembered; held = written-remembered ∙ rw (are_remembered, l.remembered) };
        entries_are = are_entries;
        gaps_are = are_gaps;
        remembered_are = are_remembered;
        entries-ascend = ap (λ (x : List Entry). ascends (entry_numbers x)) are_entries ∙ k.lists.entries-ascend;
        gaps-ascend = ap (λ (x : List Gap). ascends (gap_numbers x)) are_gaps ∙ k.lists.gaps-ascend;
      }

-- what a settled session holds
pub holding : (m : Stored) → Settled m → Ready m m.storage.entries m.storage.payloads m.storage.gaps m.storage.remembered
holding m h = ready m h.sound m.storage.entries m.storage.payloads m.storage.gaps m.storage.remembered h.held

-- settling makes a session that is settled, with the same lists
pub settled_of : (m m2 : Stored) → session_sound m ≡ true → m2 ≡ write (parse m) → Settled m2 × (parse m2 ≡ parse m)
unfolding refusal call_refusal taken
settled_of m m2 h e =
    let z : refusal rtx_stats m ≡ 0 = or_else_second (session_refusal m) 0 (sound_none m h) in
    let same : parse m2 ≡ parse m = ap parse e ∙ parse-write (parse m) (payloads-fit (sound-session m (sound_none m h))) in
    let calm : session_refusal m2 ≡ 0 = ap session_refusal (e ∙ sym (did-taken rtx_stats m z)) ∙ stays-sound.at_call rtx_stats m z in
    (record { sound = passed_16 m2 calm; held = e ∙ ap write (sym same) }, same)

-- ---- what check 16 says of the queue, for the functions that go by value

module _ (m : Stored) (k : Checked m) where
  pub settings_in : T (settings_valid m.session.queue.config.settings)
  unfolding parse config_valid
  settings_in = let c = m.session.queue.config in and_l (settings_valid c.settings) (senders_valid c.senders) k.sound.queue_in.config_in

  pub last_in : T (last_sound m.session.queue.clock m.session.queue.last)
  unfolding parse
  last_in = k.sound.queue_in.last_in

-- no instant of a gap is past the largest, where the clock is not
pub instants : (m : Stored) → Checked m → m.session.queue.clock ≤ largest → every? instants_fit (parse m).gaps ≡ true
unfolding parse bounds_of
instants m k h = sound-instants (bounds_of m.session.queue) (parse m).gaps h k.lists.gaps-sound

-- ---- refused, or accepted

pub assoc : (a b c : ℕ) → or_else a (or_else b c) ≡ or_else (or_else a b) c
unfolding or_else
assoc a b c = go (eqb a 0) refl
  where
    go : (t : Bool) → eqb a 0 ≡ t → cond t (or_else b c) a ≡ or_else (cond t b a) c
    go true e = refl
    go false e = sym (or_else-first a c (eqb-false a 0 e))

module _ (k : Call) (m : Stored) (r : ℕ) (e : r ≡ refusal k m) where
  pub refused-is : (r ≡ 0 → ⊥) → Does k m (Calls.refused r) m (output_of k)
  unfolding did turned_back
  refused-is h = rw (← e, ne_eqb r 0 h)

  pub accepted-is : r ≡ 0 → did k m ≡ accepted k (parse m)
  unfolding did
  accepted-is h = rw (← e, eq-eqb r 0 h)

-- a refusal that `?` passes on
pub refused_said : {A : Type 0} (f : A → Answer) (k : Call) (m : Stored) (r : Result A Refusal) (e : Refusal) → IsErrAnd r (λ x. x ≡ e) → number e ≡ refusal k m → Does k m (said f r) m (output_of k)
refused_said f k m r e h g = let p = err_from_is_err_and r h in rw (p.1, p.2) (refused-is k m (number e) g (number-nonzero e))
