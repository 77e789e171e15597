-- Check 16 in the order in which the code makes it, and what it says of lengths, counts and lists.
use mathlib.Core.Path.{◌≡◌, sym, ap, ◌∙◌}
use mathlib.Core.Bool.{Bool, true, false, ◌&&◌}
use mathlib.Core.List.{List}
use Prim.Native.Nat.{ℕ, ◌*◌, ◌≤◌}
use native.Mathlib.Omega.{arith}
use lib.Dec.{leb, eqb}
use lib.ListN.{length}
use lib.Ieee.Fits.{and_l}
use borrow.Author.Tests.{leb-true, eqb-true}
use Rattle.words.specs.Order.{ascends}
use Rattle.words.proofs.Ordered.{and_left, and_right}
use Rattle.config.specs.declared.Settings.{Settings}
use Rattle.config.specs.Valid.{settings_valid, senders_valid}
use Rattle.config.proofs.Facts.{Usable, usable}
use Rattle.model.specs.declared.Config.{Config}
use Rattle.model.specs.declared.Session.{Session}
use Rattle.model.specs.Lists.{every?}
use Rattle.model.specs.Records.{State, entry_numbers, gap_numbers}
use Rattle.model.specs.Rules.{max_lost_nacked}
use Rattle.model.specs.Valid.{Bounds, bounds_of, gap_sound, gaps_sound, entry_sound, entries_sound, remembered_sound, lists_sound, counts_fit, queue_sound, sound}
use Rattle.model.specs.Storage.{Storage, Stored, entry_words, payload_bytes, gap_words, remembered_words, entry_places, lengths_fit, entries_of, gaps_of, remembered_of, parse}
use Rattle.model.specs.Table.{config_valid, session_sound}
use Rattle.model.proofs.Laid.{length-entries_of, length-gaps_of, length-remembered_of}
use Rattle.model.specs.Contract.{stored}

-- ---- the lists

module _ (s : Session) (e p g r : List ℕ) (b : Bounds) (eb : b ≡ bounds_of s.queue) where
  abbrev gap_test : Bool
  gap_test = gaps_sound b (gaps_of g s.gaps)

  abbrev entry_test : Bool
  entry_test = entries_sound b (gaps_of g s.gaps) (entries_of e p s.entries)

  abbrev remembered_test : Bool
  remembered_test = every? (remembered_sound s.queue.clock) (remembered_of r s.remembered)

  lists_are : lists_sound (parse (stored s e p g r)) ≡ (gap_test && (entry_test && remembered_test))
  unfolding lists_sound parse
  lists_are = ap (λ (x : Bounds). gaps_sound x (gaps_of g s.gaps) && (entries_sound x (gaps_of g s.gaps) (entries_of e p s.entries) && remembered_test)) (sym eb)

  pub bad_gaps : gap_test ≡ false → false ≡ lists_sound (parse (stored s e p g r))
  bad_gaps h = sym (lists_are ∙ rw h)

  pub bad_entries : gap_test ≡ true → entry_test ≡ false → false ≡ lists_sound (parse (stored s e p g r))
  bad_entries h k = sym (lists_are ∙ rw (h, k))

  pub left-remembered : (t : Bool) → gap_test ≡ true → entry_test ≡ true → t ≡ remembered_test → t ≡ lists_sound (parse (stored s e p g r))
  left-remembered t h k y = y ∙ sym (lists_are ∙ rw (h, k))

-- the parts of the test
pub record Lists (s : State) : Type 0 where
  pub gaps-ascend : ascends (gap_numbers s.gaps) ≡ true
  pub gaps-sound : every? (gap_sound (bounds_of s.queue)) s.gaps ≡ true
  pub entries-ascend : ascends (entry_numbers s.entries) ≡ true
  pub entries-sound : every? (entry_sound (bounds_of s.queue) s.gaps) s.entries ≡ true

pub lists_of : (s : State) → lists_sound s ≡ true → Lists s
unfolding lists_sound
lists_of s h =
    let a : Bool = ascends (gap_numbers s.gaps) in
    let b : Bool = every? (gap_sound (bounds_of s.queue)) s.gaps in
    let c : Bool = ascends (entry_numbers s.entries) in
    let d : Bool = every? (entry_sound (bounds_of s.queue) s.gaps) s.entries in
    let e : Bool = every? (remembered_sound s.queue.clock) s.remembered in
    let g = and_left (a && b) ((c && d) && e) h in
    let w = and_left (c && d) e (and_right (a && b) ((c && d) && e) h) in
    record { gaps-ascend = and_left a b g; gaps-sound = and_right a b g; entries-ascend = and_left c d w; entries-sound = and_right c d w }

-- ---- lengths and numbers

pub record Lengths (set : Settings) (t : Storage) : Type 0 where
  pub entries : length t.entries ≡ entry_words * entry_places set
  pub payloads : length t.payloads ≡ payload_bytes * entry_places set
  pub gaps : length t.gaps ≡ gap_words * set.max_gaps
  pub remembered : length t.remembered ≡ remembered_words * max_lost_nacked

pub lengths_of : (set : Settings) (t : Storage) → lengths_fit set t ≡ true → Lengths set t
unfolding lengths_fit
lengths_of set t h =
    let a : Bool = eqb (length t.entries) (entry_words * entry_places set) in
    let b : Bool = eqb (length t.payloads) (payload_bytes * entry_places set) in
    let c : Bool = eqb (length t.gaps) (gap_words * set.max_gaps) in
    let d : Bool = eqb (length t.remembered) (remembered_words * max_lost_nacked) in
    let hb = and_right a (b && (c && d)) h in
    let hc = and_right b (c && d) hb in
    record {
      entries = eqb-true _ _ (and_left a (b && (c && d)) h);
      payloads = eqb-true _ _ (and_left b (c && d) hb);
      gaps = eqb-true _ _ (and_left c d hc);
      remembered = eqb-true _ _ (and_right c d hc);
    }

pub record Counts (s : Session) : Type 0 where
  pub entries : s.entries ≤ entry_places s.queue.config.settings
  pub gaps : s.gaps ≤ s.queue.config.settings.max_gaps
  pub remembered : s.remembered ≤ max_lost_nacked

pub counts_of : (s : Session) → counts_fit s.queue.config.settings s.entries s.gaps s.remembered ≡ true → Counts s
unfolding counts_fit
counts_of s h =
    let set = s.queue.config.settings in
    let a : Bool = leb s.entries (entry_places set) in
    let b : Bool = leb s.gaps set.max_gaps in
    let c : Bool = leb s.remembered max_lost_nacked in
    let hb = and_right a (b && c) h in
    record { entries = leb-true _ _ (and_left a (b && c) h); gaps = leb-true _ _ (and_left b c hb); remembered = leb-true _ _ (and_right b c hb) }

-- every record that the session counts stands in its slice
pub record Room (s : Session) (t : Storage) : Type 0 where
  pub entries : entry_words * s.entries ≤ length t.entries
  pub payloads : payload_bytes * s.entries ≤ length t.payloads
  pub gaps : gap_words * s.gaps ≤ length t.gaps
  pub remembered : remembered_words * s.remembered ≤ length t.remembered

pub room_of : (s : Session) (t : Storage) → Lengths s.queue.config.settings t → Counts s → Room s t
room_of s t l c =
    record {
      entries = omega (arith, l.entries, c.entries);
      payloads = omega (arith, l.payloads, c.entries);
      gaps = omega (arith, l.gaps, c.gaps);
      remembered = omega (arith, l.remembered, c.remembered);
    }

-- ---- the session

pub valid_usable : (c : Config) → config_valid c ≡ true → Usable c.settings
unfolding config_valid
valid_usable c h = usable c.settings (and_l (settings_valid c.settings) (senders_valid c.senders) (rw h tt))

module _ (m : Stored) where
  abbrev config : Config
  config = m.session.queue.config

  abbrev fit : Bool
  fit = lengths_fit config.settings m.storage

  abbrev pub counted : Bool
  counted = counts_fit config.settings m.session.entries m.session.gaps m.session.remembered

  pub session_is : session_sound m ≡ (config_valid config && (fit && (counted && (queue_sound m.session.queue && lists_sound (parse m)))))
  unfolding session_sound sound parse
  session_is =
      let t = m.storage in
      rw (length-entries_of t.entries t.payloads m.session.entries, length-gaps_of t.gaps m.session.gaps, length-remembered_of t.remembered m.session.remembered)

  pub bad_config : config_valid config ≡ false → false ≡ session_sound m
  bad_config h = sym (session_is ∙ rw h)

  module _ (h : config_valid config ≡ true) where
    pub bad_lengths : fit ≡ false → false ≡ session_sound m
    bad_lengths k = sym (session_is ∙ rw (h, k))

    module _ (k : fit ≡ true) where
      pub bad_counts : counted ≡ false → false ≡ session_sound m
      bad_counts n = sym (session_is ∙ rw (h, k, n))

      module _ (n : counted ≡ true) where
        pub bad_queue : queue_sound m.session.queue ≡ false → false ≡ session_sound m
        bad_queue q = sym (session_is ∙ rw (h, k, n, q))

        pub left-lists : (t : Bool) → queue_sound m.session.queue ≡ true → t ≡ lists_sound (parse m) → t ≡ session_sound m
        left-lists t q l = l ∙ sym (session_is ∙ rw (h, k, n, q))
