-- Entries by place: the words and the bytes of an entry stand at the same place of two slices, and each move is made in both. An entry goes
-- in at the rank of its number (`sorted_at`).
use mathlib.Core.Path.{◌≡◌, refl, sym, ap, ◌∙◌}
use mathlib.Core.Bool.{Bool, true, false, cond}
use mathlib.Core.List.{List, [], ◌∷◌, ◌++◌, zip_with}
use Prim.Native.Nat.{ℕ, zero, suc, ◌+◌, ◌*◌, ◌-◌, ◌/◌, ◌%◌, ◌≤◌, ◌<◌}
use native.Mathlib.Omega.{arith}
use lib.Dec.{eqb, leb, ltb}
use lib.ListN.{length, take, drop, get_or, replicate, length-take, length-drop}
use lib.Seq.{drop-drop, get_or-take, take-take, take-suc, length-take-le}
use borrow.Author.Tests.{ltb-true, ltb-false, leb-true, le-leb, lt-leb}
use Rattle.words.specs.Words.{over, padded, cut, inserted}
use Rattle.words.specs.Blocks.{blocks, firsts, laid}
use Rattle.words.specs.Order.{ascends, rank}
use Rattle.words.proofs.Moves.{length-padded}
use Rattle.words.proofs.Blocked.{word_at, length-firsts}
use Rattle.words.proofs.Records.{Holds, holds-drop, holds-inserted, holds_replaced}
use Rattle.words.proofs.Ordered.{and_left, and_right, rank-le}
use Rattle.std.specs.Prelude.{Option, None, Some, SomeIff}
use Rattle.std.specs.Int.{from_bool}
use Rattle.rtp.proofs.Order.{no-more}
use Rattle.model.specs.Lists.{every?}
use Rattle.model.specs.Records.{Entry, entry_numbers}
use Rattle.model.specs.Push.{insert_sorted}
use Rattle.model.specs.Storage.{entry_words, payload_bytes, arrival_word, arrival_of, bit, entry_words_of, payload_bytes_of, entry_of, entries_of}
use Rattle.model.proofs.Lists.{Each, none, more}
use Rattle.model.proofs.Laid.{Fits, even_payloads, entry_wide, entries-held, padded_self, length-entries_of}
use Rattle.packet_gaps.proofs.Turns.{every-at}
use Rattle.entries.specs.declared.Entry as Row
use Rattle.entries.specs.Entries.{EntriesIn, Incoming, entry, fits, first_number}

-- ---- what is read

pub entry-numbers : (words bytes : List ℕ) (n : ℕ) → entry_numbers (entries_of words bytes n) ≡ firsts entry_words words n
unfolding entries_of firsts entry_of blocks zip_with
entry-numbers words bytes zero = refl
entry-numbers words bytes (suc n) = ap (λ (l : List ℕ). get_or (take entry_words words) 0 0 ∷ l) (entry-numbers (drop entry_words words) (drop payload_bytes bytes) n)

-- past the last place
abbrev pub no_entry : Entry
no_entry = entry_of [] []

pub entry_at : (words bytes : List ℕ) (n i : ℕ) → i < n
    → get_or (entries_of words bytes n) i no_entry ≡ entry_of (take entry_words (drop (entry_words * i) words)) (take payload_bytes (drop (payload_bytes * i) bytes))
unfolding entries_of blocks zip_with
entry_at words bytes zero i h = absurd (omega arith)
entry_at words bytes (suc n) zero h = refl
entry_at words bytes (suc n) (suc i) h =
    let w : entry_words + entry_words * i ≡ entry_words * suc i = omega arith in
    let b : payload_bytes + payload_bytes * i ≡ payload_bytes * suc i = omega arith in
    entry_at (drop entry_words words) (drop payload_bytes bytes) n i (omega arith) ∙ rw (drop-drop (entry_words * i) entry_words words, drop-drop (payload_bytes * i) payload_bytes bytes, w, b)

-- by its four words
pub entry-words : (words : List ℕ) (i : ℕ) (p : List ℕ)
    → entry_of (take entry_words (drop (entry_words * i) words)) p
    ≡ record { arrival = arrival_of (get_or words (entry_words * i + 2) 0); timestamp = get_or words (entry_words * i + 1) 0; number = get_or words (entry_words * i) 0; marker = eqb (get_or words (entry_words * i + 3) 0 % 2) 1; payload = padded (get_or words (entry_words * i + 3) 0 / 2) (take (get_or words (entry_words * i + 3) 0 / 2) p) }
unfolding entry_of
entry-words words i p =
    let z : entry_words * i + 0 ≡ entry_words * i = omega arith in
    let number : get_or (take entry_words (drop (entry_words * i) words)) 0 0 ≡ get_or words (entry_words * i) 0 = word_at entry_words i 0 words (omega arith) ∙ ap (λ (k : ℕ). get_or words k 0) z in
    rw (number, word_at entry_words i 1 words (omega arith), word_at entry_words i 2 words (omega arith), word_at entry_words i 3 words (omega arith))

pub each_fits : (es : List Entry) → every? fits es ≡ true → Each Fits es
unfolding every? Fits
each_fits [] e = none
each_fits (x ∷ es) e = more (leb-true (length x.payload) payload_bytes (and_left (fits x) (every? fits es) e)) (each_fits es (and_right (fits x) (every? fits es) e))

-- both slices hold the entries
module _ {words bytes : List ℕ} {n : ℕ} (k : EntriesIn words bytes n) where
  words-held : Holds entry_words (length words) entry_words_of words n (entries_of words bytes n)
  words-held = entries-held k.held (length-entries_of words bytes n) k.room

  bytes-held : Holds payload_bytes (length bytes) payload_bytes_of bytes n (entries_of words bytes n)
  bytes-held =
      let es = entries_of words bytes n in
      record { is = k.filled; even = even_payloads es (each_fits es k.fit); count = length-entries_of words bytes n; room = k.places }

-- ---- the place of a number

pub sorted_at : (e : Entry) (es : List Entry) → insert_sorted e es ≡ inserted (rank e.number (entry_numbers es)) (e ∷ []) es
unfolding insert_sorted inserted rank
sorted_at e [] = refl
sorted_at e (x ∷ es) = go (ltb x.number e.number) refl (sorted_at e es)
  where
    R : ℕ
    R = rank e.number (entry_numbers es)

    go : (b : Bool) → ltb x.number e.number ≡ b → insert_sorted e es ≡ take R es ++ (e ∷ drop R es)
        → cond (leb e.number x.number) (e ∷ x ∷ es) (x ∷ insert_sorted e es) ≡ take (cond b (suc R) zero) (x ∷ es) ++ (e ∷ drop (cond b (suc R) zero) (x ∷ es))
    go true f ih = rw (lt-leb e.number x.number (ltb-true x.number e.number f)) (ap (λ (l : List Entry). x ∷ l) ih)
    go false f ih = rw (le-leb e.number x.number (ltb-false x.number e.number f))

first-inserted : (r : ℕ) (e : Entry) (es : List Entry) → 0 < r → 0 < length es → first_number (inserted r (e ∷ []) es) ≡ first_number es
unfolding inserted first_number
first-inserted zero e es p l = absurd (omega arith)
first-inserted (suc r) e [] p l = absurd (omega arith)
first-inserted (suc r) e (x ∷ es) p l = refl

first_word : (words bytes : List ℕ) (n : ℕ) → 0 < n → first_number (entries_of words bytes n) ≡ get_or words 0 0
unfolding first_number entries_of entry_of blocks zip_with
first_word words bytes zero h = absurd (omega arith)
first_word words bytes (suc n) h = get_or-take entry_words words 0 0 (omega arith)

pub rank_in : (words : List ℕ) (n r x : ℕ) → r ≡ rank x (firsts entry_words words n) → r ≤ n
rank_in words n r x er = omega (arith, rank-le x (firsts entry_words words n), length-firsts entry_words n words)

pub firsts-ascend : (words bytes : List ℕ) (n : ℕ) → ascends (entry_numbers (entries_of words bytes n)) ≡ true → ascends (firsts entry_words words n) ≡ true
firsts-ascend words bytes n a = ap ascends (sym (entry-numbers words bytes n)) ∙ a

module _ {words bytes : List ℕ} {n r : ℕ} (k : EntriesIn words bytes n) (e : Entry) (er : r ≡ rank e.number (firsts entry_words words n)) where
  within : r ≤ n
  within = rank_in words n r e.number er

  sorted_is : insert_sorted e (entries_of words bytes n) ≡ inserted r (e ∷ []) (entries_of words bytes n)
  sorted_is =
      sorted_at e (entries_of words bytes n)
      ∙ ap (λ (k : ℕ). inserted k (e ∷ []) (entries_of words bytes n)) (ap (rank e.number) (entry-numbers words bytes n) ∙ sym er)

  pub words-inserted : over (inserted (entry_words * r) (entry_words_of e) (take (entry_words * n) words)) words ≡ laid entry_words_of (length words) (insert_sorted e (entries_of words bytes n))
  words-inserted = holds-inserted (words-held k) r e within ∙ ap (laid entry_words_of (length words)) (sym sorted_is)

  pub bytes-inserted : over (inserted (payload_bytes * r) (payload_bytes_of e) (take (payload_bytes * n) bytes)) bytes ≡ laid payload_bytes_of (length bytes) (insert_sorted e (entries_of words bytes n))
  bytes-inserted = holds-inserted (bytes-held k) r e within ∙ ap (laid payload_bytes_of (length bytes)) (sym sorted_is)

  -- not the first: the first goes out
  module _ (p : 0 < r) where
    pub words_replaced : drop entry_words (inserted (entry_words * r) (entry_words_of e) words) ≡ laid entry_words_of (length words) (drop 1 (insert_sorted e (entries_of words bytes n)))
    words_replaced =
        holds_replaced (words-held k) r e (entry_wide e) p within
        ∙ ap (λ (l : List Entry). laid entry_words_of (length words) (drop 1 l)) (sym sorted_is)

    pub bytes_replaced : length (payload_bytes_of e) ≡ payload_bytes
        → drop payload_bytes (inserted (payload_bytes * r) (payload_bytes_of e) bytes) ≡ laid payload_bytes_of (length bytes) (drop 1 (insert_sorted e (entries_of words bytes n)))
    bytes_replaced w =
        holds_replaced (bytes-held k) r e w p within
        ∙ ap (λ (l : List Entry). laid payload_bytes_of (length bytes) (drop 1 l)) (sym sorted_is)

    pub first_out : get_or words 0 0 ≡ first_number (insert_sorted e (entries_of words bytes n))
    first_out =
        sym (
        ap first_number sorted_is
        ∙ first-inserted r e (entries_of words bytes n) p (omega (arith, within, length-entries_of words bytes n))
        ∙ first_word words bytes n (omega (arith, within)))

  -- itself the first: it goes out
  module _ (z : r ≡ 0) where
    pub none_out : drop 1 (insert_sorted e (entries_of words bytes n)) ≡ entries_of words bytes n
    unfolding inserted
    none_out = ap (drop 1) (sorted_is ∙ ap (λ (k : ℕ). inserted k (e ∷ []) (entries_of words bytes n)) z)

    pub self_out : e.number ≡ first_number (insert_sorted e (entries_of words bytes n))
    unfolding inserted first_number
    self_out = sym (ap first_number (sorted_is ∙ ap (λ (k : ℕ). inserted k (e ∷ []) (entries_of words bytes n)) z))

-- ---- the first entry

module _ {words bytes : List ℕ} {n : ℕ} (k : EntriesIn words bytes n) (h : 0 < n) where
  pub words_dropped : over (cut 0 entry_words (take (entry_words * n) words) ++ replicate entry_words 0) words ≡ laid entry_words_of (length words) (drop 1 (entries_of words bytes n))
  words_dropped = holds-drop (words-held k) 1 h

  pub bytes_dropped : over (cut 0 payload_bytes (take (payload_bytes * n) bytes) ++ replicate payload_bytes 0) bytes ≡ laid payload_bytes_of (length bytes) (drop 1 (entries_of words bytes n))
  bytes_dropped = holds-drop (bytes-held k) 1 h

-- ---- an entry of the code

pub arrival_read : (w : ℕ) (r : Option ℕ) → SomeIff r (1 ≤ w) (w - 1) → r ≡ arrival_of w
unfolding arrival_of
arrival_read zero None h = refl
arrival_read zero (Some i) h = let a : 1 ≤ zero = h.0 in absurd (omega arith)
arrival_read (suc w) None h = absurd (h (omega arith))
arrival_read (suc w) (Some i) h = let e : i ≡ w = h.1 ∙ omega arith in ap Some e

bit_is : (b : Bool) → from_bool b ≡ bit b
unfolding bit
bit_is true = refl
bit_is false = refl

pub row_words : (e : Row.Entry) (p : List ℕ) (a m : ℕ) → e.size ≡ length p → a ≡ arrival_word e.arrival → m ≡ from_bool e.marker
    → ◌≡◌ {A = List ℕ} (e.number.0 ∷ e.timestamp.0 ∷ a ∷ (2 * e.size + m) ∷ []) (entry_words_of (entry e p))
unfolding entry_words_of
row_words e p a m s ea em = rw (ea, em, bit_is e.marker, s)

pub row-place : (e : Row.Entry) (p : List ℕ) → Incoming e p → length (payload_bytes_of (entry e p)) ≡ payload_bytes
unfolding payload_bytes_of
row-place e p c = length-padded payload_bytes p c.fits

-- r was read at place i; its payload is the front of that place
module _ (words bytes : List ℕ) (n i : ℕ) (h : i < n) (r : Row.Entry)
    (e : (p : List ℕ) → entry_of (take entry_words (drop (entry_words * i) words)) p ≡ entry r (padded r.size (take r.size p))) where
  pub read_is : get_or (entries_of words bytes n) i no_entry ≡ entry r (padded r.size (take r.size (take payload_bytes (drop (payload_bytes * i) bytes))))
  read_is = entry_at words bytes n i h ∙ e (take payload_bytes (drop (payload_bytes * i) bytes))

  pub read-size : length (padded r.size (take r.size (take payload_bytes (drop (payload_bytes * i) bytes)))) ≡ r.size
  read-size = length-padded r.size _ (omega (arith, length-take r.size (take payload_bytes (drop (payload_bytes * i) bytes))))

  module _ (room : payload_bytes * n ≤ length bytes) (fit : every? fits (entries_of words bytes n) ≡ true) where
    pub place-fits : r.size ≤ payload_bytes
    place-fits =
        let f : fits (get_or (entries_of words bytes n) i no_entry) ≡ true = every-at fits (entries_of words bytes n) no_entry i fit (rw length-entries_of h) in
        omega (arith, leb-true (length (padded r.size (take r.size (take payload_bytes (drop (payload_bytes * i) bytes))))) payload_bytes (ap fits (sym read_is) ∙ f), read-size)

    pub place_is : get_or (entries_of words bytes n) i no_entry ≡ entry r (take r.size (drop (payload_bytes * i) bytes))
    place_is =
        let size = r.size in
        let fit : size ≤ payload_bytes = place-fits in
        let d : List ℕ = drop (payload_bytes * i) bytes in
        let q : List ℕ = take size d in
        let lq : length q ≡ size = length-take-le size d (omega (arith, length-drop (payload_bytes * i) bytes)) in
        let t : take size (take payload_bytes d) ≡ q = take-take size payload_bytes d fit in
        let s : padded size q ≡ q = ap (λ (j : ℕ). padded j q) (sym lq) ∙ padded_self q in
        read_is ∙ ap (λ (l : List ℕ). entry r l) (ap (padded size) t ∙ s)

module _ {words bytes : List ℕ} {n : ℕ} (k : EntriesIn words bytes n) (h : 0 < n) (r : Row.Entry)
    (e : (p : List ℕ) → entry_of (take entry_words (drop (entry_words * 0) words)) p ≡ entry r (padded r.size (take r.size p))) where
  pub front_fits : r.size ≤ payload_bytes
  front_fits = place-fits words bytes n 0 h r e k.places k.fit

  pub front_there : r.size ≤ length bytes
  front_there = omega (arith, front_fits, k.places)

  pub front_is : take 1 (entries_of words bytes n) ≡ entry r (take r.size bytes) ∷ []
  front_is = take-suc (entries_of words bytes n) 0 no_entry (rw length-entries_of h) ∙ ap (λ (x : Entry). x ∷ []) (place_is words bytes n 0 h r e k.places k.fit)

-- ---- what the functions have to know

pub ruleset no_higher = (no-more)

pub ruleset popping = (words_dropped, bytes_dropped)

pub ruleset inserting = (firsts-ascend, rank_in, none_out, self_out)
