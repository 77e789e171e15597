-- The loops of `are_sound` and `tidy_places`: what was read at place i decides, or is written anew with zeros after its payload.
use mathlib.Core.Path.{◌≡◌, refl, sym, ap, ◌∙◌}
use mathlib.Core.Bool.{Bool, true, false}
use mathlib.Core.List.{List, [], ◌∷◌, ◌++◌, map, zip_with, append-nil}
use Prim.Native.Nat.{ℕ, zero, suc, ◌+◌, ◌*◌, ◌/◌, ◌%◌, ◌≤◌, ◌<◌}
use native.Mathlib.Omega.{arith}
use lib.Dec.{eqb}
use lib.ListN.{length, take, drop, get_or, length-take, length-drop, get_or-map}
use lib.Seq.{drop_at, take_all, length-take-le}
use borrow.Author.Tests.{eqb-true, eqb-false}
use Rattle.words.specs.Words.{over, written, padded}
use Rattle.words.specs.Blocks.{blocks, flat, laid}
use Rattle.words.proofs.Over.{over_nil, over-is, length_over, take-over}
use Rattle.words.proofs.Moves.{length-padded, written_next}
use Rattle.words.proofs.Lists.{map-append}
use Rattle.words.proofs.Records.{length-words}
use Rattle.words.proofs.Blocked.{first-at, flat_append, flat-blocks}
use Rattle.model.specs.Lists.{some?, every?}
use Rattle.model.specs.Records.{Entry, Gap, entry_numbers}
use Rattle.model.specs.Rules.{is}
use Rattle.model.specs.Valid.{Bounds, fields_sound, entry_sound}
use Rattle.model.specs.Storage.{entry_words, payload_bytes, arrival_word, arrival_of, bit, entry_words_of, payload_bytes_of, entry_of, entries_of}
use Rattle.model.proofs.Lists.{Each, none, more}
use Rattle.model.proofs.Laid.{Fits, even_payloads, length-entries_of}
use Rattle.packet_gaps.proofs.Turns.{take_next, Turn, left, left_end}
use Rattle.entries.specs.declared.Entry as Row
use Rattle.entries.specs.Entries.{entry, fits}
use Rattle.entries.proofs.Laws.{no_entry, entry-numbers, each_fits, read_is, read-size, place-fits, place_is}

-- ---- `are_sound`

abbrev pub number_of : Entry → ℕ
number_of e = e.number

-- check 16 from place i on
abbrev pub entries_left : Bounds → List Gap → List ℕ → List ℕ → ℕ → ℕ → Bool
entries_left b gaps words bytes n i = left number_of (entry_sound b gaps) (entries_of words bytes n) i

module _ (words bytes : List ℕ) (n i : ℕ) (h : i < n) (r : Row.Entry)
    (e : (p : List ℕ) → entry_of (take entry_words (drop (entry_words * i) words)) p ≡ entry r (padded r.size (take r.size p)))
    (b : Bounds) (gaps : List Gap) (missing : Bool) (em : missing ≡ some? (is r.number.0) gaps) where
  es : List Entry
  es = entries_of words bytes n

  -- check 16 at place i
  pub scanned : (passes : Bool) → passes ≡ fields_sound b missing r.number.0 r.timestamp.0 r.arrival r.size → Turn number_of (entry_sound b gaps) no_entry (entries_of words bytes n) n i r.number.0 passes
  unfolding es entry_of
  scanned passes p =
      record {
        count = length-entries_of words bytes n;
        inside = h;
        here = sym (get_or-map number_of es i no_entry ∙ ap number_of (read_is words bytes n i h r e));
        tested = p ∙ sym (ap (entry_sound b gaps) (read_is words bytes n i h r e) ∙ rw (read-size words bytes n i h r e, em));
      }

module _ (words bytes : List ℕ) (n i : ℕ) where
  -- the number at a place
  pub number_word : i < n → get_or words (entry_words * i) 0 ≡ get_or (entry_numbers (entries_of words bytes n)) i 0
  number_word h = sym (ap (λ (l : List ℕ). get_or l i 0) (entry-numbers words bytes n) ∙ first-at entry_words n words i (omega arith) h)

  pub scan_end : n ≤ i → (b : Bounds) (gaps : List Gap) → entries_left b gaps words bytes n i ≡ true
  scan_end h b gaps = left_end number_of (entry_sound b gaps) (entries_of words bytes n) i (omega (arith, length-entries_of words bytes n))

-- ---- `tidy_places`

pub record Tidying (words bytes₀ bytes : List ℕ) (n i : ℕ) : Type 0 where
  pub room : payload_bytes * n ≤ length bytes₀
  pub fit : every? fits (entries_of words bytes₀ n) ≡ true
  pub upto : i ≤ n
  pub same : length bytes ≡ length bytes₀
  pub now : bytes ≡ over (flat (map payload_bytes_of (take i (entries_of words bytes₀ n)))) bytes₀

pub tidying_none : (words bytes : List ℕ) (n : ℕ) → payload_bytes * n ≤ length bytes → every? fits (entries_of words bytes n) ≡ true → Tidying words bytes bytes n 0
unfolding flat
tidying_none words bytes n h f = record { room = h; fit = f; upto = omega arith; same = refl; now = sym (over_nil bytes) }

each_take : {A : Type 0} (P : A → Type 0) (k : ℕ) (xs : List A) → Each P xs → Each P (take k xs)
each_take P zero xs e = none
each_take P (suc k) [] e = none
each_take P (suc k) (x ∷ xs) (more h e) = more h (each_take P k xs e)

-- how many bytes the first i places have
length-places : (es : List Entry) (i : ℕ) → every? fits es ≡ true → i ≤ length es → length (flat (map payload_bytes_of (take i es))) ≡ payload_bytes * i
length-places es i f h =
    length-words payload_bytes payload_bytes_of i (take i es) (even_payloads (take i es) (each_take Fits i es (each_fits es f))) (length-take-le i es h)

module _ {words bytes₀ bytes : List ℕ} {n i : ℕ} (t : Tidying words bytes₀ bytes n i) where
  all : List Entry
  all = entries_of words bytes₀ n

  front : length (flat (map payload_bytes_of (take i all))) ≡ payload_bytes * i
  unfolding all
  front = length-places all i t.fit (omega (arith, t.upto, length-entries_of words bytes₀ n))

  -- from place i on the bytes are as they came
  rest : drop (payload_bytes * i) bytes ≡ drop (payload_bytes * i) bytes₀
  unfolding all
  rest =
      let p = flat (map payload_bytes_of (take i all)) in
      ap (drop (payload_bytes * i)) (t.now ∙ over-is p bytes₀) ∙ drop_at p (drop (length p) bytes₀) (payload_bytes * i) front ∙ ap (λ (k : ℕ). drop k bytes₀) front

  module _ (h : i < n) (r : Row.Entry) (e : (p : List ℕ) → entry_of (take entry_words (drop (entry_words * i) words)) p ≡ entry r (padded r.size (take r.size p))) where
    pub tidying_fits : r.size ≤ payload_bytes
    tidying_fits = place-fits words bytes₀ n i h r e t.room t.fit

    pub tidying_more : (u : List ℕ) → u ≡ written (payload_bytes * i) (padded payload_bytes (take r.size (drop (payload_bytes * i) bytes))) bytes → Tidying words bytes₀ u n (i + 1)
    unfolding all payload_bytes_of flat
    tidying_more u w =
        let p = flat (map payload_bytes_of (take i all)) in
        let x : Entry = get_or all i no_entry in
        let q : List ℕ = padded payload_bytes (take r.size (drop (payload_bytes * i) bytes)) in
        let le = length-entries_of words bytes₀ n in
        let room : payload_bytes * n ≤ length bytes₀ = t.room in
        let eq : q ≡ payload_bytes_of x = ap (λ (d : List ℕ). padded payload_bytes (take r.size d)) rest ∙ sym (ap payload_bytes_of (place_is words bytes₀ n i h r e room t.fit)) in
        let now : u ≡ over (flat (map payload_bytes_of (take (i + 1) all))) bytes₀ =
        w
        ∙ ap (written (payload_bytes * i) q) t.now
        ∙ written_next p q bytes₀ (payload_bytes * i) front
        ∙ ap (λ (l : List ℕ). over (p ++ l) bytes₀) eq
        ∙ sym (ap (λ (y : List Entry). over (flat (map payload_bytes_of y)) bytes₀) (take_next no_entry all i (omega arith)) ∙ rw (map-append, flat_append, append-nil)) in
        let l : length (flat (map payload_bytes_of (take (i + 1) all))) ≡ payload_bytes * (i + 1) = length-places all (i + 1) t.fit (omega arith) in
        record { room = room; fit = t.fit; upto = omega arith; same = ap length now ∙ length_over (flat (map payload_bytes_of (take (i + 1) all))) bytes₀ (omega arith); now = now }

  pub tidying_all : (u : List ℕ) → n ≤ i → u ≡ padded (length bytes) (take (payload_bytes * n) bytes) → u ≡ laid payload_bytes_of (length bytes₀) (entries_of words bytes₀ n)
  unfolding all laid
  tidying_all u h w =
      let whole : take i all ≡ all = take_all i all (omega (arith, length-entries_of words bytes₀ n)) in
      let p = flat (map payload_bytes_of all) in
      let same : i ≡ n = omega (arith, t.upto) in
      let lp : length p ≡ payload_bytes * n = sym (ap (λ (y : List Entry). length (flat (map payload_bytes_of y))) whole) ∙ front ∙ ap (λ (k : ℕ). payload_bytes * k) same in
      let f : take (payload_bytes * n) bytes ≡ p =
      ap (take (payload_bytes * n)) (t.now ∙ ap (λ (y : List Entry). over (flat (map payload_bytes_of y)) bytes₀) whole) ∙ take-over (payload_bytes * n) p bytes₀ (omega arith) ∙ take_all (payload_bytes * n) p (omega arith) in
      w ∙ rw (t.same, f)

-- ---- `tidy`: the words of entries are as they are read

arrival_forth : (w : ℕ) → arrival_word (arrival_of w) ≡ w
unfolding arrival_word arrival_of
arrival_forth zero = refl
arrival_forth (suc i) = refl

size_forth : (w : ℕ) → 2 * (w / 2) + bit (eqb (w % 2) 1) ≡ w
unfolding bit
size_forth w = go (eqb (w % 2) 1) refl
  where
    go : (b : Bool) → eqb (w % 2) 1 ≡ b → 2 * (w / 2) + bit b ≡ w
    go true e = omega (arith, eqb-true (w % 2) 1 e)
    go false e = let ne = eqb-false (w % 2) 1 e in omega arith

word_forth : (b p : List ℕ) → length b ≡ entry_words → entry_words_of (entry_of b p) ≡ b
unfolding entry_words_of entry_of
word_forth [] p l = absurd (omega arith)
word_forth (x ∷ []) p l = absurd (omega arith)
word_forth (x ∷ y ∷ []) p l = absurd (omega arith)
word_forth (x ∷ y ∷ z ∷ []) p l = absurd (omega arith)
word_forth (x ∷ y ∷ z ∷ v ∷ u ∷ b) p l = absurd (omega arith)
word_forth (x ∷ y ∷ z ∷ v ∷ []) p l =
    let s : length (padded (v / 2) (take (v / 2) p)) ≡ v / 2 = length-padded (v / 2) (take (v / 2) p) (omega (arith, length-take (v / 2) p)) in
    rw (s, arrival_forth z, size_forth v)

words_forth : (n : ℕ) (words bytes : List ℕ) → entry_words * n ≤ length words → map entry_words_of (entries_of words bytes n) ≡ blocks entry_words words n
unfolding entries_of blocks zip_with
words_forth zero words bytes h = refl
words_forth (suc n) words bytes h =
    rw (word_forth (take entry_words words) (take payload_bytes bytes) (length-take-le entry_words words (omega arith)), words_forth n (drop entry_words words) (drop payload_bytes bytes) (simp length-drop (omega arith)))

pub words_tidied : (words bytes : List ℕ) (n : ℕ) → entry_words * n ≤ length words → padded (length words) (take (entry_words * n) words) ≡ laid entry_words_of (length words) (entries_of words bytes n)
unfolding laid
words_tidied words bytes n h = ap (padded (length words)) (sym (ap flat (words_forth n words bytes h) ∙ flat-blocks entry_words n words))

pub ruleset sounding = (scan_end)

pub ruleset tidying = (tidying_none, tidying_fits, tidying_more, tidying_all)
