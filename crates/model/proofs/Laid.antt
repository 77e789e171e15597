-- Laws of the layout: what a session's lists are written as is read again. Each record is read back from its own words (`gap_coded`,
-- `entry-back`, ..), and words laid down w at a time are read w at a time (`blocks-laid` of `words`).
use mathlib.Core.Path.{◌≡◌, refl, sym, ap}
use mathlib.Core.Bool.{Bool, true, false, ◌&&◌}
use mathlib.Core.List.{List, [], ◌∷◌, map, zip_with}
use Prim.Native.Nat.{ℕ, zero, suc, ◌+◌, ◌*◌, ◌/◌, ◌%◌, ◌≤◌}
use native.Mathlib.Nat.{mul-le-mul_left}
use native.Mathlib.Omega.{arith}
use lib.Dec.{leb, eqb}
use lib.ListN.{length, length-replicate}
use borrow.Author.Tests.{eq-eqb, leb-true}
use Rattle.words.specs.Words.{padded, padded_with}
use Rattle.words.specs.Blocks.{blocks, flat, laid}
use Rattle.words.proofs.Over.{over_all}
use Rattle.words.proofs.Moves.{length-padded}
use Rattle.words.proofs.Padded.{take-padded}
use Rattle.words.proofs.Lists.{spelled}
use Rattle.words.proofs.Records as Records
use Rattle.words.proofs.Records.{Holds, holds_wide, Coded, even_wide, length-laid, blocks-laid, records_laid, length_records}
use Rattle.words.proofs.Ordered.{and_left, and_right}
use Rattle.words.proofs.Forms.{Even, records_of}
use Rattle.std.specs.Prelude.{Option, None, Some}
use Rattle.model.specs.Records.{Entry, Gap, Remembered, State}
use Rattle.model.specs.Rules.{max_lost_nacked}
use Rattle.model.specs.Valid.{counts_fit}
use Rattle.model.proofs.Lists.{Each, none, more}
use Rattle.model.specs.Storage.{Stored, entry_words, payload_bytes, gap_words, remembered_words, entry_places, lengths_fit, arrival_word, arrival_of, bit, entry_words_of, payload_bytes_of, entry_of, gap_words_of, gap_of_words, remembered_words_of, remembered_of_words, entries_of, gaps_of, remembered_of, entries_laid, payloads_laid, gaps_laid, remembered_laid, parse, write}

-- ---- records that can be read again

unfoldable pub Fits : Entry → Type 0
Fits e = length e.payload ≤ payload_bytes

arrival-back : (a : Option ℕ) → arrival_of (arrival_word a) ≡ a
unfolding arrival_of arrival_word
arrival-back None = refl
arrival-back (Some i) = refl

-- the length and the marker, of the word that holds both
half : (n : ℕ) (m : Bool) → (2 * n + bit m) / 2 ≡ n
unfolding bit
half n true = omega arith
half n false = omega arith

odd : (n : ℕ) (m : Bool) → eqb ((2 * n + bit m) % 2) 1 ≡ m
unfolding bit
odd n true = let e : (2 * n + 1) % 2 ≡ 1 = omega arith in rw e
odd n false = let e : (2 * n + 0) % 2 ≡ 0 = omega arith in rw e

pub padded_self : (p : List ℕ) → padded (length p) p ≡ p
unfolding padded_with
padded_self p = over_all p _ (sym (length-replicate (length p) 0))

entry-back : (e : Entry) → Fits e → entry_of (entry_words_of e) (payload_bytes_of e) ≡ e
unfolding Fits entry_of entry_words_of payload_bytes_of
entry-back e h = rw (arrival-back e.arrival, odd (length e.payload) e.marker, half (length e.payload) e.marker, take-padded payload_bytes (length e.payload) e.payload refl, padded_self e.payload)

-- ---- lists

-- how many words they are
pub length-words : {A : Type 0} (w : ℕ) (enc : A → List ℕ) → ((x : A) → length (enc x) ≡ w) → (l : List A) → length (flat (map enc l)) ≡ w * length l
length-words w enc wide l = Records.length-words w enc (length l) l (even_wide w enc wide l) refl

pub gap_wide : (g : Gap) → length (gap_words_of g) ≡ gap_words
unfolding gap_words_of
gap_wide g = refl

pub gaps-held : {cap n : ℕ} {s : List ℕ} {gs : List Gap} → s ≡ laid gap_words_of cap gs → length gs ≡ n → gap_words * n ≤ cap → Holds gap_words cap gap_words_of s n gs
gaps-held = holds_wide gap_words gap_words_of gap_wide

-- where a record's words are its fields in turn, nothing is lost either way
pub gap_coded : Coded gap_words gap_of_words gap_words_of
unfolding gap_of_words gap_words_of
gap_coded = record { wide = gap_wide; back = λ g. refl; forth = spelled gap_words }

pub remembered_wide : (r : Remembered) → length (remembered_words_of r) ≡ remembered_words
unfolding remembered_words_of
remembered_wide r = refl

pub remembered-held : {cap n : ℕ} {s : List ℕ} {rs : List Remembered} → s ≡ laid remembered_words_of cap rs → length rs ≡ n → remembered_words * n ≤ cap
    → Holds remembered_words cap remembered_words_of s n rs
remembered-held = holds_wide remembered_words remembered_words_of remembered_wide

pub remembered_coded : Coded remembered_words remembered_of_words remembered_words_of
unfolding remembered_of_words remembered_words_of
remembered_coded = record { wide = remembered_wide; back = λ r. refl; forth = spelled remembered_words }

pub entry_wide : (e : Entry) → length (entry_words_of e) ≡ entry_words
unfolding entry_words_of
entry_wide e = refl

pub entries-held : {cap n : ℕ} {s : List ℕ} {es : List Entry} → s ≡ laid entry_words_of cap es → length es ≡ n → entry_words * n ≤ cap → Holds entry_words cap entry_words_of s n es
entries-held = holds_wide entry_words entry_words_of entry_wide

-- the payload's place, where it fits
payload_wide : (e : Entry) → Fits e → length (payload_bytes_of e) ≡ payload_bytes
unfolding Fits payload_bytes_of
payload_wide e h = length-padded payload_bytes e.payload h

pub even_payloads : (l : List Entry) → Each Fits l → Even payload_bytes (map payload_bytes_of l)
unfolding Even
even_payloads [] none = tt
even_payloads (e ∷ l) (more f fs) = (payload_wide e f, even_payloads l fs)

-- ---- what is laid down is read again

pub gaps_of-laid : (places : ℕ) (l : List Gap) → gaps_of (gaps_laid places l) (length l) ≡ l
unfolding gaps_of gaps_laid records_of laid
gaps_of-laid places l = records_laid gap_coded (gap_words * places) (length l) l refl

pub remembered_of-laid : (l : List Remembered) → remembered_of (remembered_laid l) (length l) ≡ l
unfolding remembered_of remembered_laid records_of laid
remembered_of-laid l = records_laid remembered_coded (remembered_words * max_lost_nacked) (length l) l refl

entries-back : (l : List Entry) → Each Fits l → zip_with entry_of (map entry_words_of l) (map payload_bytes_of l) ≡ l
unfolding zip_with
entries-back [] none = refl
entries-back (e ∷ l) (more f fs) = rw (entry-back e f, entries-back l fs)

pub entries_of-laid : (places : ℕ) (l : List Entry) → Each Fits l → entries_of (entries_laid places l) (payloads_laid places l) (length l) ≡ l
unfolding entries_of entries_laid payloads_laid laid
entries_of-laid places l f =
    rw (
      blocks-laid entry_words entry_words_of (length l) l (even_wide entry_words entry_words_of entry_wide l) refl (entry_words * places),
      blocks-laid payload_bytes payload_bytes_of (length l) l (even_payloads l f) refl (payload_bytes * places),
    )
    (entries-back l f)

-- ---- a session

pub parse-write : (s : State) → Each Fits s.entries → parse (write s) ≡ s
unfolding parse write
parse-write s h =
    let set = s.queue.config.settings in
    rw (entries_of-laid (entry_places set) s.entries h, gaps_of-laid set.max_gaps s.gaps, remembered_of-laid s.remembered)

-- the slices have the lengths that the settings ask for
pub lengths-write : (s : State) → Each Fits s.entries → counts_fit s.queue.config.settings (length s.entries) (length s.gaps) (length s.remembered) ≡ true → lengths_fit s.queue.config.settings (write s).storage ≡ true
unfolding counts_fit lengths_fit write entries_laid payloads_laid gaps_laid remembered_laid laid
lengths-write s f fit =
    let set = s.queue.config.settings in
    let e : Bool = leb (length s.entries) (2 * set.max_entries) in
    let g : Bool = leb (length s.gaps) set.max_gaps in
    let r : Bool = leb (length s.remembered) max_lost_nacked in
    let he = leb-true (length s.entries) (entry_places set) (and_left e (g && r) fit) in
    let hg = leb-true (length s.gaps) set.max_gaps (and_left g r (and_right e (g && r) fit)) in
    let hr = leb-true (length s.remembered) max_lost_nacked (and_right g r (and_right e (g && r) fit)) in
    rw (
      eq-eqb _ _ (length-laid entry_words entry_words_of _ s.entries (even_wide entry_words entry_words_of entry_wide s.entries) refl (entry_words * entry_places set) (mul-le-mul_left entry_words he)),
      eq-eqb _ _ (length-laid payload_bytes payload_bytes_of _ s.entries (even_payloads s.entries f) refl (payload_bytes * entry_places set) (mul-le-mul_left payload_bytes he)),
      eq-eqb _ _ (length-laid gap_words gap_words_of _ s.gaps (even_wide gap_words gap_words_of gap_wide s.gaps) refl (gap_words * set.max_gaps) (mul-le-mul_left gap_words hg)),
      eq-eqb _ _ (length-laid remembered_words remembered_words_of _ s.remembered (even_wide remembered_words remembered_words_of remembered_wide s.remembered) refl (remembered_words * max_lost_nacked) (mul-le-mul_left remembered_words hr)),
    )

-- ---- what is read of any words

pub length-gaps_of : (words : List ℕ) (n : ℕ) → length (gaps_of words n) ≡ n
unfolding gaps_of records_of
length-gaps_of words n = length_records gap_words gap_of_words n words

pub length-remembered_of : (words : List ℕ) (n : ℕ) → length (remembered_of words n) ≡ n
unfolding remembered_of records_of
length-remembered_of words n = length_records remembered_words remembered_of_words n words

pub length-entries_of : (words bytes : List ℕ) (n : ℕ) → length (entries_of words bytes n) ≡ n
unfolding entries_of blocks zip_with
length-entries_of words bytes zero = refl
length-entries_of words bytes (suc n) = ap suc (length-entries_of _ _ n)

-- of a session: as many records as it says
module _ (m : Stored) where
  pub parse-entries : length (parse m).entries ≡ m.session.entries
  unfolding parse
  parse-entries = length-entries_of m.storage.entries m.storage.payloads m.session.entries

  pub parse-gaps : length (parse m).gaps ≡ m.session.gaps
  unfolding parse
  parse-gaps = length-gaps_of m.storage.gaps m.session.gaps

  pub parse-remembered : length (parse m).remembered ≡ m.session.remembered
  unfolding parse
  parse-remembered = length-remembered_of m.storage.remembered m.session.remembered
