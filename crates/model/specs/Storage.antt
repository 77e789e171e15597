-- The storage that the caller lends: which record stands in which place (docs/DESIGN.md, "Storage").
-- Records stand in the order of their list from place 0 on; how many, the session says; unused places hold zeros.
use Rattle.std.specs.Prelude.{Bool, true, false, ◌&&◌, ℕ, zero, suc, ◌+◌, ◌*◌, ◌/◌, ◌%◌, eqb, length, take, get_or, Option, None, Some}
use mathlib.Core.List.{List, [], ◌∷◌, map, zip_with}
use Rattle.words.specs.Words.{padded}
use Rattle.words.specs.Blocks.{blocks, laid}
use Rattle.rtp_packet.specs.Datagram.{largest_payload}
use Rattle.config.specs.declared.Settings.{Settings}
use Rattle.model.specs.declared.Session.{Session}
use Rattle.model.specs.Records.{Entry, Gap, Remembered, State}
use Rattle.model.specs.Rules.{max_lost_nacked}

-- The lent slices: words of the entries, bytes of their payloads, words of the gaps and of the remembered numbers.
pub record Storage : Type 0 where
  pub entries : List ℕ
  pub payloads : List ℕ
  pub gaps : List ℕ
  pub remembered : List ℕ

-- A session with the storage beside it.
pub record Stored : Type 0 where
  pub session : Session
  pub storage : Storage

-- ---- strides

abbrev pub entry_words : ℕ
entry_words = 4

abbrev pub payload_bytes : ℕ
payload_bytes = largest_payload

abbrev pub gap_words : ℕ
gap_words = 4

abbrev pub remembered_words : ℕ
remembered_words = 2

-- "Repairs may raise the count to 2 · D"
abbrev pub places_for : ℕ → ℕ
places_for depth = 2 * depth

abbrev pub entry_places : Settings → ℕ
entry_places set = places_for set.max_entries

-- the lengths of the slices, by D and G
abbrev pub entries_length : ℕ → ℕ
entries_length depth = entry_words * places_for depth

abbrev pub payloads_length : ℕ → ℕ
payloads_length depth = payload_bytes * places_for depth

abbrev pub gaps_length : ℕ → ℕ
gaps_length gaps = gap_words * gaps

abbrev pub remembered_length : ℕ
remembered_length = remembered_words * max_lost_nacked

unfoldable pub lengths_fit : Settings → Storage → Bool
lengths_fit set t =
    eqb (length t.entries) (entries_length set.max_entries)
    && (eqb (length t.payloads) (payloads_length set.max_entries)
    && (eqb (length t.gaps) (gaps_length set.max_gaps)
    && eqb (length t.remembered) remembered_length))

-- ---- a record as words

-- 0 for a repair, else the instant and 1 more
unfoldable pub arrival_word : Option ℕ → ℕ
arrival_word None = 0
arrival_word (Some i) = suc i

unfoldable pub arrival_of : ℕ → Option ℕ
arrival_of zero = None
arrival_of (suc i) = Some i

unfoldable pub bit : Bool → ℕ
bit false = 0
bit true = 1

-- number, timestamp, arrival, twice the payload's length with the marker
unfoldable pub entry_words_of : Entry → List ℕ
unfolding arrival_word bit
entry_words_of e = e.number ∷ e.timestamp ∷ arrival_word e.arrival ∷ (2 * length e.payload + bit e.marker) ∷ []

unfoldable pub payload_bytes_of : Entry → List ℕ
payload_bytes_of e = padded payload_bytes e.payload

-- the payload has the length that the word says, also where that is over the place's
unfoldable pub entry_of : List ℕ → List ℕ → Entry
unfolding arrival_of
entry_of w p =
    let size = get_or w 3 0 / 2 in
    record { arrival = arrival_of (get_or w 2 0); timestamp = get_or w 1 0; number = get_or w 0 0; marker = eqb (get_or w 3 0 % 2) 1; payload = padded size (take size p) }

-- number, instant detected, NACK count, last NACK instant
unfoldable pub gap_words_of : Gap → List ℕ
gap_words_of g = g.number ∷ g.detected ∷ g.nacks ∷ g.nacked_at ∷ []

unfoldable pub gap_of_words : List ℕ → Gap
gap_of_words w = record { number = get_or w 0 0; detected = get_or w 1 0; nacks = get_or w 2 0; nacked_at = get_or w 3 0 }

unfoldable pub remembered_words_of : Remembered → List ℕ
remembered_words_of r = r.number ∷ r.nacked_at ∷ []

unfoldable pub remembered_of_words : List ℕ → Remembered
remembered_of_words w = record { number = get_or w 0 0; nacked_at = get_or w 1 0 }

-- ---- lists, read and laid out

unfoldable pub entries_of : List ℕ → List ℕ → ℕ → List Entry
unfolding entry_of
entries_of words bytes n = zip_with entry_of (blocks entry_words words n) (blocks payload_bytes bytes n)

unfoldable pub gaps_of : List ℕ → ℕ → List Gap
unfolding gap_of_words
gaps_of words n = map gap_of_words (blocks gap_words words n)

unfoldable pub remembered_of : List ℕ → ℕ → List Remembered
unfolding remembered_of_words
remembered_of words n = map remembered_of_words (blocks remembered_words words n)

unfoldable pub entries_laid : ℕ → List Entry → List ℕ
unfolding entry_words_of
entries_laid places l = laid entry_words_of (entry_words * places) l

unfoldable pub payloads_laid : ℕ → List Entry → List ℕ
unfolding payload_bytes_of
payloads_laid places l = laid payload_bytes_of (payload_bytes * places) l

unfoldable pub gaps_laid : ℕ → List Gap → List ℕ
unfolding gap_words_of
gaps_laid places l = laid gap_words_of (gap_words * places) l

unfoldable pub remembered_laid : List Remembered → List ℕ
unfolding remembered_words_of
remembered_laid l = laid remembered_words_of remembered_length l

-- ---- a session

unfoldable pub parse : Stored → State
parse m =
    let s = m.session in
    let t = m.storage in
    record { queue = s.queue; entries = entries_of t.entries t.payloads s.entries; gaps = gaps_of t.gaps s.gaps; remembered = remembered_of t.remembered s.remembered }

unfoldable pub write : State → Stored
write s =
    let set = s.queue.config.settings in
    record {
      session = record { queue = s.queue; entries = length s.entries; gaps = length s.gaps; remembered = length s.remembered };
      storage =
          record {
            entries = entries_laid (entry_places set) s.entries;
            payloads = payloads_laid (entry_places set) s.entries;
            gaps = gaps_laid set.max_gaps s.gaps;
            remembered = remembered_laid s.remembered;
          };
    }
