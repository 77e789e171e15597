-- 000's entries in storage: what the functions over them say, in the terms of the queue's definitions.
use Rattle.std.specs.Prelude.{◌≡◌, Bool, true, List, [], ◌∷◌, ℕ, ◌*◌, ◌^◌, ◌≤◌, ◌<◌, leb, length}
use Rattle.words.specs.Blocks.{laid}
use Rattle.model.specs.Lists.{every?}
use Rattle.model.specs.Records as Records
use Rattle.model.specs.Storage.{entry_words, payload_bytes, arrival_word, entry_words_of, payload_bytes_of, entries_of}
use Rattle.entries.specs.declared.Entry.{Entry}

-- its payload has room in a place
abbrev pub fits : Records.Entry → Bool
fits e = leb (length e.payload) payload_bytes

-- n entries stand in the words and bytes from place 0 on, with zeros after them, as they are written
pub record EntriesIn (words bytes : List ℕ) (n : ℕ) : Type 0 where
  pub room : entry_words * n ≤ length words
  pub places : payload_bytes * n ≤ length bytes
  pub fit : every? fits (entries_of words bytes n) ≡ true
  pub held : words ≡ laid entry_words_of (length words) (entries_of words bytes n)
  pub filled : bytes ≡ laid payload_bytes_of (length bytes) (entries_of words bytes n)

-- the record that an entry of the code stands for, with its payload
abbrev pub entry : Entry → List ℕ → Records.Entry
entry e p = record { arrival = e.arrival; timestamp = e.timestamp.0; number = e.number.0; marker = e.marker; payload = p }

-- an entry that is to be written with the payload p
pub record Incoming (e : Entry) (p : List ℕ) : Type 0 where
  pub size : e.size ≡ length p
  pub fits : length p ≤ payload_bytes
  pub arrival : arrival_word e.arrival < 2 ^ 64

unfoldable pub first_number : List Records.Entry → ℕ
first_number [] = 0
first_number (e ∷ es) = e.number
