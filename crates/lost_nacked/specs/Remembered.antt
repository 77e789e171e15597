-- 002's list in storage: what the functions over it say, in the terms of the queue's definitions.
use Rattle.std.specs.Prelude.{◌≡◌, Bool, not, List, ℕ, ◌*◌, ◌≤◌, length}
use Rattle.words.specs.Blocks.{laid}
use Rattle.model.specs.Records as Records
use Rattle.model.specs.Rules.{is_of}
use Rattle.model.specs.Storage.{remembered_words, remembered_words_of, remembered_of}
use Rattle.lost_nacked.specs.declared.Remembered.{Remembered}

-- n numbers stand in the words from place 0 on, with zeros after them
pub record RememberedIn (words : List ℕ) (n : ℕ) : Type 0 where
  pub room : remembered_words * n ≤ length words
  pub held : words ≡ laid remembered_words_of (length words) (remembered_of words n)

-- the record that one of the code stands for
abbrev pub remembered : Remembered → Records.Remembered
remembered r = record { number = r.number.0; nacked_at = r.nacked_at }

-- of another number than x
abbrev pub another : ℕ → Records.Remembered → Bool
another x r = not (is_of x r)
