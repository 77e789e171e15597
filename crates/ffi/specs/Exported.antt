-- The exported functions: `did` and `opened` of `model`, on words. Words that cannot be read are refused, and nothing changes:
-- under 1 at the opening, under 16 in a call.
use Rattle.std.specs.Prelude.{◌≡◌, ◌&&◌, cond, List, [], ℕ, length}
use Rattle.refusals.specs.Refusals.{SETTINGS, SESSION}
use Rattle.nack_pairs.specs.Reader.{read_answer, list_after}
use Rattle.jitter.specs.Interarrival.{jitter_get}
use Rattle.config.specs.Valid.{depth_valid, gaps_valid}
use Rattle.model.specs.declared.Queue.{Queue}
use Rattle.model.specs.Valid.{queue_sound}
use Rattle.model.specs.Storage.{Storage, Stored, entries_length, payloads_length, gaps_length, remembered_length}
use Rattle.model.specs.Calls as Calls
use Rattle.model.specs.Calls.{Answer, Call, output_of}
use Rattle.model.specs.Table.{config_valid}
use Rattle.model.specs.Did as Did
use Rattle.model.specs.Did.{Done, did, opened}
use Rattle.ffi_words.specs.declared.ConfigWords.{ConfigWords}
use Rattle.ffi_words.specs.declared.SessionWords.{SessionWords}
use Rattle.ffi_words.specs.declared.answers.Opened.{Opened}
use Rattle.ffi_words.specs.declared.figures.Figures.{Figures}
use Rattle.ffi_words.specs.declared.figures.Lengths.{Lengths}
use Rattle.ffi_words.specs.declared.figures.ReadNumbers.{ReadNumbers}
use Rattle.ffi_words.specs.Words.{config_readable, readable, config_of, queue_of, session_of}
use Rattle.ffi_words.specs.Told.{back, numbers_told, open_told, no_figures}

-- the session that the words stand for, beside the storage
abbrev pub stands_for : SessionWords → Storage → Stored
stands_for w t = record { session = session_of w; storage = t }

-- what comes back: the answer in words, the lent storage and the lent output
pub record Given (A : Type 0) : Type 0 where
  pub value : A
  pub storage : Storage
  pub output : List ℕ

module _ {A : Type 0} (tell : Answer → SessionWords → A) where
  -- words that cannot be read
  unfoldable pub unread : Call → SessionWords → Storage → Given A
  unread c w t = record { value = tell (Calls.refused SESSION) w; storage = t; output = output_of c }

  -- what the queue's call did, in words
  unfoldable pub told : SessionWords → Done → Given A
  told w d = record { value = back tell d.answer w d.stored.session; storage = d.stored.storage; output = d.output }

  unfoldable pub called : Call → SessionWords → Storage → Given A
  called c w t = cond (readable w) (told w (did c (stands_for w t))) (unread c w t)

-- The call c on these words and this storage gave r and left the storage and the output.
abbrev pub Gives : {A : Type 0} → (Answer → SessionWords → A) → Call → SessionWords → Storage → A → Storage → List ℕ → Type 0
Gives tell c w before r after output = called tell c w before ≡ record { value = r; storage = after; output = output }

-- a call that only reads leaves the words with the caller
abbrev pub alone : {A : Type 0} → (Answer → A) → Answer → SessionWords → A
alone tell a w = tell a

unfoldable pub opened_by : Did.Opened → Given Opened
opened_by o = record { value = open_told o.answer; storage = o.storage; output = [] }

unfoldable pub opened_words : ConfigWords → Storage → Given Opened
opened_words c t = opened_by (cond (config_readable c) (opened (config_of c) t) (record { answer = Did.refused SETTINGS; storage = t }))

-- ---- the reader of NACK entries, without a session

-- what it tells, and the list that it leaves
pub record Numbers : Type 0 where
  pub value : ReadNumbers
  pub list : List ℕ

unfoldable pub read_nacks : (bytes list : List ℕ) → Numbers
read_nacks bytes list = record { value = numbers_told (read_answer bytes (length list)); list = list_after bytes list }

-- ---- two readings without storage

unfoldable pub figures_of : Queue → Figures
figures_of q =
    record {
      refusal = 0;
      packets_received = q.counters.received;
      packets_dropped = q.counters.dropped;
      packets_lost = q.counters.lost;
      bytes_received = q.counters.bytes;
      jitter = jitter_get q.jitter;
      loss = q.loss.loss;
    }

-- 16, but for the counts and the storage
unfoldable pub queue_figures : Queue → Figures
queue_figures q = cond (config_valid q.config && queue_sound q) (figures_of q) (no_figures SESSION)

unfoldable pub figures : SessionWords → Figures
figures w = cond (readable w) (queue_figures (queue_of w)) (no_figures SESSION)

abbrev pub no_lengths : Lengths
no_lengths = record { refusal = SETTINGS; entries = 0; payloads = 0; gaps = 0; remembered = 0 }

-- the lengths that 16 asks for, by D and G
unfoldable pub lengths : ℕ → ℕ → Lengths
lengths entries gaps =
    cond (depth_valid entries && gaps_valid gaps)
    (record {
      refusal = 0;
      entries = entries_length entries;
      payloads = payloads_length entries;
      gaps = gaps_length gaps;
      remembered = remembered_length;
    })
    no_lengths

-- ---- the version of the boundary: 1,000,000 · major + 1,000 · minor + patch
abbrev pub VERSION : ℕ
VERSION = 3000
