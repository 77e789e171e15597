-- An exported call with what its caller then has, and that this stands for the session that the queue's call leaves.
use Rattle.std.specs.Prelude.{◌≡◌, true, cond, List, [], ◌∷◌, ℕ, eqb}
use Rattle.model.specs.Records.{new_state}
use Rattle.model.specs.Storage.{Storage, Stored, write}
use Rattle.model.specs.Calls.{Call, media, repair, poll, poll_nack, nack_wire, timeout_receive, timeout_nack, rtx_stats, highest_received}
use Rattle.model.specs.Table.{opening_refusal}
use Rattle.model.specs.Did.{did}
use Rattle.book.specs.Book.{Heard, refused, accepted}
use Rattle.ffi_words.specs.declared.ConfigWords.{ConfigWords}
use Rattle.ffi_words.specs.declared.SessionWords.{SessionWords}
use Rattle.ffi_words.specs.declared.answers.Pushed.{Pushed}
use Rattle.ffi_words.specs.declared.answers.Polled.{Polled}
use Rattle.ffi_words.specs.declared.answers.PolledNack.{PolledNack}
use Rattle.ffi_words.specs.declared.answers.PolledWire.{PolledWire}
use Rattle.ffi_words.specs.declared.figures.Timeout.{Timeout}
use Rattle.ffi_words.specs.declared.figures.RtxStats.{RtxStats}
use Rattle.ffi_words.specs.declared.figures.Highest.{Highest}
use Rattle.ffi_words.specs.Words.{config_readable, readable, config_of}
use Rattle.ffi_words.specs.Told.{pushed, polled, polled_nack, polled_wire, timeout_told, stats_told, highest_told}
use Rattle.ffi.specs.Exported.{stands_for, Gives, alone, opened_words}

-- ---- what the caller is told, by the words alone

-- refused, or accepted and whether a packet was handed out: by the words `refusal` and `has_packet`, or 0 where a call has no such word
unfoldable pub heard_in : (refusal packets : ℕ) → Heard
heard_in refusal packets = cond (eqb refusal 0) (accepted (eqb packets 1)) refused

-- the 16-bit number of the packet that `poll` handed out, if it did
unfoldable pub numbers_in : Polled → List ℕ
numbers_in r = cond (eqb r.has_packet 1) (r.packet.sequence_number ∷ []) []

-- ---- calls

-- The contract of an exported call on the words w and the storage t, with what the caller then has: the words, the storage, what it heard and
-- the numbers that it got. A call that only reads leaves the words with the caller.
pub data ExportedCall (w : SessionWords) (t : Storage) : Call → SessionWords → Storage → Heard → List ℕ → Type 0 where
  push : {now : ℕ} {d : List ℕ} {r : Pushed} {u : Storage} → Gives pushed (media now d) w t r u []
      → ExportedCall w t (media now d) r.session u (heard_in r.refusal 0) []
  push_rtx : {now : ℕ} {d : List ℕ} {r : Pushed} {u : Storage} → Gives pushed (repair now d) w t r u []
      → ExportedCall w t (repair now d) r.session u (heard_in r.refusal 0) []
  polls : {now : ℕ} {out left : List ℕ} {r : Polled} {u : Storage} → Gives polled (poll now out) w t r u left
      → ExportedCall w t (poll now out) r.session u (heard_in r.refusal r.has_packet) (numbers_in r)
  polls_nack : {now : ℕ} {out left : List ℕ} {r : PolledNack} {u : Storage} → Gives polled_nack (poll_nack now out) w t r u left
      → ExportedCall w t (poll_nack now out) r.session u (heard_in r.refusal 0) []
  nacks_wire : {now : ℕ} {out left : List ℕ} {r : PolledWire} {u : Storage} → Gives polled_wire (nack_wire now out) w t r u left
      → ExportedCall w t (nack_wire now out) r.session u (heard_in r.refusal 0) []
  receive_timeout : {now : ℕ} {r : Timeout} {u : Storage} → Gives (alone timeout_told) (timeout_receive now) w t r u []
      → ExportedCall w t (timeout_receive now) w u (heard_in r.refusal 0) []
  nack_timeout : {now : ℕ} {r : Timeout} {u : Storage} → Gives (alone timeout_told) (timeout_nack now) w t r u []
      → ExportedCall w t (timeout_nack now) w u (heard_in r.refusal 0) []
  repair_figures : {r : RtxStats} {u : Storage} → Gives (alone stats_told) rtx_stats w t r u []
      → ExportedCall w t rtx_stats w u (heard_in r.refusal 0) []
  highest_number : {r : Highest} {u : Storage} → Gives (alone highest_told) highest_received w t r u []
      → ExportedCall w t highest_received w u (heard_in r.refusal 0) []

-- ---- call after call

-- These words are readable, and read beside this storage they are m.
abbrev pub ReadAs : SessionWords → Storage → Stored → Type 0
ReadAs w t m = (readable w ≡ true) × (stands_for w t ≡ m)

-- Call after call on words is a run of the queue's calls: the words and the storage that the caller then has stand for the session that is
-- left, refused or not.
pub record Follows : Type 0 where
  pub at_opening : (c : ConfigWords) (t : Storage) → config_readable c ≡ true → opening_refusal (config_of c) t ≡ 0
      → let g = opened_words c t in ReadAs g.value.session g.storage (write (new_state (config_of c)))
  pub at_call : {k : Call} {w v : SessionWords} {t u : Storage} {heard : Heard} {numbers : List ℕ}
      → readable w ≡ true → ExportedCall w t k v u heard numbers → ReadAs v u (did k (stands_for w t)).stored
