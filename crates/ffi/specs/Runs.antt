-- Demand 3 through the boundary: exported calls made one after the other, on words that the caller keeps and storage that it lends. The book
-- hears what the caller is told, and `returned` has the numbers that it got.
use Rattle.std.specs.Prelude.{◌≡◌, List, [], ◌∷◌, ◌++◌, ℕ, length}
use Rattle.model.specs.declared.Config.{Config}
use Rattle.model.specs.Storage.{Storage}
use Rattle.model.specs.Calls.{Call}
use Rattle.book.specs.Book.{Heard, empty, enter}
use Rattle.book.specs.Claim.{Run, call, Holds, Step}
use Rattle.ffi_words.specs.declared.ConfigWords.{ConfigWords}
use Rattle.ffi_words.specs.declared.SessionWords.{SessionWords}
use Rattle.ffi_words.specs.declared.answers.Opened.{Opened}
use Rattle.ffi_words.specs.declared.figures.Figures.{Figures}
use Rattle.ffi_words.specs.Words.{config_of}
use Rattle.ffi.specs.Exported.{stands_for, opened_words, figures_of, figures}
use Rattle.ffi.specs.Follows.{ExportedCall}

-- x after one more call, by what the caller then has
abbrev pub next_run : Config → Run → Call → SessionWords → Storage → Heard → List ℕ → Run
next_run c x k w t heard numbers = record { stored = stands_for w t; book = enter c k heard x.book; returned = x.returned ++ numbers }

-- The calls ks were made on one newly opened session, each on the words and the storage that the last one left; w and the storage of x stand
-- there now, with the book beside them.
pub data MadeInWords (c : ConfigWords) : List Call → SessionWords → Run → Type 0 where
  opening : (t : Storage) {u : Storage} {r : Opened} → opened_words c t ≡ record { value = r; storage = u; output = [] } → r.refusal ≡ 0
      → MadeInWords c [] r.session (record { stored = stands_for r.session u; book = empty; returned = [] })
  further : {ks : List Call} {w v : SessionWords} {u : Storage} {heard : Heard} {numbers : List ℕ} {x : Run} (k : Call)
      → MadeInWords c ks w x → ExportedCall w x.stored.storage k v u heard numbers
      → MadeInWords c (ks ++ (k ∷ [])) v (next_run (config_of c) x k v u heard numbers)
  -- "A call added later belongs to the list too and counts as the calls it equals, if any": `bizhgemu_figures` gave r, by its contract. It
  -- equals no call of the list and leaves words, storage and book as they are.
  looked : {ks : List Call} {w : SessionWords} {x : Run} {r : Figures} → MadeInWords c ks w x → r ≡ figures w → MadeInWords c ks w x

pub record EveryRunInWords : Type 0 where
  pub holds : (c : ConfigWords) (ks : List Call) (w : SessionWords) (x : Run) → MadeInWords c ks w x → Holds (config_of c) x
  pub steps : (c : ConfigWords) (ks : List Call) (w : SessionWords) (x : Run) (k : Call) → MadeInWords c ks w x → Step (config_of c) x k
  -- what the queue's call leaves, of which `Step` speaks, is what the exported call leaves, with the book that heard the words
  pub same : {c : ConfigWords} {ks : List Call} {w v : SessionWords} {u : Storage} {heard : Heard} {numbers : List ℕ} {x : Run} {k : Call}
      → MadeInWords c ks w x → ExportedCall w x.stored.storage k v u heard numbers
      → call (config_of c) x k ≡ next_run (config_of c) x k v u heard numbers
  -- what `bizhgemu_figures` tells wherever such a run stands: the figures of the session, and as lost the number of the book's lost ones
  pub figures_told : {c : ConfigWords} {ks : List Call} {w : SessionWords} {x : Run} {r : Figures} → MadeInWords c ks w x → r ≡ figures w
      → (r ≡ figures_of x.stored.session.queue) × (r.packets_lost ≡ length x.book.lost)
