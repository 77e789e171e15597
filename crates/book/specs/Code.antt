-- Demand 3 for code: calls made one after the other, of which each meets its contract, `Opens` or `Does`.
use Rattle.std.specs.Prelude.{◌≡◌, List, [], ◌∷◌, ◌++◌, ℕ}
use Rattle.model.specs.declared.Config.{Config}
use Rattle.model.specs.declared.Session.{Session}
use Rattle.model.specs.Storage.{Storage, Stored}
use Rattle.model.specs.Calls.{Call, Answer}
use Rattle.model.specs.Did.{session}
use Rattle.model.specs.Contract.{Opens, Does}
use Rattle.book.specs.Book.{empty, enter}
use Rattle.book.specs.Claim.{hear, given, Run, calls, Holds, Step}

-- The calls ks were made on one newly opened session, each on what the last one left; x is what stands there now, with the book beside it.
pub data Made (c : Config) : List Call → Run → Type 0 where
  -- the opening answered with a session and left the storage u
  opening : (t : Storage) {u : Storage} {s : Session} → Opens c t (session s) u
      → Made c [] (record { stored = record { session = s; storage = u }; book = empty; returned = [] })
  -- a further call gave the answer a and left the session and storage y
  further : {ks : List Call} {x : Run} (k : Call) {a : Answer} {y : Stored} {output : List ℕ} → Made c ks x → Does k x.stored a y output
      → Made c (ks ++ (k ∷ [])) (record { stored = y; book = enter c k (hear a) x.book; returned = x.returned ++ given a })

-- what is shown of a run of the calls ks that came to x
pub record Shown (c : Config) (ks : List Call) (x : Run) : Type 0 where
  -- so what is said of `calls` is said of code
  pub is_calls : x ≡ calls c ks
  pub holds : Holds c x
  pub steps : (k : Call) → Step c x k

abbrev pub EveryRun : Type 0
EveryRun = (c : Config) (ks : List Call) (x : Run) → Made c ks x → Shown c ks x
