-- Demand 3: what holds after every list of calls on a newly opened session.
use Rattle.std.specs.Prelude.{◌≡◌, ℕ}
use mathlib.Core.List.{List, [], ◌++◌, foldl}
use Rattle.model.specs.declared.Config.{Config}
use Rattle.model.specs.Records.{new_state}
use Rattle.model.specs.Storage.{Storage, Stored, parse, write}
use Rattle.model.specs.Calls.{Call}
use Rattle.model.specs.Table.{opening_refusal}
use Rattle.model.specs.Did.{did, session, opened}
use Rattle.book.specs.Book.{Book, empty, enter}
use Rattle.book.specs.States.{View, HoldsIn, StepTo}
unfoldable pub use Rattle.book.specs.States.{hear, given}

-- ---- lists of calls

-- The session as stored, the book beside it, and what `poll` returned so far.
pub record Run : Type 0 where
  pub stored : Stored
  pub book : Book
  pub returned : List ℕ

unfoldable pub start : Config → Run
start c = record { stored = write (new_state c); book = empty; returned = [] }

-- one more call, on what the last one left; the book gets the call and what it hears of the answer
unfoldable pub call : Config → Run → Call → Run
call c x k =
    record { stored = (did k x.stored).stored; book = enter c k (hear (did k x.stored).answer) x.book; returned = x.returned ++ given (did k x.stored).answer }

-- "every list of calls on one newly opened session, refused ones included"
unfoldable pub calls : Config → List Call → Run
unfolding start
calls c ks = foldl (call c) (start c) ks

-- ---- what is claimed

-- the state that is stored, with the same book
abbrev pub view_of : Run → View
view_of x = record { state = parse x.stored; book = x.book; returned = x.returned }

abbrev pub Holds : Config → Run → Type 0
Holds c x = HoldsIn c (view_of x)

-- What one more call does.
abbrev pub Step : Config → Run → Call → Type 0
Step c x k = StepTo c (view_of x) k (view_of (call c x k))

-- Demand 3.
pub record EveryListOfCalls : Type 0 where
  -- a newly opened session is what the opening leaves
  pub opening : (c : Config) (t : Storage) → opening_refusal c t ≡ 0 → opened c t ≡ record { answer = session (start c).stored.session; storage = (start c).stored.storage }
  pub every : (c : Config) (t : Storage) (ks : List Call) → opening_refusal c t ≡ 0 → Holds c (calls c ks)
  pub further : (c : Config) (t : Storage) (ks : List Call) (k : Call) → opening_refusal c t ≡ 0 → Step c (calls c ks) k
