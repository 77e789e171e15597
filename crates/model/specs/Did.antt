-- What a call on stored bytes does, refused or not: the definition that the contracts of the opening and of the calls equate
-- answer, session and lent bytes with.
use Rattle.std.specs.Prelude.{cond, List, ℕ, eqb}
use Rattle.model.specs.declared.Config.{Config}
use Rattle.model.specs.declared.Session.{Session}
use Rattle.model.specs.Records.{State, new_state}
use Rattle.model.specs.Storage.{Storage, Stored, parse, write}
use Rattle.model.specs.Calls as Calls
use Rattle.model.specs.Calls.{Call, Answer, taken, answered, output_of, output_after}
use Rattle.model.specs.Table.{refusal, opening_refusal}

pub record Done : Type 0 where
  pub answer : Answer
  pub stored : Stored
  -- the lent output
  pub output : List ℕ

-- "Where a call is turned back": "Each refusal returns its number only; session, clock and every lent buffer are unchanged."
unfoldable pub turned_back : ℕ → Call → Stored → Done
turned_back number c m = record { answer = Calls.refused number; stored = m; output = output_of c }

unfoldable pub accepted : Call → State → Done
accepted c s = record { answer = answered c s; stored = write (taken c s); output = output_after c s }

unfoldable pub did : Call → Stored → Done
did c m = cond (eqb (refusal c m) 0) (accepted c (parse m)) (turned_back (refusal c m) c m)

-- The opening answers with a session, or with the number of its refusal.
pub data Opening : Type 0 where
  session : Session → Opening
  refused : ℕ → Opening

pub record Opened : Type 0 where
  pub answer : Opening
  pub storage : Storage

unfoldable pub opened : Config → Storage → Opened
opened c t =
    cond (eqb (opening_refusal c t) 0)
    (record { answer = session (write (new_state c)).session; storage = (write (new_state c)).storage })
    (record { answer = refused (opening_refusal c t); storage = t })
