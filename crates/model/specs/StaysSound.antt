-- What the queue leaves, check 16 passes.
use Rattle.std.specs.Prelude.{◌≡◌}
use Rattle.model.specs.declared.Config.{Config}
use Rattle.model.specs.Records.{new_state}
use Rattle.model.specs.Storage.{Storage, Stored, write}
use Rattle.model.specs.Calls.{Call}
use Rattle.model.specs.Table.{session_refusal, refusal, opening_refusal}
use Rattle.model.specs.Did.{did}

-- What the opening or an accepted call leaves is never refused under 16 at the next call with the same storage.
pub record StaysSound : Type 0 where
  pub at_opening : (c : Config) (t : Storage) → opening_refusal c t ≡ 0 → session_refusal (write (new_state c)) ≡ 0
  pub at_call : (k : Call) (m : Stored) → refusal k m ≡ 0 → session_refusal (did k m).stored ≡ 0
