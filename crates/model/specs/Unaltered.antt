-- Demand 1: "A refused call alters no byte of the session or of any lent buffer." Said without `turned_back`, so that it stands by itself.
use Rattle.std.specs.Prelude.{◌≡◌}
use Rattle.model.specs.declared.Config.{Config}
use Rattle.model.specs.Storage.{Storage, Stored}
use Rattle.model.specs.Calls as Calls
use Rattle.model.specs.Calls.{Call, output_of}
use Rattle.model.specs.Table.{refusal, opening_refusal}
use Rattle.model.specs.Did.{did, opened, refused}

pub record Unaltered : Type 0 where
  -- session, storage and output are those that were given; the answer is the number
  pub calls : (c : Call) (m : Stored) → (refusal c m ≡ 0 → ⊥) → did c m ≡ record { answer = Calls.refused (refusal c m); stored = m; output = output_of c }
  pub opening : (c : Config) (t : Storage) → (opening_refusal c t ≡ 0 → ⊥) → opened c t ≡ record { answer = refused (opening_refusal c t); storage = t }
