-- The equations that are the contracts of the opening and of the calls; `Made` (crate `book`) takes the same ones.
use Rattle.std.specs.Prelude.{◌≡◌, List, ℕ, Result, Ok, Err}
use Rattle.std.specs.Borrow.{MutBor}
use denote.Triple.Both.{Both}
use Rattle.model.specs.declared.Config.{Config}
use Rattle.model.specs.declared.Session.{Session}
use Rattle.model.specs.Storage.{Storage, Stored}
use Rattle.refusals.specs.declared.Refusal.{Refusal}
use Rattle.refusals.specs.Refusals.{number}
use Rattle.model.specs.Calls as Calls
use Rattle.model.specs.Calls.{Answer, Call}
use Rattle.model.specs.Did.{did, opened, Opening}

-- the lent slices, and a session with them beside it
abbrev pub storage : List ℕ → List ℕ → List ℕ → List ℕ → Storage
storage entries payloads gaps remembered = record { entries = entries; payloads = payloads; gaps = gaps; remembered = remembered }

abbrev pub stored : Session → List ℕ → List ℕ → List ℕ → List ℕ → Stored
stored s entries payloads gaps remembered = record { session = s; storage = storage entries payloads gaps remembered }

-- a slice that is lent to a function: on entry and at exit
abbrev pub Lent : Type 0
Lent = Both (MutBor (List ℕ)) (MutBor (List ℕ))

module _ (entries payloads gaps remembered : Lent) where
  -- the lent slices as they come, and as they are left
  abbrev pub lent : Storage
  lent = storage entries.entry.now payloads.entry.now gaps.entry.now remembered.entry.now

  abbrev pub left : Storage
  left = storage entries.exit.now payloads.exit.now gaps.exit.now remembered.exit.now

-- What a call of the code came to, in the definitions' terms: its value as an answer, or the number under which it was refused.
abbrev pub said : {A : Type 0} → (A → Answer) → Result A Refusal → Answer
said f (Ok x) = f x
said f (Err e) = Calls.refused (number e)

-- The opening on `before` gave this answer and left `after`.
abbrev pub Opens : Config → Storage → Opening → Storage → Type 0
Opens c before answer after = opened c before ≡ record { answer = answer; storage = after }

-- The call k on `before` gave this answer and left `after` and the output.
abbrev pub Does : Call → Stored → Answer → Stored → List ℕ → Type 0
Does k before answer after output = did k before ≡ record { answer = answer; stored = after; output = output }
