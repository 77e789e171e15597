-- The answers of the code in 01's terms: what became of the packet, or the number of the refusal; and a call that a check may turn back.
use Rattle.std.specs.Prelude.{cond, [], ℕ, eqb, Result}
use Rattle.refusals.specs.declared.Refusal.{Refusal}
use Rattle.model.specs.Calls as Calls
use Rattle.model.specs.Calls.{Answer}
use Rattle.model.specs.Contract.{said}
use Rattle.model.specs.Storage.{Stored}
use Rattle.model.specs.Did.{Done}
use Rattle.session.specs.declared.rtx.Fate.{Fate}
use Rattle.session.specs.Place.{fate}
use Rattle.push.specs.declared.Media.{Media}

abbrev pub placed : Media → Answer
placed Media.Queued = Calls.queued
placed Media.Dropped = Calls.dropped

abbrev pub media_answer : Result Media Refusal → Answer
media_answer r = said placed r

abbrev pub repaired : Fate → Answer
repaired f = Calls.repaired (fate f)

abbrev pub repair_answer : Result Fate Refusal → Answer
repair_answer r = said repaired r

-- turned back under the number, unless it is 0
unfoldable pub unless_refused : ℕ → Stored → Done → Done
unless_refused number m done = cond (eqb number 0) done (record { answer = Calls.refused number; stored = m; output = [] })
