-- The answers of the code in 01's terms.
use Rattle.std.specs.Prelude.{Option, Result, Ok, Err}
use Rattle.refusals.specs.declared.Refusal.{Refusal}
use Rattle.refusals.specs.Refusals.{number}
use Rattle.rtp.specs.declared.ExtendedSequenceNumber.{ExtendedSequenceNumber}
use Rattle.rtp.specs.Opt.{number_of}
use Rattle.model.specs.declared.Session.{Session}
use Rattle.model.specs.Calls as Calls
use Rattle.model.specs.Calls.{Answer}
use Rattle.model.specs.Did as Did

abbrev pub opening_answer : Result Session Refusal → Did.Opening
opening_answer (Ok s) = Did.session s
opening_answer (Err e) = Did.refused (number e)

abbrev pub highest_answer : Option ExtendedSequenceNumber → Answer
highest_answer n = Calls.highest (number_of n)
