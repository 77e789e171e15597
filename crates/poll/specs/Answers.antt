-- The answers of the code in 01's terms: what an accepted call answers, by its value, or the number of its refusal.
use Rattle.std.specs.Prelude.{ℕ, Option, None, Some, Result}
use Rattle.refusals.specs.declared.Refusal.{Refusal}
use Rattle.model.specs.Calls as Calls
use Rattle.model.specs.Calls.{Answer, Packet}
use Rattle.model.specs.Contract.{said}
use Rattle.poll.specs.declared.HandedOut.{HandedOut}

unfoldable pub packet_of : HandedOut → Packet
packet_of h =
    record { pt = h.pt; number = h.sequence_number.0; timestamp = h.timestamp.0; ssrc = h.ssrc.0; marker = h.marker; arrival = h.received_at; delay = h.delay; size = h.size }

abbrev pub front_answer : Option HandedOut → Answer
front_answer None = Calls.nothing
front_answer (Some h) = Calls.packet (packet_of h)

abbrev pub count_answer : Option ℕ → Answer
count_answer None = Calls.nothing
count_answer (Some n) = Calls.nack n

abbrev pub poll_answer : Result (Option HandedOut) Refusal → Answer
poll_answer r = said front_answer r

abbrev pub nack_answer : Result (Option ℕ) Refusal → Answer
nack_answer r = said count_answer r

abbrev pub wire_answer : Result ℕ Refusal → Answer
wire_answer r = said Calls.wire r
