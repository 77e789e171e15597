-- `packet` meets its contract: field by field.
use Rattle.model.specs.Calls as Calls
use Rattle.poll.specs.Answers as Answers
use Rattle.poll.proofs.packet.Goals as goal

pub returns : goal.returns
unfolding Calls.packet_of Answers.packet_of
returns c = λ payload e. rw (c.truncated.ensures, c.truncated-2.ensures, ← c.requires, e)
