-- `bizhgemu_poll_nack`: the queue's call on the session that the words stand for.
use Rattle.model.specs.Calls as Calls
use Rattle.model.specs.Contract.{storage}
use Rattle.ffi_words.specs.Told as Told
use Rattle.ffi.proofs.Given.{was_read}
use borrow.Author.Rules.{rules}
use Rattle.ffi.proofs.bizhgemu_poll_nack.Goals as goal

pub returns : goal.returns
returns c =
    let a = c.args in
    was_read Told.polled_nack (Calls.poll_nack a.now a.out.now) a.session (storage a.entries.now a.payloads.now a.gaps.now a.remembered.now) _ c.in-Some.is c.read.ensures (search rules) c.nack_told.ensures
