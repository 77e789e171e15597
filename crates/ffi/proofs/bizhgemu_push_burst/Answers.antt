-- `bizhgemu_push_burst`: the burst on the session that the words stand for.
use Rattle.model.specs.Contract.{storage}
use Rattle.ffi.proofs.Burst.{burst-given}
use borrow.Author.Rules.{rules}
use Rattle.ffi.proofs.bizhgemu_push_burst.Goals as goal

pub returns : goal.returns
returns c =
    let a = c.args in
    burst-given a.now a.buffer.now a.ends.now a.numbers.now a.session (storage a.entries.now a.payloads.now a.gaps.now a.remembered.now) c.push_burst-done.result
    c.session_in.ensures (search rules) (search rules) c.burst_told.ensures
