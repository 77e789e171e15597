-- `read`: before each turn the numbers of the first i entries stand in `list` (`Reading`).
use native.Mathlib.Omega.{arith}
use Rattle.words.proofs.Moves.{part_written}
use Rattle.nack_pairs.proofs.Back.{length-named16}
use Rattle.nack_pairs.proofs.Unmasking.{reading_none, reading_more, reading_all, too_short, not-whole, was_read}
use Rattle.nack_pairs.proofs.read.read.Goals as goal

pub returns-then-list-whole : goal.returns-then-list-whole
returns-then-list-whole c =
    let r = too_short c.args.bytes.now c.args.list.now c.if-list-whole.true in record { value = r.told; list_after = r.kept }

pub returns-then-bytes-ne0 : goal.returns-then-bytes-ne0
returns-then-bytes-ne0 c =
    let r = not-whole c.args.bytes.now c.args.list.now c.if-list-whole.false c.if-bytes-ne0.true in record { value = r.told; list_after = r.kept }

pub loop-entry-init : goal.loop-entry-init
loop-entry-init c = reading_none c.args.bytes.now c.args.list.now

pub loop-entry-preserved : goal.loop-entry-preserved
loop-entry-preserved c =
    let n = length-named16 c.from_be_bytes-first.result c.from_be_bytes-mask.result in
    reading_more c.args.bytes.now c.loop-entry.invariant (omega (arith, c.as_chunks.ensures.front_len)) (omega arith) _ _ _ _ _ c.as_chunks.ensures.front c.from_be_bytes-first.ensures c.from_be_bytes-mask.ensures
    c.unmask-more.ensures.value
    (part_written c.loop-entry.count _ _ _ _ (omega arith) (omega arith) (omega arith) c.unmask-more.ensures.part_after)

pub returns : goal.returns
returns c =
    let a = reading_all c.args.bytes.now c.loop-entry.invariant c.if-bytes-ne0.false (omega (arith, c.as_chunks.ensures.front_len)) in
    let r = was_read c.args.bytes.now c.args.list.now c.if-list-whole.false c.if-bytes-ne0.false _ _ a.0 a.1 in record { value = r.told; list_after = r.kept }
