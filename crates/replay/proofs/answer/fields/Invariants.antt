-- `fields` is safe and ends: no more numbers are handed on than are made at once.
use Rattle.std.proofs.Common.{◌≡◌}
use Rattle.std.specs.Slice.Iter.{chunks_size}
use Rattle.replay.proofs.answer.fields.Given as goal

abbrev pub invariant-loop-some : goal.invariant-loop-some
invariant-loop-some g l = chunks_size l.some-iterator ≡ 4
