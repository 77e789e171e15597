-- `hex` is safe and ends: no chunk is longer than its digits' places.
use Rattle.std.proofs.Common.{◌≡◌, length}
use Rattle.std.specs.Slice.Iter.{chunks_size}
use Rattle.replay.proofs.answer.hex.Given as goal

abbrev pub invariant-loop-chunk : goal.invariant-loop-chunk
invariant-loop-chunk g l = (chunks_size l.chunk-iterator ≡ 320) × (length l.text ≡ 640)
