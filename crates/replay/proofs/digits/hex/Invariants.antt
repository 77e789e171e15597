-- What is written, and the HEX of what is left, are the whole HEX.
use Rattle.std.proofs.Common.{◌≡◌, ◌*◌, ◌++◌, take, drop}
use Rattle.hex.specs.Hex.{encode_lower}
use Rattle.replay.proofs.digits.hex.Given as goal

abbrev pub invariant-loop-i : goal.invariant-loop-i
invariant-loop-i l = take (32 * l.i) l.text ++ encode_lower (drop (16 * l.i) l.bytes) ≡ encode_lower l.bytes
