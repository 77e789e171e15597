-- `header::big_endian`: after i turns the number is that of the first i bytes.
use mathlib.Core.Path.{◌≡◌}
use Rattle.rtp_packet.specs.Header.{big_endian}
use Rattle.rtp_packet.proofs.header.big_endian.Given as goal

abbrev pub invariant-loop-i : goal.invariant-loop-i
invariant-loop-i l = l.number ≡ big_endian l.i l.at l.d
