-- `header::big_endian` meets its contract: after i turns the number is that of the first i bytes, and `big_endian-lt` says that it fits.
use mathlib.Core.Path.{◌≡◌}
use Prim.Native.Nat.{◌+◌}
use native.Mathlib.Omega.{arith}
use borrow.Author.Rules.{rules}
use Rattle.rtp_packet.specs.Header.{big_endian}
use Rattle.rtp_packet.proofs.BigEndian.{big_endian_next, big_endian-lt, big_endian-within}
use Rattle.rtp_packet.proofs.header.big_endian.Goals as goal

pub overflow_mul-number : goal.overflow_mul-number
overflow_mul-number c = let a = c.args in omega (arith, big_endian-within c.loop-i.i 3 a.at a.d.now (omega arith) (λ k. search rules))

pub overflow_add-number : goal.overflow_add-number
overflow_add-number c =
    let a = c.args in
    omega (arith, big_endian_next c.loop-i.i a.at a.d.now, big_endian-within (c.loop-i.i + 1) 4 a.at a.d.now (omega arith) (λ k. search rules))

pub returns : goal.returns
returns c =
    let a = c.args in
    let e : c.loop-i.i ≡ a.width = omega arith in
    let n : c.loop-i.number ≡ big_endian a.width a.at a.d.now = rw (← e) c.loop-i.invariant in
    record { value = n; upper_bound = rw n (big_endian-lt a.width a.at a.d.now (λ k. search rules)) }
