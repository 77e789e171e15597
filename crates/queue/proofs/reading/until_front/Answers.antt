-- `until_front`: check 16 bounds what the timeout is reckoned from.
use native.Mathlib.Omega.{arith}
use Rattle.session.proofs.Bounds.{last_in}
use Rattle.queue.proofs.reading.until_front.Goals as goal

pub invariant_of-sorted : goal.invariant_of-sorted
invariant_of-sorted c =
    let a = c.args in
    let l = last_in a.now a.last c.in-Some.r c.in-Some.is c.requires.2 in
    record { instant_in_range = omega (arith, l.0, c.requires.4); timestamp_in_range = l.1; delay_in_range = c.requires.1 }
