-- `ready` meets its contract: check 16 and the clock bound what the limit is reckoned from.
use mathlib.Core.Path.{◌≡◌}
use native.Mathlib.Omega.{arith}
use Rattle.config.proofs.Facts.{usable}
use Rattle.std.specs.Prelude.{Some}
use Rattle.session.proofs.Bounds.{last_in}
use Rattle.session.proofs.poll.ready.Goals as goal

pub invariant_of-sorted : goal.invariant_of-sorted
invariant_of-sorted c =
    let q = c.args.q in
    let r = c.in-Some.r in
    let e : q.last ≡ Some r = c.in-Some.is in
    let l = last_in q.clock q.last r e c.requires.sound_last in
    record { instant_in_range = omega (arith, l.0, c.requires.in_time); timestamp_in_range = l.1; delay_in_range = c.requires.in_time.2 }

pub max_timestamp-requires : goal.max_timestamp-requires
max_timestamp-requires c =
    let u = usable c.args.q.config.settings c.requires.valid_settings in
    (u.rate, c.requires.in_time.1)
