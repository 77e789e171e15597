-- `fields` is safe and ends: before the numbers that are written there is room for those that are left.
use Rattle.std.proofs.Common.{◌*◌, ◌≤◌, length}
use Rattle.replay.proofs.digits.fields.Given as goal

abbrev pub invariant-loop-n : goal.invariant-loop-n
invariant-loop-n g l = (21 * length l.n-iterator.iter.rest.now ≤ l.first) × (l.first ≤ 84)
