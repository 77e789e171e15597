-- `unmask`: what is left of the mask names what is left of the list (`Unmasking`).
use mathlib.Core.Path.{◌∙◌, refl}
use native.Mathlib.Omega.{arith}
use Rattle.nack_pairs.proofs.Unmasking.{over_first, unmasking_none, unmasking_set, unmasking_clear, unmasked}
use Rattle.nack_pairs.proofs.read.unmask.Goals.{then-left-eq1, else-left-eq1}
use Rattle.nack_pairs.proofs.read.unmask.Goals as goal

pub loop-k-init : goal.loop-k-init
loop-k-init c = unmasking_none c.args.first c.args.mask c.args.part.now c.requires c.ranges.first.fits

pub loop-k-preserved : goal.loop-k-preserved
loop-k-preserved c = elim c.if-left-eq1.branch [
  | then-left-eq1 w ↦ rw (w.part-is, w.count-is) (unmasking_set c.loop-k.invariant c.loop-k-test.true _ w.if-left-eq1.true refl)
  | else-left-eq1 w ↦ rw (w.part-is, w.count-is) (unmasking_clear c.loop-k.invariant c.loop-k-test.true w.if-left-eq1.false)
]

pub returns : goal.returns
returns c =
    let e = unmasked c.loop-k.invariant (omega arith) in record { value = e.0; part_after = e.1 ∙ over_first c.args.first c.args.mask c.args.first c.args.part.now }
