-- `write`: Filling says what one more column makes of the field.
use Prim.Native.Nat.{ℕ}
use mathlib.Core.Path.{ap, ◌∙◌}
use native.Mathlib.Omega.{arith}
use lib.ListN.{length-set}
use Rattle.columns.specs.Columns.{justified}
use Rattle.columns.proofs.Filling.{filling_more, filling_all}
use Rattle.columns.proofs.write.Goals as goal

pub loop-i-preserved : goal.loop-i-preserved
loop-i-preserved c = filling_more _ c.loop-i.field c.loop-i.i c.loop-i.rest _ (omega (arith, length-set {A = ℕ})) (omega arith) c.column.ensures c.loop-i.invariant

pub returns : goal.returns
returns c =
    filling_all c.args.n c.loop-i.field c.loop-i.i c.loop-i.rest (omega arith) c.loop-i.invariant
    ∙ ap (λ (k : ℕ). justified k c.args.n) (omega (arith, length-set {A = ℕ}))
