-- `write_at` meets its contract: the field is the whole of the part that is lent.
use Prim.Native.Nat.{ℕ, ◌+◌, ◌-◌}
use mathlib.Core.Path.{◌≡◌, sym, ap, ◌∙◌}
use borrow.Rule.Slice.PartMut.{mid_of, mid_len}
use native.Mathlib.Omega.{arith}
use lib.ListN.{length}
use Rattle.words.proofs.Over.{over_all}
use Rattle.words.proofs.Moves.{part_written}
use Rattle.columns.specs.Columns.{justified}
use Rattle.columns.proofs.Filling.{length-justified}
use Rattle.columns.proofs.write_at.Goals as goal

pub returns : goal.returns
returns c =
    let a = c.args in
    let s = a.page.now in
    let e = a.at + a.width in
    let w : e - a.at ≡ a.width = omega arith in
    let m : length (mid_of a.at (e - a.at) s) ≡ a.width = mid_len a.at e s (omega arith) ∙ w in
    let q = justified a.width a.n in
    let l : length q ≡ a.width = length-justified a.width a.n in
    part_written a.at e q s _ (omega arith) (omega arith) (omega arith)
    (c.write.ensures ∙ ap (λ (k : ℕ). justified k a.n) m ∙ sym (over_all q (mid_of a.at (e - a.at) s) (omega arith)))
