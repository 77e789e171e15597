use Rattle.std.proofs.Common.{◌≡◌, ℕ, ◌-◌, ◌*◌, ◌/◌, ◌++◌, ◌∙◌, ◌≤◌, List, length, take, drop, replicate, eqb-true, ap, sym, arith}
use Rattle.std.proofs.lemmas.List.{length-drop, length-take-le, take_all}
use Rattle.hex.specs.Hex.{encode_lower, lower_digits}
use Rattle.replay.proofs.Parts.{all_written, last_written, next_written, of_front}
use Rattle.replay.proofs.digits.hex.Goals as goal

pub loop-i-preserved : goal.loop-i-preserved
loop-i-preserved c =
    let at = c.loop-i in
    next_written lower_digits c.args.bytes.now at.text c.both_digits.result at.i (omega arith) (omega arith) c.both_digits.ensures at.invariant

pub returns-then-is_empty : goal.returns-then-is_empty
returns-then-is_empty c =
    let at = c.loop-i in
    let s : List ℕ = c.args.bytes.now in
    let n : ℕ = length s / 16 in
    let all : at.i ≡ n = omega arith in
    let left : List ℕ = drop (16 * n) s in
    let rest : List ℕ = take (length s - 16 * n) left in
    let empty : length rest ≡ 0 = eqb-true (length rest) 0 (sym c.if-is_empty.ensures) in
    let none : length s ≤ 16 * n = omega (arith, empty, length-drop (16 * n) s, length-take-le (length s - 16 * n) left (omega (arith, length-drop (16 * n) s))) in
    all_written lower_digits s at.text n none (omega arith) (rw all at at.invariant)

pub returns : goal.returns
returns c =
    let at = c.loop-i in
    let s : List ℕ = c.args.bytes.now in
    let n : ℕ = length s / 16 in
    let left : List ℕ = drop (16 * n) s in
    let rest : List ℕ = take (length s - 16 * n) left in
    let all : at.i ≡ n = omega arith in
    let whole : rest ≡ left = take_all (length s - 16 * n) left (omega (arith, length-drop (16 * n) s)) in
    let zeros : List ℕ = drop (length rest) (replicate 16 0) in
    let block = c.both_digits-2.ensures ∙ ap (λ (l : List ℕ). encode_lower (l ++ zeros)) c.copy_from_slice.ensures.after in
    let made = c.copy_from_slice-2.ensures.after ∙ ap (take (2 * length rest)) block ∙ of_front lower_digits rest zeros ∙ ap encode_lower whole in
    last_written lower_digits s at.text c.copy_from_slice-2.new.self n (omega arith) (omega arith) made (rw all at at.invariant)
