use Rattle.std.proofs.Common.{◌∷◌, ◌∙◌, ◌-◌, ◌+◌, ◌≡◌, ℕ, List, drop, ap, arith, rules}
use Rattle.std.proofs.lemmas.Fmt.{length-decimal-le}
use Rattle.std.proofs.lemmas.List.{drop-set}
use Rattle.replay.proofs.digits.put_before.Goals as goal

pub write_digits-first-requires : goal.write_digits-first-requires
write_digits-first-requires = search (rules, length-decimal-le 20)

pub overflow_sub-first : goal.overflow_sub-first
overflow_sub-first = search (rules, length-decimal-le 20)

-- the blank, and behind it the digits and what was there
pub returns-clause-text : goal.returns-clause-text
returns-clause-text c =
    let w = c.write_digits-first in
    let first : ℕ = w.result - 1 in
    let short = length-decimal-le 20 c.args.n (omega arith) (omega arith) (omega arith) in
    let blank : first + 1 ≡ w.result = omega (arith, short, w.ensures.start) in
    drop-set w.new.buf first 32 (omega (arith, blank, w.ensures.start))
    ∙ ap (λ (ds : List ℕ). 32 ∷ ds) (ap (λ (k : ℕ). drop k w.new.buf) blank ∙ w.ensures.written)

pub returns-clause-room : goal.returns-clause-room
returns-clause-room c =
    let w = c.write_digits-first in
    let short = length-decimal-le 20 c.args.n (omega arith) (omega arith) (omega arith) in
    (omega (arith, short, w.ensures.start), omega (arith, w.ensures.start))
