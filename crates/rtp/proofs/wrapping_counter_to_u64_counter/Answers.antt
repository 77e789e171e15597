-- `wrapping_counter_to_u64_counter` meets its contract: the shift gives one cycle, 2 ^ bits, and what it subtracts leaves the reference's
-- cycles, so its numbers are the definition's base and rivals.
use Rattle.std.proofs.Common.{◌≡◌, ℕ, ◌+◌, ◌-◌, ◌*◌, ◌%◌, ◌^◌, ◌≤◌, ap, ◌∙◌, div-add-mod', arith, shl_exact, rules}
use Rattle.rtp.specs.Numbers.{base, below, above, guessed}
use Rattle.rtp.proofs.Laws.{base-lt}
use Rattle.rtp.proofs.wrapping_counter_to_u64_counter.Goals as goal

cycle_is : (w : ℕ) → w ≤ 32 → 1 * 2 ^ w % 2 ^ 64 ≡ 2 ^ w
cycle_is w h = shl_exact 1 w 64 (omega arith) (omega arith) ∙ omega arith

base_is : (w r got : ℕ) → w ≤ 32 → r - r % (1 * 2 ^ w % 2 ^ 64) + got ≡ base w r got
unfolding base
base_is w r got h =
    let e : r % (1 * 2 ^ w % 2 ^ 64) ≡ r % 2 ^ w = ap (λ (k : ℕ). r % k) (cycle_is w h) in
    omega (arith, e, div-add-mod' r (2 ^ w))

pub overflow_add-base : goal.overflow_add-base
overflow_add-base c =
    let a = c.args in
    record { fits = rw (base_is a.bits a.reference a.got (search rules)) (base-lt a.bits (omega arith) a.reference a.got (search rules) (search rules)) }

pub returns : goal.returns
unfolding guessed below above
returns c =
    let a = c.args in
    c.nearer-2.ensures ∙ rw (c.nearer.ensures, base_is a.bits a.reference a.got (search rules), cycle_is a.bits (search rules)) cc
