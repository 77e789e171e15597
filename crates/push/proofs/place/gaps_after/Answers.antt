-- `gaps_after` meets its contract, arm by arm.
use Rattle.push.proofs.Placing.{near_takes, fills_takes, length-opened, length-filled}
use Rattle.session.specs.Place.{place}
use Rattle.model.proofs.Laid.{length-gaps_of}
use Rattle.model.specs.Rules.{gaps_after}
use native.Mathlib.Omega.{arith}
use mathlib.Core.Path.{◌≡◌, refl, sym}
use lib.ListN.{length}
use Rattle.model.specs.Storage.{gaps_of}
use Rattle.push.proofs.place.gaps_after.Goals as goal

pub open_between-requires : goal.open_between-requires
open_between-requires c = let t = near_takes _ _ _ _ c.requires.takes _ c.in-Near.is in record { gaps_in = c.requires.gaps_in; h_lt_x = t.0; h_in_bounds = t.1 }

pub overflow_sub-result : goal.overflow_sub-result
overflow_sub-result c = omega (arith, near_takes _ _ _ _ c.requires.takes _ c.in-Near.is)

pub overflow_sub-result-in-Near : goal.overflow_sub-result-in-Near
overflow_sub-result-in-Near c = omega (arith, near_takes _ _ _ _ c.requires.takes _ c.in-Near.is)

pub overflow_add-result : goal.overflow_add-result
overflow_add-result c = omega (arith, near_takes _ _ _ _ c.requires.takes _ c.in-Near.is)

pub remove-requires : goal.remove-requires
remove-requires c = record { gaps_in = c.requires.gaps_in; n_value = c.requires.n_value; n_value_2 = fills_takes _ _ _ _ c.requires.takes c.in-Fills.is }

pub overflow_sub-result-in-Fills : goal.overflow_sub-result-in-Fills
overflow_sub-result-in-Fills c = omega (arith, (length-filled c.args.gaps.now c.args.n c.args.x.0 c.requires.n_value (fills_takes _ _ _ _ c.requires.takes c.in-Fills.is)).0)

pub returns-in-Near : goal.returns-in-Near
unfolding place gaps_after
returns-in-Near c = let h = c.in-Near.h.0 in
    let l = length-opened (gaps_of c.args.gaps.now c.args.n) c.args.instant h c.args.x.0 in
    let k : length (gaps_of c.args.gaps.now c.args.n) ≡ c.args.n = length-gaps_of c.args.gaps.now c.args.n in
    rw c.in-Near.is record { value = omega (arith, l, k); gaps_after = c.open_between.ensures }

pub returns-in-Far : goal.returns-in-Far
unfolding place gaps_after
returns-in-Far c = rw c.in-Far.is record { value = refl; gaps_after = c.clear.ensures }

pub returns-in-Fills : goal.returns-in-Fills
unfolding place gaps_after
returns-in-Fills c = let e = c.in-Fills.is in
    let t = fills_takes _ _ _ _ c.requires.takes e in
    rw e record { value = sym (length-filled c.args.gaps.now c.args.n c.args.x.0 c.requires.n_value t).1; gaps_after = c.remove.ensures.s_after }

pub returns-in-First : goal.returns-in-First
unfolding place gaps_after
returns-in-First c = rw c.in-First.is record { value = sym (length-gaps_of c.args.gaps.now c.args.n); gaps_after = c.requires.gaps_in.held }

pub returns-in-Other : goal.returns-in-Other
unfolding place gaps_after
returns-in-Other c = rw c.in-Other.is record { value = sym (length-gaps_of c.args.gaps.now c.args.n); gaps_after = c.requires.gaps_in.held }
