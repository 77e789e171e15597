-- `recover` meets its contract: an entry, the gap and the queue's own records, each as `model` says.
use Rattle.push.proofs.Repaired.{gap_goes, entry_comes, one_left, recovered_is}
use native.Mathlib.Omega.{arith}
use Rattle.push.proofs.rtx.Repair.recover.Goals as goal

pub remove-nacked-requires : goal.remove-nacked-requires
remove-nacked-requires c = let g = gap_goes _ _ c.requires in record { gaps_in = g.0; n_value = g.1; n_value_2 = g.2 }

pub insert-requires : goal.insert-requires
insert-requires c = let e = entry_comes _ _ c.requires in record { entries_in = e.0; n_value = e.1; n_in_bounds = e.2; incoming = c.requires.incoming }

pub overflow_add-q : goal.overflow_add-q
overflow_add-q c = omega (arith, (entry_comes _ _ c.requires).2.0)

pub overflow_sub-q : goal.overflow_sub-q
overflow_sub-q c = omega (arith, one_left _ _ c.requires)

pub returns-clause-left : goal.returns-clause-left
returns-clause-left c =
    let g = c.remove-nacked.ensures in
    let i = c.insert.ensures in
    recovered_is _ _ c.requires _ _ _ _ _ g.value c.recovered-queue.ensures i.words_after i.bytes_after g.s_after
