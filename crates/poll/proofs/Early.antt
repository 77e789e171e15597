-- What is at hand of a call that 15 and 8 passed.
use mathlib.Core.Path.{◌≡◌, sym}
use Prim.Native.Nat.{ℕ, ◌≤◌}
use native.Mathlib.Omega.{arith}
use lib.Dec.{ltb}
use borrow.Author.Tests.{ltb-false}
use Rattle.durations.specs.Seconds.{largest}
use Rattle.refusals.specs.Refusals.{OUTPUT, refuse_if, or_else}
use Rattle.refusals.proofs.Laws.{or_else-none, passes-last}
use Rattle.model.specs.declared.Queue.{Queue}
use Rattle.model.specs.Table.{output_refusal, clock_refusal}
use Rattle.model.proofs.SoundQueue.{clock_of}

module _ (q : Queue) (needed places now : ℕ) (y : 0 ≡ or_else (output_refusal needed places) (clock_refusal q now)) where
  pub is-room : needed ≤ places
  unfolding output_refusal refuse_if
  is-room = ltb-false places needed (passes-last (ltb places needed) OUTPUT (omega arith) (or_else-none _ _ (sym y)).0)

  pub is_timely : (q.clock ≤ now) × (now ≤ largest)
  is_timely = clock_of q now (or_else-none _ _ (sym y)).1
