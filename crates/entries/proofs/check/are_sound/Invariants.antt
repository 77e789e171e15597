-- `are_sound`: the entries from place i on decide, whatever the bytes.
use mathlib.Core.Path.{◌≡◌}
use mathlib.Core.List.{List}
use Prim.Native.Nat.{ℕ}
use Rattle.model.specs.Storage.{gaps_of}
use Rattle.packet_gaps.specs.Gaps.{bounds}
use Rattle.entries.proofs.Scan.{entries_left}
use Rattle.entries.proofs.check.are_sound.Given as goal

abbrev pub invariant-loop-i : goal.invariant-loop-i
invariant-loop-i l = (bytes : List ℕ) → entries_left (bounds l.b) (gaps_of l.gaps l.m) l.words bytes l.n 0 ≡ entries_left (bounds l.b) (gaps_of l.gaps l.m) l.words bytes l.n l.i
