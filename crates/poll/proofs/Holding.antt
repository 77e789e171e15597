-- What the steps of a call leave is written of what they make.
use mathlib.Core.Path.{◌≡◌}
use Prim.Native.Nat.{◌+◌, ◌<◌, ◌^◌}
use native.Mathlib.Omega.{arith}
use Rattle.words.specs.Blocks.{laid}
use Rattle.model.specs.Records.{State}
use Rattle.model.specs.Storage.{Storage, Stored, entries_laid, payloads_laid, gaps_laid, remembered_laid, parse, write}
use Rattle.poll.specs.Steps.{Leaves}
use Rattle.storage.proofs.Checking.{Lengths}
use Rattle.storage.proofs.Settled.{Checked}

pub leaves_write : (t : Storage) (s : State) → Lengths s.queue.config.settings t → (m : Stored) → Leaves s t m → m ≡ write s
unfolding laid write entries_laid payloads_laid gaps_laid remembered_laid
leaves_write t s n m l = rw (l.session_is, l.entries_are, l.payloads_are, l.gaps_are, l.remembered_are, n.entries, n.payloads, n.gaps, n.remembered)

-- no more gaps can become lost than the counter has room for
pub lost_in : (m : Stored) → Checked m → m.session.queue.counters.lost + m.session.gaps < 2 ^ 64
unfolding parse
lost_in m k = omega (arith, k.sound.queue_in.counters_in.lost_fits, k.counts.gaps, k.usable.gaps)
