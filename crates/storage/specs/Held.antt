-- A session with the slices that the caller lends, as the definitions of `model` see it.
use Rattle.std.specs.Prelude.{◌≡◌}
use Rattle.model.specs.Storage.{Stored}
use Rattle.model.specs.Contract.{stored}
use Rattle.storage.specs.declared.Held.{Held}

abbrev pub held : Held → Stored
held h = stored h.session h.entries.now h.payloads.now h.gaps.now h.remembered.now

-- Each slice of the second is the slice of the first, so that what it holds is what the caller's slice holds.
abbrev pub SameSlices : Held → Held → Type 0
SameSlices a b = (b.entries.ghost_name ≡ a.entries.ghost_name) × (b.payloads.ghost_name ≡ a.payloads.ghost_name) × (b.gaps.ghost_name ≡ a.gaps.ghost_name) × (b.remembered.ghost_name ≡ a.remembered.ghost_name)
