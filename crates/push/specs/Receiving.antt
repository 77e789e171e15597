-- A session with the slices that a media packet needs, as the definitions of `model` see it.
use Rattle.std.specs.Prelude.{◌≡◌}
use Rattle.model.specs.Storage.{Stored}
use Rattle.model.specs.Contract.{stored}
use Rattle.push.specs.declared.Receiving.{Receiving}

abbrev pub receiving : Receiving → Stored
receiving q = stored q.session.now q.entries.now q.payloads.now q.gaps.now q.remembered.now

-- The second holds what the first does: the same session and slices, and of the remembered numbers, which are lent to be read, the same.
abbrev pub SameParts : Receiving → Receiving → Type 0
SameParts a b = (b.session.ghost_name ≡ a.session.ghost_name) × (b.entries.ghost_name ≡ a.entries.ghost_name) × (b.payloads.ghost_name ≡ a.payloads.ghost_name) × (b.gaps.ghost_name ≡ a.gaps.ghost_name) × (b.remembered ≡ a.remembered)
