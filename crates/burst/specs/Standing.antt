-- How a session stands between two datagrams of a burst: check 16 was made once, and zeros stand in the unused places from the first
-- datagram on that is accepted.
use Rattle.std.specs.Prelude.{◌≡◌, true, Result, Ok, Err}
use Rattle.refusals.specs.declared.Refusal.{Refusal}
use Rattle.refusals.specs.Refusals.{SESSION}
use Rattle.model.specs.Storage.{Stored}
use Rattle.model.specs.Table.{session_sound, session_refusal}
use Rattle.storage.specs.Settled as storage
use Rattle.push.specs.declared.Media.{Media}
use Rattle.burst.specs.declared.Standing.{Standing}
use Rattle.burst.specs.declared.Standing.TheVariants.{Damaged, Sound, Settled}

unfoldable pub Stands : Standing → Stored → Type 0
Stands Damaged m = session_refusal m ≡ SESSION
Stands Sound m = session_sound m ≡ true
Stands Settled m = storage.Settled m

-- after a datagram, where check 16 passed the session
abbrev pub after_sound : Result Media Refusal → Standing
after_sound (Ok a) = Settled
after_sound (Err e) = Sound
