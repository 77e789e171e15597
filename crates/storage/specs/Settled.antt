-- What a call finds that no check turned back.
use Rattle.std.specs.Prelude.{◌≡◌, true}
use Rattle.model.specs.Storage.{Stored, parse, write}
use Rattle.model.specs.Table.{session_sound}

-- check 16 passes the session, and zeros stand in the places that it does not use
pub record Settled (m : Stored) : Type 0 where
  pub sound : session_sound m ≡ true
  pub held : m ≡ write (parse m)
