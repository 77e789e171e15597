-- Why the queue was written: a packet or repair that the session would have taken is refused if one bit of version, payload type or sender
-- is turned over on the way. (A bit that makes another sender's packet this session's cannot be seen.)
use Rattle.std.specs.Prelude.{◌≡◌, Bool, true, List, ℕ}
use Rattle.refusals.specs.Refusals.{VERSION, payload_type, SSRC}
use Rattle.rtp_packet.specs.OneBit.{flip_bit, in_version, in_payload_type, in_ssrc}
use Rattle.model.specs.Storage.{Stored}
use Rattle.model.specs.Calls.{Call, media, repair}
use Rattle.model.specs.Table.{refusal}
use Rattle.model.specs.Did.{did, turned_back}

-- Of a datagram that the call takes, one bit of the group changed makes it refused under the number, and nothing is altered.
abbrev pub TurnedBack : (ℕ → List ℕ → Call) → (ℕ → ℕ → Bool) → ℕ → Type 0
TurnedBack call group number =
    (now : ℕ) (d : List ℕ) (m : Stored) → refusal (call now d) m ≡ 0
    → (i k : ℕ) → group i k ≡ true → did (call now (flip_bit i k d)) m ≡ turned_back number (call now (flip_bit i k d)) m

pub record FlippedBit : Type 0 where
  pub media_version : TurnedBack media in_version VERSION
  pub media_type : TurnedBack media in_payload_type payload_type
  pub media_sender : TurnedBack media in_ssrc SSRC
  pub repair_version : TurnedBack repair in_version VERSION
  pub repair_type : TurnedBack repair in_payload_type payload_type
  pub repair_sender : TurnedBack repair in_ssrc SSRC
