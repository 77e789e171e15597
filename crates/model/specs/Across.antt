-- A flipped datagram may come to the other call: a media packet to `push_rtx`, a repair to `push`. Where media and repairs are at least two bits
-- apart in payload type and sender together, neither call takes it.
use Rattle.std.specs.Prelude.{◌≡◌, Bool, true, not, ◌||◌, List, [], ◌∷◌, ℕ, zero, suc, ◌+◌, ◌/◌, ◌%◌, ◌<◌, eqb, leb}
use Rattle.refusals.specs.Refusals.{VERSION, payload_too_large, payload_type, SSRC, CLOCK, no_rtx}
use Rattle.config.specs.declared.Senders.{Senders}
use Rattle.rtp_packet.specs.Header.{byte}
use Rattle.rtp_packet.specs.OneBit.{flip_bit, in_version, in_payload_type, in_ssrc}
use Rattle.model.specs.Lists.{some?}
use Rattle.model.specs.Storage.{Stored}
use Rattle.model.specs.Calls.{Call, media, repair}
use Rattle.model.specs.Table.{refusal}
use Rattle.model.specs.Did.{did, turned_back}

-- In how many of their w lowest bits a and b differ: the lowest, where one of the two is odd and the other even, and those above it.
unfoldable pub bits_apart : ℕ → ℕ → ℕ → ℕ
bits_apart zero a b = 0
bits_apart (suc w) a b = (a + b) % 2 + bits_apart w (a / 2) (b / 2)

-- in the 7 bits of the payload type and the 32 of the sender number
abbrev pub senders_apart : Senders → ℕ
senders_apart s = bits_apart 7 s.pt s.rtx_pt + bits_apart 32 s.ssrc.0 s.rtx_ssrc.0

abbrev pub least_bits : ℕ
least_bits = 2

-- at least so many; without RTX no repair is taken
unfoldable pub two_bits_apart : Senders → Bool
two_bits_apart s = not s.has_rtx || leb least_bits (senders_apart s)

unfoldable pub guarded : ℕ → ℕ → Bool
guarded i k = in_version i k || (in_payload_type i k || in_ssrc i k)

-- what is true of every slice of bytes
abbrev pub EachByte : List ℕ → Type 0
EachByte d = (i : ℕ) → byte d i < 256

-- the checks under which such a datagram is refused: its own, and those that come before them
abbrev pub flipped_numbers : List ℕ
flipped_numbers = CLOCK ∷ no_rtx ∷ VERSION ∷ payload_too_large ∷ payload_type ∷ SSRC ∷ []

-- Of a datagram that the one call takes, one bit of version, payload type or sender changed makes the other call refuse it at any instant, and
-- nothing is altered.
abbrev pub Across : (one other : ℕ → List ℕ → Call) → Type 0
Across one other =
    (now : ℕ) (d : List ℕ) (m : Stored) → EachByte d → refusal (one now d) m ≡ 0 → two_bits_apart m.session.queue.config.senders ≡ true
    → (i k : ℕ) → guarded i k ≡ true → (instant : ℕ)
    → let c = other instant (flip_bit i k d) in (some? (eqb (refusal c m)) flipped_numbers ≡ true) × (did c m ≡ turned_back (refusal c m) c m)

pub record FlippedAcross : Type 0 where
  pub media_at_push : Across media media
  pub media_at_push_rtx : Across media repair
  pub repair_at_push : Across repair media
  pub repair_at_push_rtx : Across repair repair
