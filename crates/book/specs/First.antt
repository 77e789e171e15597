-- 02, point 2: "so that, next after that first packet, whatever is under half a cycle behind it reads as earlier, and such a number is dropped".
use Rattle.std.specs.Prelude.{◌≡◌, List, ℕ, ◌+◌, ◌-◌, ◌*◌, ◌^◌, ◌≤◌, ◌<◌, Some}
use Rattle.rtp.specs.Numbers.{low_bits}
use Rattle.rtp_packet.specs.Header.{sequence_number, timestamp}
use Rattle.model.specs.declared.Config.{Config}
use Rattle.model.specs.Records.{last_timestamp_of}
use Rattle.model.specs.Push.{extended_timestamp}
use Rattle.model.specs.Storage.{Storage, parse}
use Rattle.model.specs.Calls.{Call, media, queued, dropped}
use Rattle.model.specs.Table.{refusal, opening_refusal}
use Rattle.model.specs.Did.{did}
use Rattle.book.specs.Book.{none, from_to}
use Rattle.book.specs.Claim.{call, calls}

-- After the calls ks on a newly opened session a media datagram d comes that no check catches.
pub record Comes (c : Config) (t : Storage) (ks : List Call) (now : ℕ) (d : List ℕ) : Type 0 where
  pub opens : opening_refusal c t ≡ 0
  pub accepted : refusal (media now d) (calls c ks).stored ≡ 0

-- Both modes.
pub record FirstCycle : Type 0 where
  -- the first accepted media packet: "65,536 added", "2^32 added"
  pub first :
      (c : Config) (t : Storage) (ks : List Call) (now : ℕ) (d : List ℕ) → Comes c t ks now d → (calls c ks).book.span ≡ none
      → let y = call c (calls c ks) (media now d) in
      (y.book.span ≡ from_to (65536 + sequence_number d) (65536 + sequence_number d))
      × (last_timestamp_of (parse y.stored).queue.last ≡ Some (2 ^ 32 + timestamp d))
  -- as long as f, the first one's number, is the highest: a number 1 to 32,767 behind it is dropped, and no number moves
  pub behind :
      (c : Config) (t : Storage) (ks : List Call) (now : ℕ) (d : List ℕ) (f k : ℕ) → Comes c t ks now d → (calls c ks).book.span ≡ from_to f f
      → 1 ≤ k → k ≤ 32767 → sequence_number d ≡ low_bits 16 (f - k)
      → let x = calls c ks in
      ((did (media now d) x.stored).answer ≡ dropped) × ((call c x (media now d)).book ≡ x.book)
  -- and a timestamp under half a cycle behind the first one's, ts, is earlier
  pub earlier :
      (c : Config) (t : Storage) (ks : List Call) (now : ℕ) (d : List ℕ) (f ts j : ℕ) → Comes c t ks now d → (calls c ks).book.span ≡ from_to f f
      → let q = (parse (calls c ks).stored).queue in
      last_timestamp_of q.last ≡ Some ts → 2 * j < 2 ^ 32 → timestamp d ≡ low_bits 32 (ts - j) → extended_timestamp q (timestamp d) + j ≡ ts
  -- a number 1 to 32,767 ahead of it is later
  pub ahead :
      (c : Config) (t : Storage) (ks : List Call) (now : ℕ) (d : List ℕ) (f k : ℕ) → Comes c t ks now d → (calls c ks).book.span ≡ from_to f f
      → 1 ≤ k → k ≤ 32767 → sequence_number d ≡ low_bits 16 (f + k)
      → let x = calls c ks in
      ((did (media now d) x.stored).answer ≡ queued) × ((call c x (media now d)).book.span ≡ from_to f (f + k))
