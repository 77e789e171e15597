-- The steps of `push` after check 16: what `judge` finds of a datagram, and what `apply` and the functions over the lists ask of it.
use Rattle.std.specs.Prelude.{◌≡◌, true, List, ℕ, ◌+◌, ◌*◌, ◌-◌, ◌≤◌, ◌<◌, length, Result, Ok, Err}
use Rattle.model.specs.Lists.{some?}
use Rattle.refusals.specs.Refusals.{number}
use Rattle.refusals.specs.declared.Refusal.{Refusal}
use Rattle.words.specs.Order.{ascends}
use Rattle.rtp_packet.specs.declared.RtpPacket.{RtpPacket}
use Rattle.rtp_packet.specs.Header.{payload_of}
use Rattle.rtp_packet.specs.Datagram.{largest_payload, datagram_refusal, packet_of}
use Rattle.model.specs.declared.Queue.{Queue}
use Rattle.model.specs.declared.Received.{Received}
use Rattle.model.specs.declared.Session.{Session}
use Rattle.model.specs.Records.{State, gap_numbers}
use Rattle.model.specs.Rules.{Place, first, near, far, fills, other, is, waits}
use Rattle.model.specs.Push.{media_entry_of, media_place, after_placed}
use Rattle.model.specs.Storage.{Stored, gap_words, gaps_of, parse, write}
use Rattle.model.specs.Table.{refusal_at, media_refusal, clock_refusal}
use Rattle.entries.specs.Entries.{entry, Incoming}
use Rattle.session.specs.Place.{place}
use Rattle.storage.specs.Settled.{Settled}
use Rattle.push.specs.declared.Found.{Found}
use Rattle.push.specs.declared.Accepted.{Accepted}

-- what judging a packet asks of the session and its gaps: row 16 gives it
pub record Readable (s : Session) (gaps : List ℕ) : Type 0 where
  pub few : s.gaps ≤ s.queue.config.settings.max_gaps
  pub room : gap_words * s.gaps ≤ length gaps
  pub ascend : ascends (gap_numbers (gaps_of gaps s.gaps)) ≡ true

-- the datagram d holds the packet, and neither 8 nor 2 to 7 catch it
pub record Read (instant : ℕ) (d : List ℕ) (p : RtpPacket) (q : Queue) : Type 0 where
  pub in_time : clock_refusal q instant ≡ 0
  pub whole : datagram_refusal q.config.senders.pt q.config.senders.ssrc.0 largest_payload d ≡ 0
  pub packet : p ≡ packet_of d

-- the datagram d is accepted, and this is its packet, the entry that it becomes and where its number stands
pub record FoundIn (f : Found) (d : List ℕ) (s : State) : Type 0 where
  pub accepted : media_refusal f.instant d s ≡ 0
  pub packet : f.packet ≡ packet_of d
  pub becomes : entry f.entry (payload_of d) ≡ media_entry_of f.instant d s.queue
  pub stands : place f.place ≡ media_place s f.entry.number.0
  pub incoming : Incoming f.entry (payload_of d)

-- every row but 16, to the refusal or to what was found
unfoldable pub JudgedAs : ℕ → List ℕ → State → Result Found Refusal → Type 0
JudgedAs instant d s (Err e) = media_refusal instant d s ≡ number e
JudgedAs instant d s (Ok f) = (f.instant ≡ instant) × FoundIn f d s

-- the n gaps in the words can take what a number at this place brings
unfoldable pub Takes : List ℕ → ℕ → ℕ → Place → Type 0
Takes words n x first = Unit {0}
Takes words n x (near h) = (h < x) × (gap_words * (n + (x - (h + 1))) ≤ length words)
Takes words n x (far h) = Unit {0}
Takes words n x fills = some? (is x) (gaps_of words n) ≡ true
Takes words n x other = Unit {0}

-- the packet is accepted, and the storage settled
pub record Fit (a : Accepted) (m : Stored) : Type 0 where
  pub settled : Settled m
  pub stands : place a.found.place ≡ media_place (parse m) a.found.entry.number.0
  pub accepted : refusal_at (entry a.found.entry a.payload.now) (place a.found.place) (parse m) ≡ 0
  pub incoming : Incoming a.found.entry a.payload.now

-- and it is queued
pub record Waiting (a : Accepted) (m : Stored) : Type 0 where
  pub fit : Fit a m
  pub queued : waits (place a.found.place) ≡ true

-- what the queue keeps of it
abbrev pub received : Accepted → Received
received a = record { instant = a.found.instant; timestamp = a.found.entry.timestamp; number = a.found.entry.number }

-- what an accepted packet leaves
abbrev pub placed_by : Accepted → Stored → Stored
placed_by a m = write (after_placed a.found.instant (entry a.found.entry a.payload.now) (place a.found.place) (parse m))
