-- What an answer is in words. "Each refusal returns its number only": whatever an answer does not tell is 0.
use Rattle.std.specs.Prelude.{Bool, cond, List, [], ◌∷◌, ℕ, length, Option, None, Some, Result, Ok, Err}
use Rattle.stats.specs.declared.RtpInboundRtxStats.{RtpInboundRtxStats}
use Rattle.packet_loss.specs.Loss.{zero32}
use Rattle.refusals.specs.declared.Refusal.{Refusal}
use Rattle.refusals.specs.Refusals.{number}
use Rattle.model.specs.declared.Session.{Session}
use Rattle.model.specs.Push.{Fate, recovered, redundant, too_late}
use Rattle.model.specs.Calls as Calls
use Rattle.model.specs.Calls.{Answer}
use Rattle.model.specs.Did as Did
use Rattle.ffi_words.specs.declared.SessionWords.{SessionWords}
use Rattle.ffi_words.specs.declared.answers.Opened.{Opened}
use Rattle.ffi_words.specs.declared.answers.Pushed.{Pushed}
use Rattle.ffi_words.specs.declared.answers.Packet.{Packet}
use Rattle.ffi_words.specs.declared.answers.Polled.{Polled}
use Rattle.ffi_words.specs.declared.answers.PolledNack.{PolledNack}
use Rattle.ffi_words.specs.declared.answers.PolledWire.{PolledWire}
use Rattle.ffi_words.specs.declared.answers.PushedBurst.{PushedBurst}
use Rattle.ffi_words.specs.declared.figures.Timeout.{Timeout}
use Rattle.ffi_words.specs.declared.figures.RtxStats.{RtxStats}
use Rattle.ffi_words.specs.declared.figures.Highest.{Highest}
use Rattle.ffi_words.specs.declared.figures.Figures.{Figures}
use Rattle.ffi_words.specs.declared.figures.ReadNumbers.{ReadNumbers}
use Rattle.ffi_words.specs.Words.{flag, words_of, no_session}

-- ---- what an answer tells

unfoldable pub refusal_in : Answer → Option ℕ
refusal_in (Calls.refused k) = Some k
refusal_in Calls.queued = None
refusal_in Calls.dropped = None
refusal_in (Calls.repaired f) = None
refusal_in Calls.nothing = None
refusal_in (Calls.packet p) = None
refusal_in (Calls.nack n) = None
refusal_in (Calls.wire n) = None
refusal_in (Calls.timeout t) = None
refusal_in (Calls.stats f) = None
refusal_in (Calls.highest n) = None

unfoldable pub fate_number : Fate → ℕ
fate_number recovered = 0
fate_number redundant = 1
fate_number too_late = 2

-- the number that it is or has
unfoldable pub number_in : Answer → Option ℕ
number_in (Calls.refused k) = None
number_in Calls.queued = Some 0
number_in Calls.dropped = Some 1
number_in (Calls.repaired f) = Some (fate_number f)
number_in Calls.nothing = None
number_in (Calls.packet p) = None
number_in (Calls.nack n) = Some n
number_in (Calls.wire n) = Some n
number_in (Calls.timeout t) = t
number_in (Calls.stats f) = None
number_in (Calls.highest n) = n

-- the packet, or none
unfoldable pub packet_in : Answer → List Calls.Packet
packet_in (Calls.refused k) = []
packet_in Calls.queued = []
packet_in Calls.dropped = []
packet_in (Calls.repaired f) = []
packet_in Calls.nothing = []
packet_in (Calls.packet p) = p ∷ []
packet_in (Calls.nack n) = []
packet_in (Calls.wire n) = []
packet_in (Calls.timeout t) = []
packet_in (Calls.stats f) = []
packet_in (Calls.highest n) = []

unfoldable pub stats_in : Answer → Option RtpInboundRtxStats
stats_in (Calls.refused k) = None
stats_in Calls.queued = None
stats_in Calls.dropped = None
stats_in (Calls.repaired f) = None
stats_in Calls.nothing = None
stats_in (Calls.packet p) = None
stats_in (Calls.nack n) = None
stats_in (Calls.wire n) = None
stats_in (Calls.timeout t) = None
stats_in (Calls.stats f) = f
stats_in (Calls.highest n) = None

-- ---- as words

unfoldable pub opt_words : Option ℕ → ℕ × ℕ
opt_words None = (0, 0)
opt_words (Some n) = (1, n)

abbrev pub has? : Option ℕ → ℕ
has? o = (opt_words o).0

abbrev pub value_of : Option ℕ → ℕ
value_of o = (opt_words o).1

unfoldable pub packet_words : List Calls.Packet → Packet
packet_words [] = record { has_received_at = 0; received_at = 0; delay = 0; size = 0; timestamp = 0; ssrc = 0; sequence_number = 0; pt = 0; marker = 0 }
packet_words (p ∷ ps) =
    record { has_received_at = has? p.arrival; received_at = value_of p.arrival; delay = p.delay; size = p.size; timestamp = p.timestamp; ssrc = p.ssrc; sequence_number = p.number; pt = p.pt; marker = flag p.marker }

unfoldable pub stats_words : ℕ → Option RtpInboundRtxStats → RtxStats
stats_words refusal None =
    record { refusal = refusal; has_stats = 0; packets_received_in_time = 0; packets_received_too_late = 0; packets_received_redundant = 0; bytes_received = 0; has_rtt = 0; rtt = 0 }
stats_words refusal (Some f) =
    record { refusal = refusal; has_stats = 1; packets_received_in_time = f.packets_received_in_time; packets_received_too_late = f.packets_received_too_late; packets_received_redundant = f.packets_received_redundant; bytes_received = f.bytes_received; has_rtt = has? f.rtt; rtt = value_of f.rtt }

-- the number under which the code refused, if it did
unfoldable pub refusal_told : {A : Type 0} → Result A Refusal → Option ℕ
refusal_told (Ok x) = None
refusal_told (Err e) = Some (number e)

-- a refused call gives the words of the session back as they came
unfoldable pub session_after : Option ℕ → SessionWords → Session → SessionWords
session_after None given left = words_of left
session_after (Some k) given left = given

-- what is told of an answer, of the words that were given and of the session that is left
abbrev pub back : {A : Type 0} → (Answer → SessionWords → A) → Answer → SessionWords → Session → A
back tell a given left = tell a (session_after (refusal_in a) given left)

-- ---- the answers of the exported calls, with the words of the session

unfoldable pub pushed : Answer → SessionWords → Pushed
pushed a w = record { refusal = value_of (refusal_in a); answer = value_of (number_in a); session = w }

unfoldable pub polled : Answer → SessionWords → Polled
polled a w = record { refusal = value_of (refusal_in a); has_packet = length (packet_in a); packet = packet_words (packet_in a); session = w }

unfoldable pub polled_nack : Answer → SessionWords → PolledNack
polled_nack a w = record { refusal = value_of (refusal_in a); count = value_of (number_in a); session = w }

unfoldable pub polled_wire : Answer → SessionWords → PolledWire
polled_wire a w = record { refusal = value_of (refusal_in a); bytes = value_of (number_in a); session = w }

-- 02, point 4: of a burst; the words of the session that is left, where a datagram was accepted
unfoldable pub burst_told : (refusal answers : ℕ) → Bool → SessionWords → Session → PushedBurst
burst_told refusal answers accepted given left = record { refusal = refusal; answers = answers; session = cond accepted (words_of left) given }

-- those of the calls that only read, whose caller keeps the words

unfoldable pub timeout_told : Answer → Timeout
timeout_told a = record { refusal = value_of (refusal_in a); has_timeout = has? (number_in a); timeout = value_of (number_in a) }

unfoldable pub stats_told : Answer → RtxStats
stats_told a = stats_words (value_of (refusal_in a)) (stats_in a)

unfoldable pub highest_told : Answer → Highest
highest_told a = record { refusal = value_of (refusal_in a); has_number = has? (number_in a); number = value_of (number_in a) }

-- that of the reader of NACK entries, which has no session
unfoldable pub numbers_told : Result ℕ ℕ → ReadNumbers
numbers_told (Ok n) = record { refusal = 0; numbers = n }
numbers_told (Err k) = record { refusal = k; numbers = 0 }

-- the opening has no words to give back
unfoldable pub open_told : Did.Opening → Opened
open_told (Did.session s) = record { refusal = 0; session = words_of s }
open_told (Did.refused k) = record { refusal = k; session = no_session }

unfoldable pub no_figures : ℕ → Figures
no_figures k = record { refusal = k; packets_received = 0; packets_dropped = 0; packets_lost = 0; bytes_received = 0; jitter = 0; loss = zero32 }
