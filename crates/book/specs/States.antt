-- Demand 3 over runs of states: a session's state, whatever it is stored in and whoever may refuse a call, with the book beside it. Claim and
-- Code state the same of stored sessions.
use Rattle.std.specs.Prelude.{◌≡◌, ◌⊎◌, ◌↔◌, true, false, List, [], ◌∷◌, ◌++◌, map, ℕ, ◌+◌, ◌-◌, ◌<◌, T, length}
use Rattle.words.specs.Order.{ascends}
use Rattle.rtp.specs.Numbers.{low_bits}
use Rattle.config.specs.declared.RtpInboundQueueMode.{RtpInboundQueueMode}
use Rattle.config.specs.declared.RtpInboundQueueMode.TheVariants.{Passthrough, SortedQueue}
use Rattle.rtp_packet.specs.Header.{sequence_number}
use Rattle.model.specs.declared.Config.{Config}
use Rattle.model.specs.Records.{State, new_state, entry_numbers, gap_numbers, highest_of}
use Rattle.model.specs.Rules.{place_of, waits, overfull, max_gap_size}
use Rattle.model.specs.Valid.{sound}
use Rattle.model.specs.Calls.{Call, media, Answer, refused, queued, dropped, repaired, nothing, packet, nack, wire, timeout, stats, highest, taken, answered}
use Rattle.model.specs.Table.{config_valid, call_refusal}
use Rattle.book.specs.Sorted.{put_all_in, sort}
use Rattle.book.specs.Book as B
use Rattle.book.specs.Book.{Heard, Book, from_to, empty, enter, read, arrive, expected, accounted}

-- ---- what is heard of an answer

-- "of answers only whether refused and whether `poll` handed out"
unfoldable pub hear : Answer → Heard
hear (refused k) = B.refused
hear queued = B.accepted false
hear dropped = B.accepted false
hear (repaired f) = B.accepted false
hear nothing = B.accepted false
hear (packet p) = B.accepted true
hear (nack k) = B.accepted false
hear (wire k) = B.accepted false
hear (timeout t) = B.accepted false
hear (stats r) = B.accepted false
hear (highest n) = B.accepted false

-- the number that `poll` returned, if it did: 16 bits
unfoldable pub given : Answer → List ℕ
given (refused k) = []
given queued = []
given dropped = []
given (repaired f) = []
given nothing = []
given (packet p) = p.number ∷ []
given (nack k) = []
given (wire k) = []
given (timeout t) = []
given (stats r) = []
given (highest n) = []

-- ---- runs

-- A session's state, the book beside it, and what `poll` returned so far.
pub record View : Type 0 where
  pub state : State
  pub book : Book
  pub returned : List ℕ

unfoldable pub opened : Config → View
opened c = record { state = new_state c; book = empty; returned = [] }

unfoldable pub after : Config → View → Call → View
after c x k =
    record { state = taken k x.state; book = enter c k (hear (answered k x.state)) x.book; returned = x.returned ++ given (answered k x.state) }

-- One more call: refused, by whatever check and whosever, and nothing moves, of the book neither; or taken, where none of the session's own
-- checks catches it. Row 16 is not among them: the state of a run is sound.
pub data Next (c : Config) (x : View) (k : Call) : View → Type 0 where
  stays : Next c x k x
  moves : call_refusal k x.state ≡ 0 → Next c x k (after c x k)

-- x is where a run stands: a new session, and any calls since
pub data Ran (c : Config) : View → Type 0 where
  opening : config_valid c ≡ true → Ran c (opened c)
  further : {x y : View} {k : Call} → Ran c x → Next c x k y → Ran c y

-- ---- what is claimed

-- "In sorted mode numbers are handed out strictly ascending."
unfoldable pub InOrder : RtpInboundQueueMode → List ℕ → Type 0
InOrder Passthrough l = Unit {0}
InOrder (SortedQueue sorted) l = T (ascends l)

pub record HoldsIn (c : Config) (x : View) : Type 0 where
  -- "two lists of sequence numbers are afterwards equal exactly when no number was forgotten: all from the first accepted media packet to
  -- the highest, and those handed out, waiting, missing or lost, sorted, repeats kept"
  pub exactly : (expected x.book ≡ sort (accounted x.book)) ↔ (x.book.forgotten ≡ [])
  -- "Otherwise the first is the second with the forgotten numbers sorted in, each once"
  pub whole : expected x.book ≡ put_all_in x.book.forgotten (sort (accounted x.book))
  -- "The session's entries are exactly the book's waiting numbers and its gaps the missing ones", with their NACKs
  pub entries : entry_numbers x.state.entries ≡ x.book.waiting
  pub gaps : x.state.gaps ≡ x.book.missing
  pub highest_number : highest_of x.state.queue.last ≡ B.highest x.book.span
  -- the lost count is the number of the book's lost ones: "none at the opening", and each call adds the newly lost (`StepTo.counted`)
  pub lost_counted : x.state.queue.counters.lost ≡ length x.book.lost
  -- "and `poll` returned the book's handed-out ones, in order"
  pub returned : x.returned ≡ map (low_bits 16) x.book.handed
  pub in_order : InOrder c.settings.mode x.book.handed
  -- the book's waiting and missing numbers ascend: the first is "the lowest"
  pub waiting_ascends : T (ascends x.book.waiting)
  pub missing_ascends : T (ascends (gap_numbers x.book.missing))

-- "Forgetting happens only at a step over 1,000 or when an over-full queue pushes out its front": by the media number n, at instant now
pub data Forgets (c : Config) (now n : ℕ) (b : Book) : Type 0 where
  step_over : {f h : ℕ} → b.span ≡ from_to f h → max_gap_size < n - h → Forgets c now n b
  push_out :
      T (waits (place_of (B.highest b.span) b.missing n))
      → T (overfull c.settings (length (arrive now n (place_of (B.highest b.span) b.missing n) b).waiting))
      → Forgets c now n b

pub data ForgetsBy (c : Config) (b : Book) : Call → Type 0 where
  by_media : {now : ℕ} {d : List ℕ} → Forgets c now (read b (sequence_number d)) b → ForgetsBy c b (media now d)

-- What one more call does, which leaves y.
pub record StepTo (c : Config) (x : View) (k : Call) (y : View) : Type 0 where
  -- "each `poll` and `poll_nack` raises the lost count by the newly lost ones"; at any other call `enter` loses none
  pub newly : List ℕ
  pub lost : y.book.lost ≡ x.book.lost ++ newly
  pub counted : y.state.queue.counters.lost ≡ x.state.queue.counters.lost + length newly
  pub forgets : (y.book.forgotten ≡ x.book.forgotten) ⊎ ForgetsBy c x.book k

-- Demand 3, and row 16's part that speaks of states.
pub record EveryRunOfStates : Type 0 where
  pub sound_state : (c : Config) (x : View) → Ran c x → (x.state.queue.config ≡ c) × (sound x.state ≡ true)
  pub holds : (c : Config) (x : View) → Ran c x → HoldsIn c x
  pub steps : (c : Config) (x y : View) (k : Call) → Ran c x → Next c x k y → StepTo c x k y
