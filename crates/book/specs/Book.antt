-- 01, "Book", a term that 01 coins: which number waits, is missing, was handed out, lost or forgotten (01's word too). It is fed the settings,
-- each call, and of the answers only whether the call was refused and whether `poll` handed out. It never looks at a session.
use Rattle.std.specs.Prelude.{Bool, cond, List, [], ◌∷◌, ◌++◌, ℕ, suc, ◌-◌, length, Option, None, Some}
use Rattle.rtx_state.specs.declared.RtxRtt.{RtxRtt}
use Rattle.rtp_packet.specs.Header.{sequence_number, payload_of}
use Rattle.rtp_packet.specs.Original.{original_number}
use Rattle.config.specs.declared.Settings.{Settings}
use Rattle.model.specs.declared.Config.{Config}
use Rattle.model.specs.Lists.{following, some?}
use Rattle.model.specs.Records.{Gap, Remembered, gap_numbers}
use Rattle.model.specs.Rules.{extended, is, without, gaps_below, gaps_from, Place, first, near, far, fills, other, place_of, waits, between, gaps_after, timings_in, nack_due, gap_nacked_at, lost_nacked_at, sampled_at, forget_first, overfull, remembered_after, given_up_of, not_given_up, lost_below_of, left_from_of}
use Rattle.model.specs.Calls.{Call, media, repair, poll, poll_nack, nack_wire, timeout_receive, timeout_nack, rtx_stats, highest_received}
use Rattle.book.specs.Sorted.{put_in}

-- What the book hears of an answer: the call was refused, or it was accepted, with whether it was a `poll` that handed out.
pub data Heard : Type 0 where
  refused : Heard
  accepted : Bool → Heard

-- "the first and highest accepted media number"
pub data Span : Type 0 where
  none : Span
  from_to : ℕ → ℕ → Span

unfoldable pub highest : Span → Option ℕ
highest none = None
highest (from_to f h) = Some h

pub record Book : Type 0 where
  pub span : Span
  -- ascending
  pub waiting : List ℕ
  -- ascending, each with its NACKs
  pub missing : List Gap
  -- in the order of handing out
  pub handed : List ℕ
  pub lost : List ℕ
  pub forgotten : List ℕ
  -- "NACKs and resend delay being reckoned in the book after Gap and Repair state": from these
  pub estimate : Option RtxRtt
  pub remembered : List Remembered

-- "none at the opening"
unfoldable pub empty : Book
empty = record { span = none; waiting = []; missing = []; handed = []; lost = []; forgotten = []; estimate = None; remembered = [] }

-- ---- one field at a time: a record has no update

module _ (b : Book) where
  abbrev pub with_span : Span → Book
  with_span x = record { span = x; waiting = b.waiting; missing = b.missing; handed = b.handed; lost = b.lost; forgotten = b.forgotten; estimate = b.estimate; remembered = b.remembered }

  abbrev pub with_waiting : List ℕ → Book
  with_waiting x = record { span = b.span; waiting = x; missing = b.missing; handed = b.handed; lost = b.lost; forgotten = b.forgotten; estimate = b.estimate; remembered = b.remembered }

  abbrev pub with_missing : List Gap → Book
  with_missing x = record { span = b.span; waiting = b.waiting; missing = x; handed = b.handed; lost = b.lost; forgotten = b.forgotten; estimate = b.estimate; remembered = b.remembered }

  abbrev pub with_handed : List ℕ → Book
  with_handed x = record { span = b.span; waiting = b.waiting; missing = b.missing; handed = x; lost = b.lost; forgotten = b.forgotten; estimate = b.estimate; remembered = b.remembered }

  abbrev pub with_lost : List ℕ → Book
  with_lost x = record { span = b.span; waiting = b.waiting; missing = b.missing; handed = b.handed; lost = x; forgotten = b.forgotten; estimate = b.estimate; remembered = b.remembered }

  abbrev pub with_forgotten : List ℕ → Book
  with_forgotten x = record { span = b.span; waiting = b.waiting; missing = b.missing; handed = b.handed; lost = b.lost; forgotten = x; estimate = b.estimate; remembered = b.remembered }

  abbrev pub with_estimate : Option RtxRtt → Book
  with_estimate x = record { span = b.span; waiting = b.waiting; missing = b.missing; handed = b.handed; lost = b.lost; forgotten = b.forgotten; estimate = x; remembered = b.remembered }

  abbrev pub with_remembered : List Remembered → Book
  with_remembered x = record { span = b.span; waiting = b.waiting; missing = b.missing; handed = b.handed; lost = b.lost; forgotten = b.forgotten; estimate = b.estimate; remembered = x }

-- ---- media

unfoldable pub span_after : ℕ → Place → Span → Span
span_after n first s = from_to n n
span_after n (near h) none = none
span_after n (near h) (from_to f g) = from_to f n
span_after n (far h) none = none
span_after n (far h) (from_to f g) = from_to f n
span_after n fills s = s
span_after n other s = s

-- "with s over 1,000, are forgotten with all then missing"
unfoldable pub forgotten_by : ℕ → Place → List Gap → List ℕ
forgotten_by n first l = []
forgotten_by n (near h) l = []
forgotten_by n (far h) l = gap_numbers l ++ between h n
forgotten_by n fills l = []
forgotten_by n other l = []

-- "the first waits. One s above the highest waits; those between go missing or .. are forgotten .. . A missing one waits"
unfoldable pub arrive : ℕ → ℕ → Place → Book → Book
arrive now n p b =
    with_forgotten (with_missing (with_waiting (with_span b (span_after n p b.span)) (put_in n b.waiting)) (gaps_after now n p b.missing))
    (b.forgotten ++ forgotten_by n p b.missing)

-- "the lowest waiting and all missing below it are forgotten"
unfoldable pub push_out_of : List ℕ → Book → Book
push_out_of [] b = b
push_out_of (w ∷ ws) b =
    with_forgotten (with_missing (with_waiting b ws) (gaps_from w b.missing)) (b.forgotten ++ (w ∷ gap_numbers (gaps_below w b.missing)))

-- "over D now do"
unfoldable pub within_depth : Settings → Book → Book
within_depth set b = cond (overfull set (length b.waiting)) (push_out_of b.waiting b) b

-- "any other moves no number"
unfoldable pub on_media : Config → ℕ → ℕ → Place → Book → Book
on_media c now n p b = cond (waits p) (within_depth c.settings (arrive now n p b)) b

-- ---- a repair

-- "a missing number waits"
unfoldable pub recover : ℕ → ℕ → Book → Book
recover now n b =
    with_estimate (with_missing (with_waiting b (put_in n b.waiting)) (without n b.missing)) (sampled_at now (gap_nacked_at n b.missing) b.estimate)

-- a remembered number gives a sample; any other does nothing
unfoldable pub not_missing : ℕ → ℕ → Book → Book
not_missing now n b =
    with_remembered (with_estimate b (sampled_at now (lost_nacked_at n b.remembered) b.estimate)) (forget_first n b.remembered)

unfoldable pub on_repair : ℕ → ℕ → Book → Book
on_repair now n b = cond (some? (is n) b.missing) (recover now n b) (not_missing now n b)

-- ---- `poll` and `poll_nack`

-- "missing ones become lost as under Hand-out"
unfoldable pub give_up : Config → Book → Book
give_up c b = with_lost (with_missing b (not_given_up c.settings b.missing)) (b.lost ++ gap_numbers (given_up_of c.settings b.missing))

-- "a `poll` that hands out takes the lowest waiting"
unfoldable pub take_lowest : Config → List ℕ → Book → Book
take_lowest c [] b = b
take_lowest c (w ∷ ws) b =
    let lost = lost_below_of c.settings.mode w b.missing in
    with_remembered
    (with_lost (with_handed (with_missing (with_waiting b ws) (left_from_of c.settings.mode w b.missing)) (b.handed ++ (w ∷ []))) (b.lost ++ gap_numbers lost))
    (remembered_after c.senders.has_rtx lost b.remembered)

unfoldable pub on_poll : Config → Bool → Book → Book
on_poll c out b = cond out (take_lowest c b.waiting (give_up c b)) (give_up c b)

unfoldable pub nack_all : Config → ℕ → Book → Book
nack_all c now b = with_missing b (nack_due (timings_in c b.estimate) now b.missing)

-- ---- any call

-- "Numbers are extended as under Numbers, with the references of 000": the reference is the highest
unfoldable pub read : Book → ℕ → ℕ
read b n = extended 16 (highest b.span) n

unfoldable pub enter : Config → Call → Heard → Book → Book
unfolding read
enter c call refused b = b
enter c (media now d) (accepted out) b =
    let n = read b (sequence_number d) in
    on_media c now n (place_of (highest b.span) b.missing n) b
enter c (repair now d) (accepted out) b = on_repair now (read b (original_number (payload_of d))) b
enter c (poll now lent) (accepted out) b = on_poll c out b
enter c (poll_nack now lent) (accepted out) b = nack_all c now (give_up c b)
-- 02, point 1: "counted as a `poll_nack` wherever a rule names one, the lost numbers included"
enter c (nack_wire now lent) (accepted out) b = nack_all c now (give_up c b)
enter c (timeout_receive now) (accepted out) b = b
enter c (timeout_nack now) (accepted out) b = b
enter c rtx_stats (accepted out) b = b
enter c highest_received (accepted out) b = b

-- ---- the two lists of demand 3

unfoldable pub all_of : Span → List ℕ
all_of none = []
all_of (from_to f h) = following f (suc h - f)

-- "all from the first accepted media packet to the highest"
unfoldable pub expected : Book → List ℕ
unfolding all_of
expected b = all_of b.span

-- "those handed out, waiting, missing or lost"
unfoldable pub accounted : Book → List ℕ
accounted b = b.handed ++ (b.waiting ++ (gap_numbers b.missing ++ b.lost))
