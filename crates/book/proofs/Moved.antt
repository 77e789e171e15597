-- What an accepted call moves: the numbers handed out and lost, the count of lost ones and the last returned number. Only `poll` hands out, only
-- `poll` and `poll_nack` lose, and only a media packet forgets.
use mathlib.Core.Path.{◌≡◌, refl, sym, ◌∙◌}
use mathlib.Core.Logic.{◌⊎◌, inl, inr}
use mathlib.Core.Bool.{Bool, true, false, cond}
use mathlib.Core.List.{List, [], ◌∷◌, ◌++◌, map, append-nil, append_assoc}
use Prim.Native.Nat.{ℕ, zero, suc, ◌+◌, ◌-◌}
use native.Mathlib.Omega.{arith}
use lib.Dec.{leb, ltb, nleb→lt}
use lib.ListN.{length, length-append, length-map}
use Rattle.rtp_packet.specs.Header.{sequence_number, payload_of}
use Rattle.rtp_packet.specs.Original.{original_number}
use Rattle.config.specs.declared.RtpInboundQueueMode.{RtpInboundQueueMode}
use Rattle.model.specs.declared.Config.{Config}
use Rattle.rtp.specs.Numbers.{low_bits}
use Rattle.model.specs.Lists.{some?}
use Rattle.rtp.specs.Opt.{number_of}
use Rattle.model.specs.Records.{Entry, Gap, State, entry_numbers, gap_numbers}
use Rattle.model.specs.Rules.{is, Place, place_of, waits, max_gap_size, overfull, given_up_of, lost_below_of}
use Rattle.model.specs.Push as P
use Rattle.model.specs.Push.{insert_sorted, media_entry_of, media_place, heard, count_dropped, count_received, after_queued, after_dropped, front_out_of, after_media, Fate, too_late, recovered, redundant, repair_entry, repair_fate, after_fate, after_repair}
use Rattle.model.specs.Poll.{lose, count_lost, drained, ready, hands_out, going_out, hand_out, after_poll, after_poll_nack}
use Rattle.model.specs.Poll as Q
use Rattle.model.specs.Calls.{Call, media, repair, poll, poll_nack, nack_wire, timeout_receive, timeout_nack, rtx_stats, highest_received, queued, dropped, packet_of, handed, nack_answer, taken, answered}
use Rattle.model.proofs.Lists.{by_cases, Each, each_first, each_imp, each_insert}
use Rattle.book.specs.Book as B
use Rattle.book.specs.Book.{Heard, refused, accepted, Span, none, from_to, Book, arrive, forgotten_by, push_out_of, within_depth, on_media, recover, on_repair, give_up, take_lowest, on_poll, read, enter}
use Rattle.book.specs.States.{hear, given, Forgets, step_over, push_out, ForgetsBy, by_media}
use Rattle.model.proofs.Sound.{Ahead, ListsOf}
use Rattle.model.proofs.SoundPush.{waiting-stands}
use Rattle.book.proofs.Past.{PastOf, past_advance, past_hand, past_forget}
use Rattle.book.proofs.Same.{Same, beside, by-same, out?, hear_media, hear_poll, hear-nack}

-- From s and b to s' and b', with the numbers that `poll` handed out.
pub record Moved (s : State) (b : Book) (s' : State) (b' : Book) (out : List ℕ) : Type 0 where
  pub handed : b'.handed ≡ b.handed ++ out
  pub newly : List ℕ
  pub lost : b'.lost ≡ b.lost ++ newly
  pub counted : s'.queue.counters.lost ≡ s.queue.counters.lost + length newly

-- ---- a call that neither hands out nor loses

-- the book's part
Keeps : Book → Book → Type 0
Keeps b b' = (b'.handed ≡ b.handed) × (b'.lost ≡ b.lost)

push_out_keeps : (l : List ℕ) (b : Book) → Keeps b (push_out_of l b)
unfolding push_out_of Keeps
push_out_keeps [] b = (refl, refl)
push_out_keeps (w ∷ ws) b = (refl, refl)

media_keeps : (c : Config) (now n : ℕ) (p : Place) (b : Book) → Keeps b (on_media c now n p b)
unfolding on_media within_depth arrive Keeps
media_keeps c now n p b =
    by_cases (Keeps b) (waits p)
    (λ t.
    by_cases (Keeps b) (overfull c.settings (length (arrive now n p b).waiting)) (λ u. push_out_keeps (arrive now n p b).waiting (arrive now n p b)) (λ u. (refl, refl)))
    (λ t. (refl, refl))

repair_keeps : (now n : ℕ) (b : Book) → Keeps b (on_repair now n b)
unfolding on_repair recover B.not_missing Keeps
repair_keeps now n b = by_cases (Keeps b) (some? (is n) b.missing) (λ t. (refl, refl)) (λ t. (refl, refl))

still : {s s' : State} {b b' : Book} → Keeps b b' → s'.queue.counters.lost ≡ s.queue.counters.lost → Moved s b s' b' []
unfolding Keeps
still {s} {s'} {b} {b'} k e =
    record { handed = k.0 ∙ sym (append-nil b.handed); newly = []; lost = k.1 ∙ sym (append-nil b.lost); counted = omega arith }

-- the queue's part
front_out-counts : (l : List Entry) (s : State) → (front_out_of l s).queue.counters.lost ≡ s.queue.counters.lost
unfolding front_out_of count_dropped
front_out-counts [] s = refl
front_out-counts (x ∷ xs) s = refl

media_counts : (now : ℕ) (d : List ℕ) (s : State) → (after_media now d s).queue.counters.lost ≡ s.queue.counters.lost
unfolding after_media P.within_depth after_queued after_dropped heard count_dropped count_received
media_counts now d s =
    let x : Entry = media_entry_of now d s.queue in
    let p : Place = media_place s x.number in
    by_cases goes (waits p)
    (λ t. by_cases goes (overfull (after_queued now x p s).queue.config.settings (length (after_queued now x p s).entries)) (λ u. front_out-counts (after_queued now x p s).entries (after_queued now x p s)) (λ u. refl))
    (λ t. refl)
  where
    goes : State → Type 0
    goes x = x.queue.counters.lost ≡ s.queue.counters.lost

repair_counts : (now : ℕ) (x : Entry) (f : Fate) (s : State) → (after_fate now x f s).queue.counters.lost ≡ s.queue.counters.lost
unfolding after_fate
repair_counts now x too_late s = refl
repair_counts now x recovered s = refl
repair_counts now x redundant s = refl

-- ---- `poll`

module _ (now : ℕ) (s : State) (b : Book) where
  abbrev gone : List Gap
  gone = given_up_of s.queue.config.settings s.gaps

  drained-moves : Moved s (beside s b) (drained now s) (give_up s.queue.config (beside s b)) []
  unfolding drained give_up lose count_lost
  drained-moves = record { handed = sym (append-nil b.handed); newly = gap_numbers gone; lost = refl; counted = rw length-map refl }

  out_moves : (es : List Entry)
      → Moved s (beside s b) (hand_out (going_out now s es) (drained now s)) (cond (out? (going_out now s es)) (take_lowest s.queue.config (entry_numbers es) (give_up s.queue.config (beside s b))) (give_up s.queue.config (beside s b)))
      (entry_numbers (going_out now s es))
  unfolding hand_out going_out hands_out out? drained give_up take_lowest lose count_lost
  out_moves [] = drained-moves
  out_moves (x ∷ es) =
      by_cases goes (ready s.queue now x.timestamp)
      (λ t.
      record {
        handed = refl;
        newly = gap_numbers gone ++ gap_numbers passed-by;
        lost = append_assoc b.lost (gap_numbers gone) (gap_numbers passed-by);
        counted = simp (length-append, length-map) (omega arith);
      })
      (λ t. drained-moves)
    where
      passed-by : List Gap
      passed-by = lost_below_of s.queue.config.settings.mode x.number (drained now s).gaps

      goes : List Entry → Type 0
      goes l =
          Moved s (beside s b) (hand_out l (drained now s)) (cond (out? l) (take_lowest s.queue.config (entry_numbers (x ∷ es)) (give_up s.queue.config (beside s b))) (give_up s.queue.config (beside s b)))
          (entry_numbers l)

-- the numbers that `poll` hands out, extended
unfoldable pub out_of : Call → State → List ℕ
out_of (media now d) s = []
out_of (repair now d) s = []
out_of (poll now lent) s = entry_numbers (going_out now s s.entries)
out_of (poll_nack now lent) s = []
out_of (nack_wire now lent) s = []
out_of (timeout_receive now) s = []
out_of (timeout_nack now) s = []
out_of rtx_stats s = []
out_of highest_received s = []

given_media : (b : Bool) → given (cond b queued dropped) ≡ []
unfolding given
given_media true = refl
given_media false = refl

given_poll : (now : ℕ) (s : State) (es : List Entry) → given (handed s.queue (going_out now s es)) ≡ map (low_bits 16) (entry_numbers (going_out now s es))
unfolding given handed going_out hands_out packet_of
given_poll now s [] = refl
given_poll now s (x ∷ es) =
    by_cases (λ (l : List Entry). given (handed s.queue l) ≡ map (low_bits 16) (entry_numbers l)) (ready s.queue now x.timestamp) (λ t. refl) (λ t. refl)

given-nack : (n : ℕ) → given (nack_answer n) ≡ []
unfolding given nack_answer
given-nack zero = refl
given-nack (suc n) = refl

-- `poll` returns them as 16 bits
pub given_out : (k : Call) (s : State) → given (answered k s) ≡ map (low_bits 16) (out_of k s)
unfolding answered out_of given
given_out (media now d) s = given_media (waits (media_place s (media_entry_of now d s.queue).number))
given_out (repair now d) s = refl
given_out (poll now lent) s = given_poll now s s.entries
given_out (poll_nack now lent) s = given-nack (length (Q.due_gaps now s.queue s.gaps))
given_out (nack_wire now lent) s = refl
given_out (timeout_receive now) s = refl
given_out (timeout_nack now) s = refl
given_out rtx_stats s = refl
given_out highest_received s = refl

-- ---- any call

moved-beside : (k : Call) (s : State) (b : Book) → Moved s (beside s b) (taken k s) (enter s.queue.config k (hear (answered k s)) (beside s b)) (out_of k s)
unfolding taken answered hear enter out_of after_repair after_poll after_poll_nack on_poll Q.nack_all B.nack_all Keeps
moved-beside (media now d) s b = rw hear_media (still (media_keeps s.queue.config now _ _ (beside s b)) (media_counts now d s))
moved-beside (repair now d) s b = still (repair_keeps now _ (beside s b)) (repair_counts now (repair_entry d s.queue) (repair_fate s (repair_entry d s.queue).number) s)
moved-beside (poll now lent) s b = rw (hear_poll s.queue (going_out now s s.entries)) (out_moves now s b s.entries)
moved-beside (poll_nack now lent) s b =
    let m = drained-moves now s b in
    rw hear-nack (record { handed = m.handed; newly = m.newly; lost = m.lost; counted = m.counted })
moved-beside (nack_wire now lent) s b =
    let m = drained-moves now s b in
    record { handed = m.handed; newly = m.newly; lost = m.lost; counted = m.counted }
moved-beside (timeout_receive now) s b = still (refl, refl) refl
moved-beside (timeout_nack now) s b = still (refl, refl) refl
moved-beside rtx_stats s b = still (refl, refl) refl
moved-beside highest_received s b = still (refl, refl) refl

pub moved-taken : (k : Call) {c : Config} {s : State} {b : Book} → Same c s b → Moved s b (taken k s) (enter c k (hear (answered k s)) b) (out_of k s)
moved-taken k {c} {s} {b} same =
    by-same (λ (c : Config) (b : Book). Moved s b (taken k s) (enter c k (hear (answered k s)) b) (out_of k s)) same (moved-beside k s b)

-- ---- the last returned number moves on, past what goes out

module _ (s : State) (out : List ℕ) (l : ListsOf s) (past : PastOf s.queue.config.settings.mode out s) where
  abbrev mode : RtpInboundQueueMode
  mode = s.queue.config.settings.mode

  abbrev Above : Entry → Type 0
  Above x = Ahead mode (number_of s.queue.returned) x.number

  front_out_past : (es : List Entry) (s' : State) → Each Above es → s'.queue.returned ≡ s.queue.returned → s'.remembered ≡ s.remembered → PastOf mode out (front_out_of es s')
  unfolding front_out_of number_of
  front_out_past [] s' t e e' = rw (e, e') past
  front_out_past (x ∷ xs) s' t e e' =
      rw e' (past_advance mode (number_of s.queue.returned) x.number out s.remembered (each_first t) past)

  entries-above : Each Above s.entries
  entries-above = each_imp (λ x h. h.ahead) l.entries_in

  media_past : (now : ℕ) (d : List ℕ) → PastOf mode out (after_media now d s)
  unfolding after_media P.within_depth after_queued after_dropped heard
  media_past now d =
      let x : Entry = media_entry_of now d s.queue in
      let p : Place = media_place s x.number in
      by_cases (PastOf mode out) (waits p)
      (λ t.
      by_cases (PastOf mode out) (overfull (after_queued now x p s).queue.config.settings (length (after_queued now x p s).entries))
      (λ u.
      front_out_past (insert_sorted x s.entries) (after_queued now x p s)
      (each_insert x (waiting-stands s x.number t).0 entries-above) refl refl)
      (λ u. past))
      (λ t. past)

  repair_past : (now : ℕ) (x : Entry) (fate : Fate) → PastOf mode out (after_fate now x fate s)
  unfolding after_fate
  repair_past now x too_late = past_forget mode (number_of s.queue.returned) x.number out s.remembered past
  repair_past now x recovered = past
  repair_past now x redundant = past

  poll_past : (now : ℕ) (es : List Entry) → Each Above es → PastOf mode (out ++ entry_numbers (going_out now s es)) (hand_out (going_out now s es) (drained now s))
  unfolding going_out hands_out hand_out drained lose number_of
  poll_past now [] t = rw append-nil past
  poll_past now (x ∷ xs) t =
      by_cases goes (ready s.queue now x.timestamp)
      (λ u.
      past_hand mode (number_of s.queue.returned) x.number out s.remembered s.queue.config.senders.has_rtx (drained now s).gaps
      (each_first t) past)
      (λ u. rw append-nil past)
    where
      goes : List Entry → Type 0
      goes l = PastOf mode (out ++ entry_numbers l) (hand_out l (drained now s))

  past_call : (k : Call) → PastOf mode (out ++ out_of k s) (taken k s)
  unfolding taken out_of after_repair after_poll after_poll_nack Q.nack_all drained lose
  past_call (media now d) = rw append-nil (media_past now d)
  past_call (repair now d) = rw append-nil (repair_past now (repair_entry d s.queue) (repair_fate s (repair_entry d s.queue).number))
  past_call (poll now lent) = poll_past now s.entries entries-above
  past_call (poll_nack now lent) = rw append-nil past
  past_call (nack_wire now lent) = rw append-nil past
  past_call (timeout_receive now) = rw append-nil past
  past_call (timeout_nack now) = rw append-nil past
  past_call rtx_stats = rw append-nil past
  past_call highest_received = rw append-nil past

pub past_taken : (k : Call) {c : Config} {s : State} {b : Book} → Same c s b → ListsOf s → PastOf c.settings.mode b.handed s → PastOf c.settings.mode (enter c k (hear (answered k s)) b).handed (taken k s)
past_taken k {c} {s} {b} same f =
    by-same (λ (c : Config) (b : Book). PastOf c.settings.mode b.handed s → PastOf c.settings.mode (enter c k (hear (answered k s)) b).handed (taken k s)) same
    (λ p. rw (moved-beside k s b).handed (past_call s b.handed f p k))

-- ---- forgetting

module _ (c : Config) (now n : ℕ) (b : Book) where
  -- the book x has forgotten no more than b, or this is a packet that forgets
  abbrev Remembers : Book → Type 0
  Remembers x = (x.forgotten ≡ b.forgotten) ⊎ Forgets c now n b

  arrive-forgets : (s : Span) → b.span ≡ s → Remembers (arrive now n (place_of (B.highest s) b.missing n) b)
  unfolding arrive place_of forgotten_by B.highest
  arrive-forgets none e = inl (append-nil b.forgotten)
  arrive-forgets (from_to f h) e =
      by_cases goes (ltb h n)
      (λ t. by_cases goes (leb (n - h) max_gap_size) (λ u. inl (append-nil b.forgotten)) (λ u. inr (step_over e (nleb→lt (n - h) max_gap_size u))))
      (λ t. by_cases goes (some? (is n) b.missing) (λ u. inl (append-nil b.forgotten)) (λ u. inl (append-nil b.forgotten)))
    where
      goes : Place → Type 0
      goes p = Remembers (arrive now n p b)

  media_forgets : Remembers (on_media c now n (place_of (B.highest b.span) b.missing n) b)
  unfolding on_media within_depth
  media_forgets =
      by_cases Remembers (waits (place_of (B.highest b.span) b.missing n))
      (λ t.
      by_cases Remembers (overfull c.settings (length (arrive now n (place_of (B.highest b.span) b.missing n) b).waiting)) (λ u. inr (push_out t u))
      (λ u. arrive-forgets b.span refl))
      (λ t. inl refl)

repair_forgets : (now n : ℕ) (b : Book) → (on_repair now n b).forgotten ≡ b.forgotten
unfolding on_repair recover B.not_missing
repair_forgets now n b = by_cases (λ (x : Book). x.forgotten ≡ b.forgotten) (some? (is n) b.missing) (λ t. refl) (λ t. refl)

poll_forgets : (c : Config) (out : Bool) (b : Book) → (on_poll c out b).forgotten ≡ b.forgotten
unfolding on_poll give_up take_lowest
poll_forgets c true b = lowest b.waiting
  where
    lowest : (l : List ℕ) → (take_lowest c l (give_up c b)).forgotten ≡ b.forgotten
    lowest [] = refl
    lowest (w ∷ ws) = refl
poll_forgets c false b = refl

pub enter-forgets : (c : Config) (k : Call) (heard : Heard) (b : Book) → ((enter c k heard b).forgotten ≡ b.forgotten) ⊎ ForgetsBy c b k
unfolding enter B.nack_all give_up
enter-forgets c k refused b = inl refl
enter-forgets c (media now d) (accepted out) b = go (media_forgets c now (read b (sequence_number d)) b)
  where
    go : ((on_media c now (read b (sequence_number d)) (place_of (B.highest b.span) b.missing (read b (sequence_number d))) b).forgotten ≡ b.forgotten) ⊎ Forgets c now (read b (sequence_number d)) b
        → ((on_media c now (read b (sequence_number d)) (place_of (B.highest b.span) b.missing (read b (sequence_number d))) b).forgotten ≡ b.forgotten) ⊎ ForgetsBy c b (media now d)
    go (inl e) = inl e
    go (inr f) = inr (by_media f)
enter-forgets c (repair now d) (accepted out) b = inl (repair_forgets now (read b (original_number (payload_of d))) b)
enter-forgets c (poll now lent) (accepted out) b = inl (poll_forgets c out b)
enter-forgets c (poll_nack now lent) (accepted out) b = inl refl
enter-forgets c (nack_wire now lent) (accepted out) b = inl refl
enter-forgets c (timeout_receive now) (accepted out) b = inl refl
enter-forgets c (timeout_nack now) (accepted out) b = inl refl
enter-forgets c rtx_stats (accepted out) b = inl refl
enter-forgets c highest_received (accepted out) b = inl refl
