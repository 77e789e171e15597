-- Session and book go together: after each accepted call the entries are the waiting numbers, the gaps the missing ones, and so on. Both follow
-- the same rules, so this holds by computation, but for a number in order among the entries, and for the queue's own test of what is too late.
use mathlib.Core.Path.{◌≡◌, refl, sym, ap, subst}
use mathlib.Core.Logic.{◌⊎◌, inl, inr}
use mathlib.Core.Bool.{Bool, true, false, cond, not}
use mathlib.Core.List.{List, [], ◌∷◌}
use Prim.Native.Nat.{ℕ, zero, suc, ◌-◌}
use native.Mathlib.Omega.{arith}
use lib.Dec.{T, T_not, leb, ltb}
use lib.ListN.{length, length-map, drop}
use lib.Ieee.Bits.{is_true, is_false}
use Rattle.model.specs.declared.Received.{Received}
use Rattle.std.specs.Prelude.{Option, None, Some}
use Rattle.rtp_packet.specs.Header.{sequence_number, payload_of}
use Rattle.rtp_packet.specs.Original.{original_number}
use Rattle.rtx_state.specs.Repair as Rtx
use Rattle.config.specs.declared.RtpInboundQueueMode.{RtpInboundQueueMode}
use Rattle.model.specs.declared.Config.{Config}
use Rattle.model.specs.declared.Queue.{Queue}
use Rattle.model.specs.Lists.{some?}
use Rattle.rtp.specs.Opt.{number_of}
use Rattle.model.specs.Records.{Entry, Gap, Remembered, State, entry_numbers, highest_of}
use Rattle.model.specs.Rules.{extended, is, Place, place_of, waits, instant_of, sampled_at, overfull, max_gap_size}
use Rattle.model.specs.Push as P
use Rattle.model.specs.Push.{passed, insert_sorted, extended_number, media_entry_of, heard, last_after, after_queued, after_dropped, front_out_of, after_media, repair_entry, repair_fate, after_fate, after_repair}
use Rattle.model.specs.Poll as Q
use Rattle.model.specs.Poll.{drained, lose, hands_out, going_out, ready, hand_out, after_poll, after_poll_nack}
use Rattle.model.specs.Calls.{Call, media, repair, poll, poll_nack, nack_wire, timeout_receive, timeout_nack, rtx_stats, highest_received, queued, dropped, nack_answer, handed, taken, answered}
use Rattle.model.proofs.Lists.{by_cases}
use Rattle.book.specs.Sorted.{put_in}
use Rattle.book.specs.Book as B
use Rattle.book.specs.Book.{accepted, Span, none, from_to, Book, span_after, arrive, push_out_of, on_media, recover, not_missing, on_repair, give_up, take_lowest, on_poll, enter}
use Rattle.book.specs.States.{hear}
use Rattle.model.proofs.Sound.{ListsOf, ahead_to}
use Rattle.book.proofs.Count.{either}
use Rattle.book.proofs.Past.{gap-ahead, same_place, Past, no_sample, none-forgotten}

pub record Same (c : Config) (s : State) (b : Book) : Type 0 where
  pub config : s.queue.config ≡ c
  pub entries : entry_numbers s.entries ≡ b.waiting
  pub gaps : s.gaps ≡ b.missing
  pub highest : highest_of s.queue.last ≡ B.highest b.span
  pub estimate : s.queue.rtx.rtt ≡ b.estimate
  pub remembered : s.remembered ≡ b.remembered

-- ---- the book that is read off a session, but for what only the book knows

abbrev pub beside : State → Book → Book
beside s b =
    record { span = b.span; waiting = entry_numbers s.entries; missing = s.gaps; handed = b.handed; lost = b.lost; forgotten = b.forgotten; estimate = s.queue.rtx.rtt; remembered = s.remembered }

-- what holds of it, and of the session's own settings, holds of a book that goes with the session
pub by-same {κ} : (P : Config → Book → Type κ) {c : Config} {s : State} {b : Book} → Same c s b → P s.queue.config (beside s b) → P c b
by-same P {c} {s} {b} same p = subst (λ (c : Config). P c b) same.config (subst (P s.queue.config) b' p)
  where
    b' : ◌≡◌ {A = Book} (beside s b) b
    b' =
        λ i.
        record { span = b.span; waiting = same.entries i; missing = same.gaps i; handed = b.handed; lost = b.lost; forgotten = b.forgotten; estimate = same.estimate i; remembered = same.remembered i }

-- what holds of two values that go by one test, in both arms
by_cases₂ {κ} : {A B : Type 0} (P : A → B → Type κ) (b : Bool) {x y : A} {u v : B} → (T b → P x u) → (T (not b) → P y v) → P (cond b x y) (cond b u v)
by_cases₂ P true f g = f tt
by_cases₂ P false f g = g tt

-- ---- entries

numbers_insert : (e : Entry) (l : List Entry) → entry_numbers (insert_sorted e l) ≡ put_in e.number (entry_numbers l)
unfolding insert_sorted put_in
numbers_insert e [] = refl
numbers_insert e (x ∷ xs) =
    by_cases₂ (λ (l : List Entry) (r : List ℕ). entry_numbers l ≡ r) (leb e.number x.number) (λ t. refl)
    (λ t. ap (λ (l : List ℕ). x.number ∷ l) (numbers_insert e xs))

module _ (s : State) (b : Book) (e : highest_of s.queue.last ≡ B.highest b.span) where
  same_beside : Same s.queue.config s (beside s b)
  same_beside = record { config = refl; entries = refl; gaps = refl; highest = e; estimate = refl; remembered = refl }

  same-front_out : (es : List Entry) → Same s.queue.config (front_out_of es s) (push_out_of (entry_numbers es) (beside s b))
  unfolding front_out_of push_out_of
  same-front_out [] = same_beside
  same-front_out (x ∷ es) = record { config = refl; entries = refl; gaps = refl; highest = e; estimate = refl; remembered = refl }

same-within_depth : {c : Config} {s : State} {b : Book} → Same c s b → Same c (P.within_depth s) (B.within_depth c.settings b)
unfolding P.within_depth B.within_depth
same-within_depth {c} {s} {b} same =
    by-same (λ (c : Config) (b : Book). Same c (P.within_depth s) (B.within_depth c.settings b)) same
    (rw length-map
    (by_cases₂ (Same s.queue.config) (overfull s.queue.config.settings (length s.entries)) (λ t. same-front_out s b same.highest s.entries)
    (λ t. same_beside s b same.highest)))

-- ---- a media packet

-- the queue's last media packet and the book's highest follow a packet alike
highest-after : (now ts n : ℕ) (l : Option Received) (s : Span) (gaps : List Gap) → highest_of l ≡ B.highest s
    → highest_of (last_after now ts n (place_of (highest_of l) gaps n) l) ≡ B.highest (span_after n (place_of (highest_of l) gaps n) s)
unfolding highest_of B.highest last_after span_after place_of
highest-after now ts n None s gaps e = refl
highest-after now ts n (Some r) none gaps e = absurd (let z : ◌≡◌ {A = ℕ} 0 1 = cc in omega arith)
highest-after now ts n (Some r) (from_to f h) gaps e =
    by_cases goes (ltb r.number.0 n) (λ t. by_cases goes (leb (n - r.number.0) max_gap_size) (λ u. refl) (λ u. refl))
    (λ t. by_cases goes (some? (is n) gaps) (λ u. e) (λ u. e))
  where
    goes : Place → Type 0
    goes p = highest_of (last_after now ts n p (Some r)) ≡ B.highest (span_after n p (from_to f h))

same-on_media : (now : ℕ) (x : Entry) (p : Place) (s : State) (b : Book) → highest_of s.queue.last ≡ B.highest b.span
    → highest_of (last_after now x.timestamp x.number p s.queue.last) ≡ B.highest (span_after x.number p b.span)
    → Same s.queue.config (cond (waits p) (P.within_depth (after_queued now x p s)) (after_dropped now x.timestamp s)) (on_media s.queue.config now x.number p (beside s b))
unfolding on_media arrive after_queued after_dropped heard
same-on_media now x p s b e after =
    by_cases₂ (Same s.queue.config) (waits p)
    (λ t.
    same-within_depth
    (record { config = refl; entries = numbers_insert x s.entries; gaps = refl; highest = after; estimate = refl; remembered = refl }))
    (λ t. record { config = refl; entries = refl; gaps = refl; highest = e; estimate = refl; remembered = refl })

pub hear_media : (b : Bool) → hear (cond b queued dropped) ≡ accepted false
unfolding hear
hear_media true = refl
hear_media false = refl

-- ---- `poll` and `poll_nack`

-- `poll` handed out
unfoldable pub out? : List Entry → Bool
out? [] = false
out? (x ∷ xs) = true

pub hear_poll : (q : Queue) (l : List Entry) → hear (handed q l) ≡ accepted (out? l)
unfolding hear handed out?
hear_poll q [] = refl
hear_poll q (x ∷ xs) = refl

pub hear-nack : (n : ℕ) → hear (nack_answer n) ≡ accepted false
unfolding hear nack_answer
hear-nack zero = refl
hear-nack (suc n) = refl

module _ (now : ℕ) (s : State) (b : Book) (e : highest_of s.queue.last ≡ B.highest b.span) where
  same-drained : Same s.queue.config (drained now s) (give_up s.queue.config (beside s b))
  unfolding drained give_up lose
  same-drained = record { config = refl; entries = refl; gaps = refl; highest = e; estimate = refl; remembered = refl }

  same_out : (es : List Entry) → s.entries ≡ es
      → Same s.queue.config (hand_out (going_out now s es) (drained now s)) (cond (out? (going_out now s es)) (take_lowest s.queue.config (entry_numbers es) (give_up s.queue.config (beside s b))) (give_up s.queue.config (beside s b)))
  unfolding hand_out going_out hands_out out? drained give_up take_lowest lose
  same_out [] same = same-drained
  same_out (x ∷ es) same =
      by_cases goes (ready s.queue now x.timestamp)
      (λ t.
      record { config = refl; entries = ap (λ (l : List Entry). entry_numbers (drop 1 l)) same; gaps = refl; highest = e; estimate = refl; remembered = refl })
      (λ t. same-drained)
    where
      goes : List Entry → Type 0
      goes l =
          Same s.queue.config (hand_out l (drained now s))
          (cond (out? l) (take_lowest s.queue.config (entry_numbers (x ∷ es)) (give_up s.queue.config (beside s b))) (give_up s.queue.config (beside s b)))

same-nack_all : (now : ℕ) {c : Config} {s : State} {b : Book} → Same c s b → Same c (Q.nack_all now s) (B.nack_all c now b)
unfolding Q.nack_all B.nack_all
same-nack_all now {c} {s} {b} same =
    by-same (λ (c : Config) (b : Book). Same c (Q.nack_all now s) (B.nack_all c now b)) same
    (record { config = refl; entries = refl; gaps = refl; highest = same.highest; estimate = refl; remembered = refl })

-- ---- a repair

module _ (now : ℕ) (s : State) (b : Book) (e : highest_of s.queue.last ≡ B.highest b.span) (f : ListsOf s) (out : List ℕ) where
  abbrev mode : RtpInboundQueueMode
  mode = s.queue.config.settings.mode

  abbrev returned : Option ℕ
  returned = number_of s.queue.returned

  same_repair : Past mode returned out s.remembered → (x : Entry) → Same s.queue.config (after_fate now x (repair_fate s x.number) s) (on_repair now x.number (beside s b))
  unfolding after_fate repair_fate on_repair recover not_missing instant_of sampled_at Rtx.record_in_time Rtx.record_redundant Rtx.record_too_late
  same_repair p x = go (either (some? (is x.number) s.gaps)) (either (passed mode returned x.number))
    where
      go : T (some? (is x.number) s.gaps) ⊎ T (not (some? (is x.number) s.gaps)) → T (passed mode returned x.number) ⊎ T (not (passed mode returned x.number))
          → Same s.queue.config (after_fate now x (repair_fate s x.number) s) (on_repair now x.number (beside s b))
      go (inl t) (inl u) = absurd (T_not (passed mode returned x.number) (ahead_to mode returned x.number (gap-ahead s f x.number t)) u)
      go (inl t) (inr u) =
          rw (is_true (some? (is x.number) s.gaps) t, is_false (passed mode returned x.number) u)
          (record { config = refl; entries = numbers_insert x s.entries; gaps = refl; highest = e; estimate = refl; remembered = refl })
      go (inr t) (inl u) =
          rw (is_false (some? (is x.number) s.gaps) t, is_true (passed mode returned x.number) u)
          (record { config = refl; entries = refl; gaps = refl; highest = e; estimate = refl; remembered = refl })
      go (inr t) (inr u) =
          rw (is_false (some? (is x.number) s.gaps) t, is_false (passed mode returned x.number) u)
          (record {
            config = refl;
            entries = refl;
            gaps = refl;
            highest = e;
            estimate = ap (λ (l : List Remembered). sampled_at now (instant_of l) s.queue.rtx.rtt) (sym (no_sample mode returned x.number out s.remembered u p));
            remembered = sym (none-forgotten mode returned x.number out s.remembered u p);
          })

-- ---- any call

module _ (s : State) (b : Book) (e : highest_of s.queue.last ≡ B.highest b.span) (f : ListsOf s) where
  same_media : (now : ℕ) (d : List ℕ) → Same s.queue.config (after_media now d s) (enter s.queue.config (media now d) (accepted false) (beside s b))
  unfolding after_media media_entry_of extended_number enter B.read
  same_media now d =
      let x : Entry = media_entry_of now d s.queue in
      subst (λ (o : Option ℕ). Same s.queue.config (after_media now d s) (on_media s.queue.config now (extended 16 o (sequence_number d)) (place_of o s.gaps (extended 16 o (sequence_number d))) (beside s b))) e
      (rw (same_place s f x.number)
      (same-on_media now x (place_of (highest_of s.queue.last) s.gaps x.number) s b e (highest-after now x.timestamp x.number s.queue.last b.span s.gaps e)))

  same-after_repair : (now : ℕ) (d out : List ℕ) → Past s.queue.config.settings.mode (number_of s.queue.returned) out s.remembered
      → Same s.queue.config (after_repair now d s) (enter s.queue.config (repair now d) (accepted false) (beside s b))
  unfolding after_repair repair_entry extended_number enter B.read
  same-after_repair now d out p =
      subst (λ (o : Option ℕ). Same s.queue.config (after_repair now d s) (on_repair now (extended 16 o (original_number (payload_of d))) (beside s b))) e
      (same_repair now s b e f out p (repair_entry d s.queue))

  same-beside-taken : (k : Call) (out : List ℕ) → Past s.queue.config.settings.mode (number_of s.queue.returned) out s.remembered
      → Same s.queue.config (taken k s) (enter s.queue.config k (hear (answered k s)) (beside s b))
  unfolding taken answered hear enter after_poll after_poll_nack on_poll
  same-beside-taken (media now d) out p = rw hear_media (same_media now d)
  same-beside-taken (repair now d) out p = same-after_repair now d out p
  same-beside-taken (poll now lent) out p = rw (hear_poll s.queue (going_out now s s.entries)) (same_out now s b e s.entries refl)
  same-beside-taken (poll_nack now lent) out p = rw hear-nack (same-nack_all now (same-drained now s b e))
  same-beside-taken (nack_wire now lent) out p = same-nack_all now (same-drained now s b e)
  same-beside-taken (timeout_receive now) out p = same_beside s b e
  same-beside-taken (timeout_nack now) out p = same_beside s b e
  same-beside-taken rtx_stats out p = same_beside s b e
  same-beside-taken highest_received out p = same_beside s b e

pub same_taken : (k : Call) {c : Config} {s : State} {b : Book} → Same c s b → ListsOf s → Past c.settings.mode (number_of s.queue.returned) b.handed s.remembered
    → Same c (taken k s) (enter c k (hear (answered k s)) b)
same_taken k {c} {s} {b} same f =
    by-same
    (λ (c : Config) (b : Book). Past c.settings.mode (number_of s.queue.returned) b.handed s.remembered → Same c (taken k s) (enter c k (hear (answered k s)) b))
    same (λ p. same-beside-taken s b same.highest f k b.handed p)
