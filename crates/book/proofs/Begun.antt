-- 02, point 2. The first number is 65,536 or more, and as long as it is the highest, the last timestamp is 2^32 or more. So there is room half a cycle
-- below, and a number there is told by its low bits (`within_half` of crate `rtp`). It is no gap: missing numbers lie in the run from the first on.
use mathlib.Core.Path.{◌≡◌, refl, sym, ap, ◌∙◌, subst}
use mathlib.Core.Bool.{Bool, true, false, cond, not, ◌&&◌}
use mathlib.Core.List.{List, [], ◌∷◌}
use Prim.Native.Nat.{ℕ, ◌+◌, ◌-◌, ◌*◌, ◌^◌, ◌≤◌, ◌<◌}
use native.Mathlib.Omega.{arith}
use lib.Dec.{T, ltb, leb, leb→le, lt→ltb, not_T, lit≤}
use lib.Arith.{le→nltb}
use lib.Ieee.Bits.{cond_no, is_true}
use lib.Ieee.Fits.{and_l, and_r}
use lib.ListN.{length}
use Rattle.rtp.specs.Numbers.{low_bits, apart}
use Rattle.model.specs.declared.Received.{Received}
use Rattle.std.specs.Prelude.{Option, None, Some}
use Rattle.rtp.proofs.Laws.{extends}
use Rattle.durations.specs.Seconds.{largest}
use Rattle.rtp_packet.specs.Header.{sequence_number, timestamp, payload_of}
use Rattle.rtp_packet.specs.Original.{original_number}
use Rattle.config.specs.declared.Settings.{Settings}
use Rattle.model.specs.declared.Config.{Config}
use Rattle.model.specs.declared.Queue.{Queue}
use Rattle.model.specs.Lists.{some?}
use Rattle.model.specs.Records.{Entry, Gap, State, highest_of, last_timestamp_of}
use Rattle.model.specs.Rules.{extended, is, max_gap_size, Place, first, near, far, fills, other, place_of, waits, overfull}
use Rattle.model.specs.Push as P
use Rattle.model.specs.Push.{extended_number, extended_timestamp, media_entry_of, media_place, heard, last_after, after_queued, after_dropped, front_out_of, after_placed, after_media, Fate, too_late, recovered, redundant, repair_entry, repair_fate, after_fate, after_repair}
use Rattle.model.specs.Poll.{drained, lose, going_out, hand_out, after_poll, nack_all, after_poll_nack}
use Rattle.model.specs.Valid.{last_sound}
use Rattle.model.specs.Storage.{Storage, parse}
use Rattle.model.specs.Calls.{Call, media, repair, poll, poll_nack, nack_wire, timeout_receive, timeout_nack, rtx_stats, highest_received, Answer, queued, dropped, taken, placed_answer, answered}
use Rattle.model.specs.Did.{did}
use Rattle.model.proofs.Lists.{by_cases}
use Rattle.model.proofs.Sound.{ListsOf}
use Rattle.model.proofs.SoundPush.{Stands, is-first, is_near, is_far, is-gap, is-other, stands}
use Rattle.book.specs.Book as B
use Rattle.book.specs.Book.{Heard, accepted, Span, none, from_to, Book, empty, span_after, arrive, push_out_of, on_media, recover, not_missing, on_repair, give_up, take_lowest, on_poll, read, enter, expected, all_of}
use Rattle.book.specs.States.{hear, View, opened, after, Next, stays, moves, Ran, opening, further}
use Rattle.book.specs.Claim.{Run, call, calls, view_of}
use Rattle.book.specs.First.{Comes, FirstCycle}
use Rattle.book.proofs.Count.{count, same_no}
use Rattle.book.proofs.Gaps.{some-counted}
use Rattle.book.proofs.Tally.{total, run_of_one}
use Rattle.book.proofs.Past.{same_place}
use Rattle.book.proofs.Same.{Same, hear_media, hear_poll, hear-nack}
use Rattle.book.proofs.States.{Kept, kept}
use Rattle.book.proofs.Theorem.{ran, call-taken, call-answer}

-- ---- what runs along

unfoldable Begun : Span → Option Received → Type 0
Begun none l = Unit {0}
Begun (from_to f h) None = ⊥
Begun (from_to f h) (Some r) = (65536 ≤ f) × ((f ≤ h) × (f ≡ h → 2 ^ 32 ≤ r.timestamp.0))

-- a media packet: what follows of run and last packet is by its place alone
module _ (c : Config) (now n : ℕ) where
  depth_span : (set : Settings) (b : Book) → (B.within_depth set b).span ≡ b.span
  unfolding B.within_depth push_out_of
  depth_span set b = by_cases (λ (x : Book). x.span ≡ b.span) (overfull set (length b.waiting)) (λ t. out b.waiting) (λ t. refl)
    where
      out : (l : List ℕ) → (push_out_of l b).span ≡ b.span
      out [] = refl
      out (w ∷ ws) = refl

  media_span : (p : Place) (b : Book) → (on_media c now n p b).span ≡ span_after n p b.span
  unfolding on_media waits arrive span_after
  media_span first b = depth_span c.settings (arrive now n first b)
  media_span (near h) b = depth_span c.settings (arrive now n (near h) b)
  media_span (far h) b = depth_span c.settings (arrive now n (far h) b)
  media_span fills b = depth_span c.settings (arrive now n fills b)
  media_span other b = refl

depth_last : (s : State) → (P.within_depth s).queue.last ≡ s.queue.last
unfolding P.within_depth front_out_of
depth_last s = by_cases (λ (x : State). x.queue.last ≡ s.queue.last) (overfull s.queue.config.settings (length s.entries)) (λ t. out s.entries) (λ t. refl)
  where
    out : (es : List Entry) → (front_out_of es s).queue.last ≡ s.queue.last
    out [] = refl
    out (e ∷ es) = refl

media_last : (now : ℕ) (e : Entry) (p : Place) (s : State) → (after_placed now e p s).queue.last ≡ last_after now e.timestamp e.number p s.queue.last
unfolding after_placed after_queued after_dropped heard waits last_after
media_last now e first s = depth_last (after_queued now e first s)
media_last now e (near h) s = depth_last (after_queued now e (near h) s)
media_last now e (far h) s = depth_last (after_queued now e (far h) s)
media_last now e fills s = depth_last (after_queued now e fills s)
media_last now e other s = refl

begun-after : (now ts n : ℕ) (span : Span) (last : Option Received) (gaps : List Gap) {p : Place} → highest_of last ≡ B.highest span → Stands (highest_of last) gaps n p
    → (highest_of last ≡ None → (65536 ≤ n) × (2 ^ 32 ≤ ts)) → Begun span last → Begun (span_after n p span) (last_after now ts n p last)
unfolding Begun span_after last_after highest_of B.highest
begun-after now ts n span last gaps e (is-first at) new b = let k = new at in (k.0, (omega arith, λ z. k.1))
begun-after now ts n none last gaps e (is_near at lt) new b = tt
begun-after now ts n (from_to f g) None gaps e (is_near at lt) new b = absurd b
begun-after now ts n (from_to f g) (Some r) gaps e (is_near {h = h} at lt) new b =
    let q : ◌≡◌ {A = ℕ} g h = cc in (b.0, (omega (arith, b.1.0), λ z. absurd (omega (arith, b.1.0))))
begun-after now ts n none last gaps e (is_far at lt) new b = tt
begun-after now ts n (from_to f g) None gaps e (is_far at lt) new b = absurd b
begun-after now ts n (from_to f g) (Some r) gaps e (is_far {h = h} at lt) new b =
    let q : ◌≡◌ {A = ℕ} g h = cc in (b.0, (omega (arith, b.1.0), λ z. absurd (omega (arith, b.1.0))))
begun-after now ts n span last gaps e (is-gap t) new b = b
begun-after now ts n span last gaps e is-other new b = b

-- the first packet's numbers, "65,536 added" and "2^32 added"
first_values : (q : Queue) (got ts : ℕ) → highest_of q.last ≡ None → (extended_number q got ≡ 65536 + got) × (extended_timestamp q ts ≡ 2 ^ 32 + ts)
unfolding extended_number extended_timestamp highest_of last_timestamp_of extended
first_values q got ts = go q.last
  where
    go : (l : Option Received) → highest_of l ≡ None → (extended 16 (highest_of l) got ≡ 65536 + got) × (extended 32 (last_timestamp_of l) ts ≡ 2 ^ 32 + ts)
    go None e = (omega arith, omega arith)
    go (Some r) e = let z : ◌≡◌ {A = ℕ} 0 1 = cc in absurd (omega arith)

-- ---- each call

module _ (now : ℕ) (d : List ℕ) {c : Config} {s : State} {b : Book} (same : Same c s b) (l : ListsOf s) where
  abbrev packet : Entry
  packet = media_entry_of now d s.queue

  abbrev place : Place
  place = place_of (highest_of s.queue.last) s.gaps packet.number

  -- the queue's number of a media packet is the book's, and so is its place
  read_is : read b (sequence_number d) ≡ packet.number
  unfolding read media_entry_of extended_number
  read_is = ap (λ (o : Option ℕ). extended 16 o (sequence_number d)) (sym same.highest)

  place_is : place_of (B.highest b.span) b.missing (read b (sequence_number d)) ≡ place
  place_is = let top = sym same.highest in let open-gaps = sym same.gaps in λ i. place_of (top i) (open-gaps i) (read_is i)

  taken-last : (taken (media now d) s).queue.last ≡ last_after now packet.timestamp packet.number place s.queue.last
  unfolding taken after_media
  taken-last =
      media_last now packet (media_place s packet.number) s
      ∙ ap (λ (p : Place). last_after now packet.timestamp packet.number p s.queue.last) (same_place s l packet.number)

  enter_media : enter c (media now d) (accepted false) b ≡ on_media c now packet.number place b
  unfolding enter
  enter_media = λ i. on_media c now (read_is i) (place_is i) b

  media_begun : Begun b.span s.queue.last → Begun (enter c (media now d) (accepted false) b).span (taken (media now d) s).queue.last
  unfolding media_entry_of
  media_begun i =
      let e : (enter c (media now d) (accepted false) b).span ≡ span_after packet.number place b.span = ap (λ (x : Book). x.span) enter_media ∙ media_span c now packet.number place b in
      rw (e, taken-last)
      (begun-after now packet.timestamp packet.number b.span s.queue.last s.gaps same.highest (stands (highest_of s.queue.last) s.gaps packet.number)
      (λ z. let v = first_values s.queue (sequence_number d) (timestamp d) z in (omega (arith, v.0), omega (arith, v.1)))
      i)

fate-last : (now : ℕ) (e : Entry) (f : Fate) (s : State) → (after_fate now e f s).queue.last ≡ s.queue.last
unfolding after_fate
fate-last now e too_late s = refl
fate-last now e redundant s = refl
fate-last now e recovered s = refl

hand_last : (es : List Entry) (s : State) → (hand_out es s).queue.last ≡ s.queue.last
unfolding hand_out lose
hand_last [] s = refl
hand_last (e ∷ es) s = refl

poll_span : (c : Config) (out : Bool) (b : Book) → (on_poll c out b).span ≡ b.span
unfolding on_poll give_up take_lowest
poll_span c true b = go b.waiting
  where
    go : (l : List ℕ) → (take_lowest c l (give_up c b)).span ≡ b.span
    go [] = refl
    go (w ∷ ws) = refl
poll_span c false b = refl

-- a call other than a media packet leaves the run and the last packet as they are
begun-taken : (k : Call) {c : Config} {s : State} {b : Book} → Same c s b → ListsOf s → Begun b.span s.queue.last
    → Begun (enter c k (hear (answered k s)) b).span (taken k s).queue.last
unfolding answered placed_answer hear taken enter on_repair recover not_missing after_repair after_poll after_poll_nack nack_all drained lose give_up B.nack_all
begun-taken (media now d) same l i = rw hear_media (media_begun now d same l i)
begun-taken (repair now d) {s = s} {b = b} same l i =
    let e = repair_entry d s.queue in
    by_cases (λ (x : Book). Begun x.span (after_repair now d s).queue.last) (some? (is (read b (original_number (payload_of d)))) b.missing)
    (λ t. rw (fate-last now e (repair_fate s e.number) s) i)
    (λ t. rw (fate-last now e (repair_fate s e.number) s) i)
begun-taken (poll now out) {c = c} {s = s} {b = b} same l i = rw (hear_poll s.queue (going_out now s s.entries), poll_span, hand_last) i
begun-taken (poll_nack now out) same l i = rw hear-nack i
begun-taken (nack_wire now out) same l i = i
begun-taken (timeout_receive now) same l i = i
begun-taken (timeout_nack now) same l i = i
begun-taken rtx_stats same l i = i
begun-taken highest_received same l i = i

begun_next : {c : Config} {x : View} {k : Call} {y : View} → Ran c x → Begun x.book.span x.state.queue.last → Next c x k y → Begun y.book.span y.state.queue.last
unfolding Begun after
begun_next r b stays = b
begun_next {k = k} r b (moves e) = let i = kept r in begun-taken k i.inv.same i.sound.lists_in b

begun : {c : Config} {x : View} → Ran c x → Begun x.book.span x.state.queue.last
unfolding opened empty Begun
begun (opening v) = tt
begun (further r n) = begun_next r (begun r) n

-- ---- the theorem

-- what is known of the highest number and the last timestamp where the first number f is the highest
record Alone (last : Option Received) (f : ℕ) : Type 0 where
  from_cycle_one : 65536 ≤ f
  number_fits : f ≤ largest
  stamp : (ts : ℕ) → last_timestamp_of last ≡ Some ts → (2 ^ 32 ≤ ts) × (ts ≤ largest)

alone : (clock : ℕ) (last : Option Received) (f : ℕ) → highest_of last ≡ Some f → T (last_sound clock last) → Begun (from_to f f) last → Alone last f
unfolding Begun highest_of last_timestamp_of last_sound
alone clock None f e t b = absurd b
alone clock (Some r) f e t b =
    let at : ◌≡◌ {A = ℕ} r.number.0 f = cc in
    let u = and_r (leb r.instant clock) (leb r.timestamp.0 largest && leb r.number.0 largest) t in
    let n = leb→le r.number.0 largest (and_r (leb r.timestamp.0 largest) (leb r.number.0 largest) u) in
    let s = leb→le r.timestamp.0 largest (and_l (leb r.timestamp.0 largest) (leb r.number.0 largest) u) in
    record {
      from_cycle_one = b.0;
      number_fits = omega arith;
      stamp = λ ts q. let z : ◌≡◌ {A = ℕ} r.timestamp.0 ts = cc in let h = b.1.1 refl in (omega arith, omega arith);
    }

-- a number near the reference is told by its low bits
near_number : (w : ℕ) → w ≤ 62 → (reference n : ℕ) → reference < 2 ^ 64 → n < 2 ^ 64 → 2 * apart reference n < 2 ^ w → extended w (Some reference) (low_bits w n) ≡ n
unfolding extended
near_number w fits r n a b h = (extends w fits).within_half r n a b h

module _ {c : Config} {t : Storage} {ks : List Call} {now : ℕ} {d : List ℕ} (comes : Comes c t ks now d) where
  abbrev x : Run
  x = calls c ks

  abbrev s : State
  s = parse x.stored

  k : Kept c (view_of x)
  k = kept (ran c t ks comes.opens)

  abbrev n : ℕ
  n = (media_entry_of now d s.queue).number

  abbrev stood : Place
  stood = place_of (highest_of s.queue.last) s.gaps n

  answer-is : (did (media now d) x.stored).answer ≡ placed_answer stood
  unfolding answered
  answer-is = call-answer c x (media now d) comes.accepted ∙ ap placed_answer (same_place s k.sound.lists_in n)

  book-is : (call c x (media now d)).book ≡ on_media c now n stood x.book
  unfolding call placed_answer
  book-is =
      ap (λ (a : Answer). enter c (media now d) (hear a) x.book) answer-is
      ∙ ap (λ (h : Heard). enter c (media now d) h x.book) (hear_media (waits stood))
      ∙ enter_media now d k.inv.same k.sound.lists_in

  span-is : (call c x (media now d)).book.span ≡ span_after n stood x.book.span
  span-is = ap (λ (b : Book). b.span) book-is ∙ media_span c now n stood x.book

  last-is : (parse (call c x (media now d)).stored).queue.last ≡ last_after now (media_entry_of now d s.queue).timestamp n stood s.queue.last
  last-is = ap (λ (z : State). z.queue.last) (call-taken c x (media now d) comes.accepted) ∙ taken-last now d k.inv.same k.sound.lists_in

  first-is : x.book.span ≡ none → ((call c x (media now d)).book.span ≡ from_to (65536 + sequence_number d) (65536 + sequence_number d)) × (last_timestamp_of (parse (call c x (media now d)).stored).queue.last ≡ Some (2 ^ 32 + timestamp d))
  unfolding media_entry_of place_of span_after last_after last_timestamp_of B.highest
  first-is e =
      let top : highest_of s.queue.last ≡ None = k.inv.same.highest ∙ ap B.highest e in
      let v = first_values s.queue (sequence_number d) (timestamp d) top in
      let p : stood ≡ first = ap (λ (o : Option ℕ). place_of o s.gaps n) top in (
        span-is ∙ ap (λ (q : Place). span_after n q x.book.span) p ∙ ap (λ (m : ℕ). from_to m m) v.0,
        ap last_timestamp_of (last-is ∙ ap (λ (q : Place). last_after now (media_entry_of now d s.queue).timestamp n q s.queue.last) p) ∙ ap Some v.1,
      )

  module _ (f : ℕ) (e : x.book.span ≡ from_to f f) where
    top : highest_of s.queue.last ≡ Some f
    unfolding B.highest
    top = k.inv.same.highest ∙ ap B.highest e

    only : Alone s.queue.last f
    only = alone s.queue.clock s.queue.last f top k.sound.queue_in.last_in (subst (λ (z : Span). Begun z s.queue.last) e (begun (ran c t ks comes.opens)))

    number_is : (m : ℕ) → m < 2 ^ 64 → 2 * apart f m < 2 ^ 16 → sequence_number d ≡ low_bits 16 m → n ≡ m
    unfolding media_entry_of extended_number
    number_is m fits h q =
        ap (λ (o : Option ℕ). extended 16 o (sequence_number d)) top ∙ ap (extended 16 (Some f)) q
        ∙ near_number 16 (lit≤ tt) f m (omega (arith, only.number_fits)) fits h

    -- no number but f is in the run, so none is missing
    not-missing : (m : ℕ) → m < f → T (not (some? (is m) s.gaps))
    unfolding total expected all_of
    not-missing m lt =
        not_T (some? (is m) s.gaps)
        (λ v.
        absurd
        (omega (
          arith,
          some-counted m x.book.missing (subst (λ (l : List Gap). T (some? (is m) l)) k.inv.same.gaps v),
          k.inv.tally.tally m,
          ap (λ (z : Span). count m (all_of z)) e,
          run_of_one m f,
          same_no m f (λ z. absurd (omega arith)),
        )))

    stands-other : (m : ℕ) → n ≡ m → m < f → stood ≡ other
    unfolding place_of
    stands-other m q lt =
        (λ i. place_of (top i) s.gaps (q i)) ∙ cond_no (ltb f m) _ _ (le→nltb f m (omega arith)) ∙ cond_no (some? (is m) s.gaps) _ _ (not-missing m lt)

    behind-is : (j : ℕ) → 1 ≤ j → j ≤ 32767 → sequence_number d ≡ low_bits 16 (f - j) → ((did (media now d) x.stored).answer ≡ dropped) × ((call c x (media now d)).book ≡ x.book)
    unfolding apart placed_answer waits on_media
    behind-is j lo hi q =
        let a = only in
        let p = stands-other (f - j) (number_is (f - j) (omega (arith, a.number_fits)) (omega (arith, a.from_cycle_one)) q) (omega (arith, a.from_cycle_one)) in
        (answer-is ∙ ap placed_answer p, book-is ∙ ap (λ (z : Place). on_media c now n z x.book) p)

    earlier-is : (ts j : ℕ) → last_timestamp_of s.queue.last ≡ Some ts → 2 * j < 2 ^ 32 → timestamp d ≡ low_bits 32 (ts - j) → extended_timestamp s.queue (timestamp d) + j ≡ ts
    unfolding extended_timestamp apart
    earlier-is ts j at h q =
        let b = only.stamp ts at in
        let m : extended 32 (last_timestamp_of s.queue.last) (timestamp d) ≡ ts - j
        = ap (λ (o : Option ℕ). extended 32 o (timestamp d)) at ∙ ap (extended 32 (Some ts)) q ∙ near_number 32 (lit≤ tt) ts (ts - j) (omega arith) (omega arith) (omega arith) in
        omega arith

    ahead-is : (j : ℕ) → 1 ≤ j → j ≤ 32767 → sequence_number d ≡ low_bits 16 (f + j) → ((did (media now d) x.stored).answer ≡ queued) × ((call c x (media now d)).book.span ≡ from_to f (f + j))
    unfolding apart placed_answer waits place_of span_after
    ahead-is j lo hi q =
        let m = number_is (f + j) (omega (arith, only.number_fits)) (omega arith) q in
        let up : ltb f (f + j) ≡ true = is_true _ (lt→ltb f (f + j) (omega arith)) in
        let p : stood ≡ cond (leb ((f + j) - f) max_gap_size) (near f) (far f) = (λ i. place_of (top i) s.gaps (m i)) ∙ ap (λ (b : Bool). cond b (cond (leb ((f + j) - f) max_gap_size) (near f) (far f)) (cond (some? (is (f + j)) s.gaps) fills other)) up in
        by_cases (λ (z : Place). stood ≡ z → ((did (media now d) x.stored).answer ≡ queued) × ((call c x (media now d)).book.span ≡ from_to f (f + j))) (leb ((f + j) - f) max_gap_size) {x = near f} {y = far f}
        (λ u a. (answer-is ∙ ap placed_answer a, span-is ∙ (λ i. span_after (m i) (a i) (e i))))
        (λ u a. (answer-is ∙ ap placed_answer a, span-is ∙ (λ i. span_after (m i) (a i) (e i))))
        p

pub first_cycle_lem : FirstCycle
first_cycle_lem =
    record {
      first = λ c t ks now d comes e. first-is comes e;
      behind = λ c t ks now d f j comes e lo hi q. behind-is comes f e j lo (omega arith) q;
      earlier = λ c t ks now d f ts j comes e at h q. earlier-is comes f e ts j at h q;
      ahead = λ c t ks now d f j comes e lo hi q. ahead-is comes f e j lo (omega arith) q;
    }
