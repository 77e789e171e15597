-- `poll_nack`, in a list or on the wire: what its checks pass is what its gaps need to be NACKed, the gaps that the timings make due are those
-- of the definition, and NACKing changes no number.
use mathlib.Core.Path.{◌≡◌, refl, sym, ap, ◌∙◌, subst}
use mathlib.Core.Bool.{Bool, true, false, cond}
use mathlib.Core.List.{List, [], ◌∷◌, map}
use Prim.Native.Nat.{ℕ, zero, suc, ◌+◌, ◌/◌, ◌≤◌}
use native.Mathlib.Omega.{arith}
use lib.Dec.{ltb, eqb}
use lib.ListN.{length, drop, length-map}
use borrow.Author.Tests.{eqb-true, lt-ltb}
use Rattle.std.specs.Prelude.{Result, Ok, Err, IsErrAnd}
use Rattle.std.specs.Bool.{then_some}
use Rattle.words.specs.Words.{over}
use Rattle.words.specs.Blocks.{laid}
use Rattle.words.specs.Order.{ascends}
use Rattle.words.proofs.Ordered.{and_right}
use Rattle.refusals.specs.declared.Refusal.{Refusal}
use Rattle.refusals.specs.Refusals.{COUNT, number, refuse_if, or_else}
use Rattle.refusals.proofs.Laws.{number_refuses, accepted_unless, or_else_refused, or_else_second, or_else-none, passes-last}
use Rattle.config.specs.declared.Settings.{Settings}
use Rattle.config.specs.declared.NackTimings.{NackTimings}
use Rattle.model.specs.declared.Queue.{Queue}
use Rattle.model.specs.Lists.{keep, some?, every?}
use Rattle.model.specs.Records.{Gap, State, gap_numbers}
use Rattle.model.specs.Rules.{due, nack_due, truncated, full, given_up_of, not_given_up}
use Rattle.model.specs.Poll.{lose, drained, timings_of, due_gaps, nack_numbers, nack_entries_of, nack_all, after_poll_nack}
use Rattle.model.specs.Storage.{Stored, gap_words_of, parse, write}
use Rattle.nack_pairs.specs.Wire.{entry_bytes, entries}
use Rattle.model.specs.Calls.{Answer, Call, poll_nack, nack_wire, taken, answered, output_of, output_after, wire, nack_answer}
use Rattle.model.specs.Table.{session_sound, session_refusal, output_refusal, clock_refusal, count_refusal, nack_count_refusal, nacks_refusal, poll_nack_refusal, call_refusal, refusal}
use Rattle.model.specs.Did.{Done, accepted}
use Rattle.model.proofs.OnTheWire.{wire-places}
use Rattle.model.proofs.Laid.{length-entries_of, length-remembered_of, parse-gaps}
use Rattle.packet_gaps.specs.Gaps.{GapsIn, instants_fit, Small}
use Rattle.model.specs.Contract.{said, stored, Does}
use Rattle.session.proofs.Bounds.{timings-small}
use Rattle.storage.specs.Settled.{Settled}
use Rattle.poll.specs.Answers.{count_answer}
use Rattle.poll.specs.Steps.{gaps_in, Leaves, drained_session}
use Rattle.poll.specs.Nacking.{Judging, found_in, judged_by, later_refusal, nack_refusal, drained_by}
use Rattle.poll.specs.declared.nack.Found.{Found}
use Rattle.storage.proofs.Settled.{assoc, accepted-is, refused_said, passed_16, checked, holding, settled_of, settings_in, instants}
use Rattle.poll.proofs.Early.{is-room, is_timely}
use Rattle.poll.proofs.Holding.{leaves_write}
use Rattle.poll.proofs.Parted.{not-given-up}
use Rattle.poll.proofs.Drained.{after_is, after_gaps, after-ascend, after_held, after_fewer, after-long}

every_drop : {A : Type 0} (p : A → Bool) (n : ℕ) (l : List A) → every? p l ≡ true → every? p (drop n l) ≡ true
unfolding every?
every_drop p zero l e = e
every_drop p (suc n) [] e = e
every_drop p (suc n) (x ∷ l) e = every_drop p n l (and_right (p x) (every? p l) e)

-- ---- 14, by what was found

module _ (now : ℕ) (m : Stored) (found : Found) (ef : found ≡ found_in m) where
  abbrev set : Settings
  set = m.session.queue.config.settings

  pub found-given : found.given ≡ length (given_up_of set (gaps_in m))
  unfolding found_in
  found-given = ap (λ (f : Found). f.given) ef

  pub found-timings : found.timings ≡ timings_of m.session.queue
  unfolding found_in
  found-timings = ap (λ (f : Found). f.timings) ef

  abbrev lost : ℕ
  lost = count_refusal ((m.session.queue.counters.lost + found.given) ∷ [])

  -- what the timings make due is what the definition does
  due-left : keep (due found.timings now) (drop found.given (gaps_in m)) ≡ due_gaps now m.session.queue (gaps_in m)
  unfolding due_gaps
  due-left = rw (found-given, found-timings, ← not-given-up set set.mode (gaps_in m))

  nacks-are : nacks_refusal now m.session.queue (gaps_in m) ≡ or_else lost (nack_count_refusal (due_gaps now m.session.queue (gaps_in m)))
  unfolding nacks_refusal
  nacks-are = rw found-given

  pub lost-refused : (e : Refusal) → number e ≡ lost → number e ≡ nacks_refusal now m.session.queue (gaps_in m)
  lost-refused e h = or_else_refused e _ h ∙ sym nacks-are

  module _ (z : 0 ≡ lost) (b : Bool) (eb : b ≡ some? full (keep (due found.timings now) (drop found.given (gaps_in m)))) where
    full-is : refuse_if b COUNT ≡ nacks_refusal now m.session.queue (gaps_in m)
    unfolding nack_count_refusal
    full-is = rw (eb, due-left) (sym (nacks-are ∙ or_else_second _ _ (sym z)))

    pub count-refused : b ≡ true → COUNT ≡ nacks_refusal now m.session.queue (gaps_in m)
    unfolding refuse_if
    count-refused f = rw f at full-is

    pub count-passed : b ≡ false → 0 ≡ nacks_refusal now m.session.queue (gaps_in m)
    unfolding refuse_if
    count-passed f = rw f at full-is

-- ---- what `judge` and `begin` answer

-- an answer that is Ok where the refusal is 0, and else says it
module _ {A : Type 0} (a : A) (r : ℕ) where
  judged_err : (e : Refusal) → Err (number e) ≡ judged_by r a → number e ≡ r
  judged_err e = by_test (eqb r 0)
    where
      by_test : (b : Bool) → Err (number e) ≡ cond b (Ok a) (Err r) → number e ≡ r
      by_test true h = cc
      by_test false h = cc

  judged_ok : (b : A) → Ok b ≡ judged_by r a → (r ≡ 0) × (b ≡ a)
  judged_ok b = by_test (eqb r 0) refl
    where
      by_test : (t : Bool) → eqb r 0 ≡ t → Ok b ≡ cond t (Ok a) (Err r) → (r ≡ 0) × (b ≡ a)
      by_test true z h = (eqb-true r 0 z, cc)
      by_test false z h = cc

-- where it is not 0 nothing is altered
pub left_alone : (now r : ℕ) (m : Stored) (e : Refusal) → number e ≡ r → m ≡ drained_by r now m
unfolding drained_by
left_alone now r m e h = rw (← h, number_refuses e)

pub drained-by : (now r : ℕ) (m : Stored) → 0 ≡ r → drained_by r now m ≡ write (drained now (parse m))
unfolding drained_by
drained-by now r m z = rw (← z)

-- what check 16 passed
pub judging : (m : Stored) → session_sound m ≡ true → Judging m
unfolding parse
judging m h =
    let k = checked m h in
    record {
      room = k.room.gaps;
      small = timings-small m.session.queue _ refl (settings_in m k) k.sound.queue_in.rtx_in.rtt_in;
      instants = instants m k;
    }

pub small_are : (q : Queue) (t : NackTimings) → t ≡ timings_of q → Small (timings_of q) → Small t
small_are q t e h = subst Small (sym e) h

module _ (places now : ℕ) (m : Stored) where
  abbrev early : ℕ
  early = or_else (output_refusal m.session.queue.config.settings.max_gaps places) (clock_refusal m.session.queue now)

  -- 15 and 8, then 14
  later_chain : later_refusal places now m ≡ or_else early (nacks_refusal now m.session.queue (gaps_in m))
  unfolding poll_nack_refusal
  later_chain = assoc (output_refusal m.session.queue.config.settings.max_gaps places) (clock_refusal m.session.queue now) (nacks_refusal now m.session.queue (gaps_in m))

  pub judge_early : (e : Refusal) → number e ≡ early → number e ≡ later_refusal places now m
  judge_early e h = or_else_refused e _ h ∙ sym later_chain

  pub judge_late : 0 ≡ early → nacks_refusal now m.session.queue (gaps_in m) ≡ later_refusal places now m
  judge_late z = sym (later_chain ∙ or_else_second early _ (sym z))

  -- 16, then those
  pub begin_damaged : (e : Refusal) → number e ≡ session_refusal m → number e ≡ nack_refusal places now m
  unfolding nack_refusal
  begin_damaged e h = or_else_refused e (later_refusal places now m) h

  begin_judged : 0 ≡ session_refusal m → later_refusal places now m ≡ nack_refusal places now m
  unfolding nack_refusal
  begin_judged z = sym (or_else_second _ _ (sym z))

  module _ (z : 0 ≡ session_refusal m) where
    pub begin_late : (e : Refusal) → Err (number e) ≡ judged_by (later_refusal places now m) (found_in m) → number e ≡ nack_refusal places now m
    begin_late e h = judged_err (found_in m) (later_refusal places now m) e h ∙ begin_judged z

    module _ (found : Found) (h : Ok found ≡ judged_by (later_refusal places now m) (found_in m)) where
      passed : 0 ≡ nack_refusal places now m
      passed = sym (judged_ok (found_in m) (later_refusal places now m) found h).0 ∙ begin_judged z

      found_is : found ≡ found_in m
      found_is = (judged_ok (found_in m) (later_refusal places now m) found h).1

      pub begin-ok : Ok found.timings ≡ judged_by (nack_refusal places now m) (timings_of m.session.queue)
      begin-ok = rw (found-timings now m found found_is) (accepted_unless (timings_of m.session.queue) passed)

      module _ (m2 : Stored) (w : m2 ≡ write (parse m)) where
        still : Settled m2 × (parse m2 ≡ parse m)
        still = settled_of m m2 (passed_16 m (sym z)) w

        pub begin_settled : Settled m2 × (found.given ≡ length (given_up_of m2.session.queue.config.settings (gaps_in m2)))
        unfolding parse
        begin_settled = (still.0, found-given now m found found_is ∙ ap (λ (s : State). length (given_up_of s.queue.config.settings s.gaps)) (sym still.1))

        pub begun : (m3 : Stored) → m3 ≡ write (drained now (parse m2)) → m3 ≡ drained_by (nack_refusal places now m) now m
        begun m3 w3 = w3 ∙ ap (λ (s : State). write (drained now s)) still.1 ∙ sym (drained-by now (nack_refusal places now m) m passed)

-- ---- the NACKs, after `drain`

-- what the two loops over the gaps need, and the NACKs that they make
pub record Nacks (room now : ℕ) (m after : Stored) (t : NackTimings) : Type 0 where
  pub held : GapsIn after.storage.gaps after.session.gaps
  pub places : after.session.gaps ≤ room
  pub ascend : ascends (gap_numbers (gaps_in after)) ≡ true
  pub small : Small t
  pub instants : every? instants_fit (gaps_in after) ≡ true
  pub none_full : some? full (keep (due t now) (gaps_in after)) ≡ false
  pub due_are : keep (due t now) (gaps_in after) ≡ due_gaps now m.session.queue (gaps_in m)

module _ (now : ℕ) (m : Stored) (h : Settled m) (after : Stored) (w : after ≡ write (drained now (parse m))) where
  -- the NACKs are written into the gaps that are left
  nacked-leaves : (g : List ℕ) → g ≡ laid gap_words_of (length after.storage.gaps) (nack_due (timings_of m.session.queue) now (gaps_in after))
      → Leaves (after_poll_nack now (parse m)) m.storage (stored after.session after.storage.entries after.storage.payloads g after.storage.remembered)
  unfolding after_poll_nack nack_all drained_session drained parse write lose
  nacked-leaves g e =
      let k = holding m h in
      let t = m.storage in
      let a = after_is now m h after w in
      let words : g ≡ laid gap_words_of (length m.storage.gaps) (nack_due (timings_of m.session.queue) now (not_given_up m.session.queue.config.settings (gaps_in m))) = e ∙ rw (after-long now m h after w, after_gaps now m h after w) in
      record {
        session_is = rw (a, length-entries_of t.entries t.payloads m.session.entries, length-remembered_of t.remembered m.session.remembered, length-map);
        entries_are = rw a k.entries_in.held;
        payloads_are = rw a k.entries_in.filled;
        gaps_are = words;
        remembered_are = rw a k.remembered_in.held;
      }

  nacked-written : (g : List ℕ) → g ≡ laid gap_words_of (length after.storage.gaps) (nack_due (timings_of m.session.queue) now (gaps_in after))
      → stored after.session after.storage.entries after.storage.payloads g after.storage.remembered ≡ write (after_poll_nack now (parse m))
  unfolding after_poll_nack nack_all drained parse lose
  nacked-written g e = leaves_write m.storage (after_poll_nack now (parse m)) (holding m h).lengths _ (nacked-leaves g e)

abbrev done : Answer → Stored → List ℕ → Done
done a m out = record { answer = a; stored = m; output = out }

-- ---- any call that is refused as a `poll_nack` with an output of so many places

module _ (k : Call) (places now : ℕ) (m : Stored) (same : refusal k m ≡ nack_refusal places now m) where
  abbrev q : Queue
  q = m.session.queue

  -- a refusal that `begin` passes on
  pub begin_refused : {A : Type 0} (f : A → Answer) (r : Result A Refusal) (e : Refusal) → IsErrAnd r (λ x. x ≡ e) → Err (number e) ≡ judged_by (nack_refusal places now m) (timings_of q)
      → (m' : Stored) → m' ≡ drained_by (nack_refusal places now m) now m → Does k m (said f r) m' (output_of k)
  begin_refused f r e p h m' em =
      let n = judged_err (timings_of q) (nack_refusal places now m) e h in
      rw (em, ← left_alone now (nack_refusal places now m) m e n) (refused_said f k m r e p (n ∙ sym same))

  module _ (t : NackTimings) (h : Ok t ≡ judged_by (nack_refusal places now m) (timings_of q)) where
    z : nack_refusal places now m ≡ 0
    z = (judged_ok (timings_of q) (nack_refusal places now m) t h).0

    timings_are : t ≡ timings_of q
    timings_are = (judged_ok (timings_of q) (nack_refusal places now m) t h).1

    checks : (session_refusal m ≡ 0) × (0 ≡ or_else (output_refusal q.config.settings.max_gaps places) (clock_refusal q now)) × (nacks_refusal now q (gaps_in m) ≡ 0)
    unfolding nack_refusal
    checks =
        let a = or_else-none _ _ z in
        let b = or_else-none _ _ (sym (later_chain places now m) ∙ a.1) in (a.0, sym b.0, b.1)

    sound : session_sound m ≡ true
    sound = passed_16 m checks.0

    -- `begin` settles first
    abbrev m2 : Stored
    m2 = write (parse m)

    settled : Settled m2 × (parse m2 ≡ parse m)
    settled = settled_of m m2 sound refl

    module _ (after : Stored) (w : after ≡ drained_by (nack_refusal places now m) now m) where
      left-is : after ≡ write (drained now (parse m2))
      left-is = w ∙ drained-by now (nack_refusal places now m) m (sym z) ∙ ap (λ (s : State). write (drained now s)) (sym settled.1)

      pub nacks : Nacks places now m after t
      unfolding nacks_refusal nack_count_refusal refuse_if due_gaps parse write
      nacks =
          let j = judging m sound in
          let set = q.config.settings in
          let needed = set.max_gaps in
          let fewer : after.session.gaps ≤ length (parse m).gaps = after_fewer now m2 settled.0 after left-is in
          let stay : gaps_in after ≡ not_given_up set (gaps_in m) = after_gaps now m2 settled.0 after left-is ∙ ap (λ (s : State). not_given_up set s.gaps) settled.1 in
          let due_are : keep (due t now) (gaps_in after) ≡ due_gaps now q (gaps_in m) = rw (stay, timings_are) in
          record {
            held = after_held now m2 settled.0 after left-is;
            places = omega (arith, is-room q needed places now checks.1, (checked m sound).counts.gaps, fewer, parse-gaps m);
            ascend = after-ascend now m2 settled.0 after left-is;
            small = small_are q t timings_are j.small;
            instants = rw (stay, not-given-up set set.mode (gaps_in m)) (every_drop instants_fit (length (given_up_of set (gaps_in m))) (gaps_in m) (j.instants (omega (arith, is_timely q needed places now checks.1))));
            none_full = ap (some? full) due_are ∙ passes-last (some? full (due_gaps now q (gaps_in m))) COUNT (omega arith) (or_else-none _ _ checks.2).1;
            due_are = due_are;
          }

      -- what a call does that leaves what `poll_nack` leaves, with this answer and this output
      pub nacks_done : (a₀ : Answer) (o₀ : List ℕ) → accepted k (parse m) ≡ done a₀ (write (after_poll_nack now (parse m))) o₀
          → (a : Answer) (g o : List ℕ) → g ≡ laid gap_words_of (length after.storage.gaps) (nack_due t now (gaps_in after)) → a ≡ a₀ → o ≡ o₀
          → Does k m a (stored after.session after.storage.entries after.storage.payloads g after.storage.remembered) o
      unfolding parse write
      nacks_done a₀ o₀ ek a g o eg ea eo =
          let words = rw timings_are at eg in
          let left = nacked-written now m2 settled.0 after left-is g words ∙ ap (λ (s : State). write (after_poll_nack now s)) settled.1 in
          accepted-is k m 0 (sym (same ∙ z)) refl ∙ ek ∙ sym (rw (ea, eo, left))

-- ---- `poll_nack`, and the call on the wire, where four bytes are a place

module _ (now : ℕ) (m : Stored) (out : List ℕ) where
  pub list-refusal : refusal (poll_nack now out) m ≡ nack_refusal (length out) now m
  unfolding refusal call_refusal nack_refusal parse
  list-refusal = refl

  abbrev due' : List Gap
  due' = due_gaps now m.session.queue (gaps_in m)

  pub list-accepted : accepted (poll_nack now out) (parse m) ≡ done (nack_answer (length due')) (write (after_poll_nack now (parse m))) (over (map truncated due') out)
  unfolding accepted answered taken output_after nack_numbers parse
  list-accepted = refl

  pub wire-refusal : refusal (nack_wire now out) m ≡ nack_refusal (length out / entry_bytes) now m
  unfolding refusal call_refusal nack_refusal poll_nack_refusal parse
  wire-refusal = rw (wire-places m.session.queue.config.settings.max_gaps (length out))

  pub wire-accepted : accepted (nack_wire now out) (parse m) ≡ done (wire (length (entries (gap_numbers due')))) (write (after_poll_nack now (parse m))) (over (entries (gap_numbers due')) out)
  unfolding accepted answered taken output_after nack_entries_of parse
  wire-accepted = refl

-- how many, or nothing
pub some_count : (n : ℕ) → count_answer (then_some (ltb 0 n) n) ≡ nack_answer n
unfolding nack_answer
some_count zero = refl
some_count (suc n) = rw (lt-ltb 0 (suc n) (omega arith))
