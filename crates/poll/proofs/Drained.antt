-- After `drain` the session holds what `drained` makes of it, and an entry can go out of it.
use mathlib.Core.Path.{◌≡◌, refl, sym, ap, ◌∙◌}
use mathlib.Core.Bool.{true}
use mathlib.Core.List.{List}
use Prim.Native.Nat.{ℕ, ◌+◌, ◌*◌, ◌^◌, ◌≤◌, ◌<◌}
use native.Mathlib.Omega.{arith}
use lib.ListN.{length}
use Rattle.words.specs.Blocks.{laid}
use Rattle.words.specs.Order.{ascends}
use Rattle.words.proofs.Lists.{map-drop}
use Rattle.words.proofs.Ordered.{ascends-drop}
use Rattle.packet_loss.specs.Loss.{record_lost}
use Rattle.config.specs.declared.Settings.{Settings}
use Rattle.config.specs.declared.RtpInboundQueueMode.{RtpInboundQueueMode}
use Rattle.config.specs.declared.RtpInboundQueueMode.TheVariants.{Passthrough, SortedQueue}
use Rattle.config.specs.Delay.{delay_in}
use Rattle.model.specs.declared.Queue.{Queue}
use Rattle.model.specs.Records.{Gap, gap_numbers}
use Rattle.model.specs.Rules.{given_up_of, given_up_in, not_given_up}
use Rattle.model.specs.Poll.{count_lost, estimate_of, delay_of, lose, drained_queue, drained, lost_under}
use Rattle.model.specs.Storage.{Stored, gap_words, gap_words_of, parse, write}
use Rattle.model.proofs.Laid.{length-entries_of, length-gaps_of, length-remembered_of, parse-write}
use Rattle.model.proofs.SoundCalls.{payloads-fit}
use Rattle.packet_gaps.specs.Gaps.{GapsIn}
use Rattle.entries.specs.Entries.{EntriesIn}
use Rattle.lost_nacked.specs.Remembered.{RememberedIn}
use Rattle.packet_gaps.proofs.Model.{laid-is, laid-length, laid_in}
use Rattle.model.specs.Contract.{stored}
use Rattle.storage.specs.Settled.{Settled}
use Rattle.poll.specs.Steps.{gaps_in, front, Handing, Leaves, drained_session}
use Rattle.storage.proofs.Checking.{Lengths}
use Rattle.storage.proofs.Settled.{holding}
use Rattle.poll.proofs.Holding.{leaves_write, lost_in}
use Rattle.poll.proofs.Parted.{given-up-le, given-few, not-given-up, length-not-given-up}

-- numbers are given up where there is no delay, so that the loss that they count for does not change it
pub delay-drained : (now : ℕ) (q : Queue) (gaps : List Gap) → delay_of (drained_queue now q gaps) ≡ delay_of q
unfolding delay_of lose given_up_in record_lost delay_in
delay-drained now q gaps = go q.config.settings.mode
  where
    go : (m : RtpInboundQueueMode)
        → delay_in m q.config.settings q.jitter (record_lost q.loss (length (given_up_in m q.config.settings gaps))) (estimate_of q) ≡ delay_in m q.config.settings q.jitter q.loss (estimate_of q)
    go Passthrough = refl
    go (SortedQueue sorted) = refl

module _ (now : ℕ) (m : Stored) (h : Settled m) where
  abbrev set : Settings
  set = m.session.queue.config.settings

  abbrev before : List Gap
  before = gaps_in m

  -- the gaps that stay
  abbrev pub stay : List Gap
  stay = not_given_up set before

  -- in the slice that `drain` leaves
  abbrev slice : List ℕ
  slice = laid gap_words_of (length m.storage.gaps) stay

  few : length stay ≤ m.session.gaps
  few = omega (arith, length-not-given-up set set.mode before, length-gaps_of m.storage.gaps m.session.gaps)

  room : gap_words * length stay ≤ length m.storage.gaps
  room = omega (arith, few, (holding m h).gaps_in.room)

  same_long : length slice ≡ length m.storage.gaps
  same_long = laid-length (length m.storage.gaps) (length stay) stay slice refl refl room

  -- the session and its storage after `drain`
  abbrev pub drained_stored : Stored
  drained_stored = stored (drained_session now m.session before) m.storage.entries m.storage.payloads slice m.storage.remembered

  drained_leaves : Leaves (drained now (parse m)) m.storage drained_stored
  unfolding drained_session drained parse write
  drained_leaves =
      let k = holding m h in
      let t = m.storage in
      record {
        session_is = rw (length-entries_of t.entries t.payloads m.session.entries, length-remembered_of t.remembered m.session.remembered);
        entries_are = k.entries_in.held;
        payloads_are = k.entries_in.filled;
        gaps_are = refl;
        remembered_are = k.remembered_in.held;
      }

  pub drained-written : drained_stored ≡ write (drained now (parse m))
  unfolding drained lose parse
  drained-written = leaves_write m.storage (drained now (parse m)) (holding m h).lengths drained_stored drained_leaves

  -- what `drain` asks, where the first k gaps are given up
  pub drain_fits : (k : ℕ) → k ≡ length (given_up_of set before) → (m.session.queue.counters.lost + k < 2 ^ 64) × GapsIn m.storage.gaps m.session.gaps × (k ≤ m.session.gaps)
  drain_fits k e = (omega (arith, given-few m k e, lost_in m (holding m h).checked), (holding m h).gaps_in, given-few m k e)

  -- what `drain` leaves
  module _ (after : Stored) (w : after ≡ write (drained now (parse m))) where
    pub after_is : after ≡ drained_stored
    after_is = w ∙ sym drained-written

    pub after-parsed : parse after ≡ drained now (parse m)
    unfolding drained
    after-parsed = ap parse w ∙ parse-write (drained now (parse m)) (payloads-fit (holding m h).checked.sound)

    pub after-lengths : Lengths set after.storage
    after-lengths =
        let l = (holding m h).lengths in
        rw after_is record { entries = l.entries; payloads = l.payloads; gaps = same_long ∙ l.gaps; remembered = l.remembered }

    pub after_gaps : gaps_in after ≡ stay
    unfolding drained_session
    after_gaps = rw after_is (laid-is (length m.storage.gaps) (length stay) stay slice refl refl room)

    pub after-ascend : ascends (gap_numbers (gaps_in after)) ≡ true
    after-ascend =
        let k = length (given_up_of set before) in
        ap (λ (l : List Gap). ascends (gap_numbers l)) (after_gaps ∙ not-given-up set set.mode before)
        ∙ ap ascends (map-drop (λ (x : Gap). x.number) k before)
        ∙ ascends-drop k (gap_numbers before) (holding m h).gaps-ascend

    pub after_held : GapsIn after.storage.gaps after.session.gaps
    unfolding drained_session
    after_held = rw after_is (laid_in (length m.storage.gaps) (length stay) stay slice refl refl room)

    pub after_fewer : after.session.gaps ≤ m.session.gaps
    unfolding drained_session
    after_fewer = rw after_is few

    pub after-long : length after.storage.gaps ≡ length m.storage.gaps
    after-long = rw after_is (same_long)

    lost_left : after.session.queue.counters.lost + after.session.gaps < 2 ^ 64
    unfolding drained_session lose count_lost
    lost_left =
        let k = holding m h in
        let l = length-not-given-up set set.mode before in
        let n = length-gaps_of m.storage.gaps m.session.gaps in
        let u = given-up-le set set.mode before in
        rw after_is (omega (arith, lost_in m k.checked, l, n, u))

    pub drained_handing : 0 < m.session.entries → (lost delay : ℕ) → lost ≡ length (lost_under after.session.queue.config.settings.mode (front after) (gaps_in after)) → lost ≤ after.session.gaps
        → delay ≡ delay_of after.session.queue → Handing lost delay after
    unfolding drained_session
    drained_handing some lost delay el ek ed =
        let k = holding m h in
        let a = after_is in
        let e : EntriesIn after.storage.entries after.storage.payloads after.session.entries = rw a k.entries_in in
        let r : RememberedIn after.storage.remembered after.session.remembered = rw a k.remembered_in in
        record {
          entries_held = e;
          some = rw a some;
          gaps_held = after_held;
          ascend = after-ascend;
          remembered_held = r;
          remembered_few = rw a k.checked.counts.remembered;
          room = omega (arith, after-lengths.remembered);
          lost_fits = lost_left;
          lost_are = el;
          lost_few = ek;
          delay_is = ed;
        }
