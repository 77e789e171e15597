-- What `poll` does to a settled session: after `drain` nothing goes out, or the first entry does; and the call whole.
use mathlib.Core.Path.{◌≡◌, refl, sym, ap, ◌∙◌}
use mathlib.Core.Bool.{Bool, true, false}
use mathlib.Core.List.{List, [], ◌∷◌}
use Prim.Native.Nat.{ℕ, ◌+◌, ◌*◌, ◌^◌, ◌≤◌, ◌<◌}
use native.Mathlib.Omega.{arith}
use lib.ListN.{length, take, drop}
use Rattle.std.specs.Bool.{then_some}
use Rattle.std.specs.Prelude.{None, Some, unwrap_or}
use Rattle.words.specs.Words.{over}
use Rattle.words.proofs.Over.{over_nil}
use Rattle.refusals.specs.declared.Refusal.{Refusal}
use Rattle.refusals.specs.Refusals.{number, or_else}
use Rattle.refusals.proofs.Laws.{or_else_second, or_else_refused}
use Rattle.rtp_packet.specs.Datagram.{largest_payload}
use Rattle.model.specs.Records.{Entry}
use Rattle.model.specs.Rules.{given_up_of}
use Rattle.model.specs.Poll.{delay_of, lose, drained, hands_out, going_out, lost_under, hand_out, after_poll}
use Rattle.model.specs.Storage.{Stored, entry_words, payload_bytes, entry_of, parse, write}
use Rattle.model.specs.Calls.{Answer, poll, nothing, taken, answered, output_after, handed, packet_of, payload_out}
use Rattle.model.specs.Table.{session_sound, session_refusal, output_refusal, clock_refusal, count_refusal, lost_with, poll_refusal, call_refusal, refusal}
use Rattle.model.specs.Did.{Done, did, accepted}
use Rattle.model.proofs.Laid.{parse-gaps}
use Rattle.storage.specs.Settled.{Settled}
use Rattle.storage.proofs.Settled.{assoc, accepted-is, passed_16, checked, settled_of, settings_in, last_in}
use Rattle.poll.specs.declared.Effect.{Effect}
use Rattle.poll.specs.Steps.{entries_in, gaps_in, front, Polling, Handing, Leaves, effect_for, drained_session}
use Rattle.poll.proofs.Early.{is-room, is_timely}
use Rattle.poll.proofs.Holding.{leaves_write, lost_in}
use Rattle.poll.proofs.Drained.{delay-drained, after_is, after-parsed, after-lengths, after_gaps, after-ascend, drained_handing}
use Rattle.poll.proofs.Handed.{lost-few}
use Rattle.poll.proofs.Fronts.{first-is, hands_held}
use Rattle.poll.proofs.Losing.{due-counts, due-few}

-- the first entry, where there is one
unfoldable first_of : Stored → Entry
first_of m = entry_of (take entry_words (drop (entry_words * 0) m.storage.entries)) (take payload_bytes m.storage.payloads)

counted_none : (b : Bool) (n : ℕ) → None ≡ then_some b n → b ≡ false
counted_none true n e = cc
counted_none false n e = refl

counted_some : (b : Bool) (n k : ℕ) → Some k ≡ then_some b n → (b ≡ true) × (k ≡ n)
counted_some true n k e = (refl, cc)
counted_some false n k e = (cc, cc)

-- ---- from `drain` to the answer

module _ (now : ℕ) (m : Stored) (h : Settled m) (due : Effect) (ed : due ≡ effect_for now (parse m)) where
  pub given_are : due.given ≡ length (given_up_of m.session.queue.config.settings (gaps_in m))
  unfolding effect_for parse
  given_are = ap (λ (d : Effect). d.given) ed

  abbrev goes : Bool
  goes = hands_out now m.session.queue (entries_in m)

  abbrev below : ℕ
  below = length (lost_under m.session.queue.config.settings.mode (going_out now (parse m) (entries_in m)) (drained now (parse m)).gaps)

  -- where the front entry goes out there is a count of those below it
  lost-is : due.lost ≡ then_some goes below
  unfolding effect_for parse
  lost-is = ap (λ (d : Effect). d.lost) ed

  goes_none : due.lost ≡ None → goes ≡ false
  goes_none n = counted_none goes below (sym n ∙ lost-is)

  goes_some : (lost : ℕ) → due.lost ≡ Some lost → (goes ≡ true) × (lost ≡ below)
  goes_some lost n = counted_some goes below lost (sym n ∙ lost-is)

  -- after `drain`
  module _ (after : Stored) (w : after ≡ write (drained now (parse m))) (out : List ℕ) where
    pub nothing_out : due.lost ≡ None → accepted (poll now out) (parse m) ≡ record { answer = nothing; stored = after; output = out }
    unfolding accepted answered taken output_after after_poll going_out hand_out handed payload_out parse
    nothing_out n = rw (goes_none n, over_nil out) (ap (λ (x : Stored). record { answer = nothing; stored = x; output = out }) (sym w))

    module _ (lost : ℕ) (n : due.lost ≡ Some lost) where
      some : m.session.entries ≡ 0 → ⊥
      some = hands_held now m (goes_some lost n).0

      first : front m ≡ first_of m ∷ []
      unfolding first_of
      first = first-is m.storage.entries m.storage.payloads m.session.entries some

      first-after : front after ≡ first_of m ∷ []
      unfolding drained_session
      first-after = rw (after_is now m h after w) first

      out-is : going_out now (parse m) (parse m).entries ≡ first_of m ∷ []
      unfolding going_out parse
      out-is = rw (goes_some lost n).0 first

      -- the gaps below it are those that were counted before `drain`
      is_lost : lost ≡ length (lost_under after.session.queue.config.settings.mode (front after) (gaps_in after))
      unfolding drained_session drained lose parse
      is_lost = (goes_some lost n).1 ∙ rw (out-is, first-after, after_gaps now m h after w, after_is now m h after w)

      -- and so is the delay
      same-delay : delay_of after.session.queue ≡ delay_of m.session.queue
      unfolding drained_session
      same-delay = rw (after_is now m h after w) (delay-drained now m.session.queue (gaps_in m))

      is-delay : due.delay ≡ delay_of after.session.queue
      unfolding effect_for parse
      is-delay = ap (λ (d : Effect). d.delay) ed ∙ sym same-delay

      -- they are no more than there are
      is_few : lost ≤ after.session.gaps
      unfolding lost_under
      is_few = lost-few after.session.queue.config.settings.mode after.storage.gaps after.session.gaps (first_of m).number lost (after-ascend now m h after w) (is_lost ∙ rw first-after)

      pub is_handing : Handing lost due.delay after
      is_handing = let s = some in drained_handing now m h after w (omega arith) lost due.delay is_lost is_few is-delay

      same_answer : handed after.session.queue (first_of m ∷ []) ≡ handed m.session.queue (first_of m ∷ [])
      unfolding handed packet_of drained_session lose
      same_answer = rw (same-delay, after_is now m h after w)

      handed-written : (m' : Stored) → Leaves (hand_out (first_of m ∷ []) (drained now (parse m))) after.storage m' → m' ≡ write (hand_out (first_of m ∷ []) (drained now (parse m)))
      unfolding hand_out drained lose parse
      handed-written m' l = leaves_write after.storage (hand_out (first_of m ∷ []) (drained now (parse m))) (after-lengths now m h after w) m' l

      pub packet_out : (a : Answer) (m' : Stored) (o : List ℕ)
          → Leaves (hand_out (front after) (parse after)) after.storage m'
          → a ≡ handed after.session.queue (front after)
          → o ≡ over (payload_out (front after)) out
          → accepted (poll now out) (parse m) ≡ record { answer = a; stored = m'; output = o }
      unfolding accepted answered taken output_after after_poll parse
      packet_out a m' o l ea eo =
          let l' = rw (first-after, after-parsed now m h after w) at l in
          let w' = handed-written m' l' in
          let ha = ea ∙ ap (handed after.session.queue) first-after ∙ same_answer in
          let ho = eo ∙ ap (λ (e : List Entry). over (payload_out e) out) first-after in
          rw (out-is, ha, w', ho)

-- ---- the call

module _ (now : ℕ) (m : Stored) (out : List ℕ) where
  abbrev early : ℕ
  early = or_else (output_refusal largest_payload (length out)) (clock_refusal m.session.queue now)

  -- 14
  abbrev counts : ℕ
  counts = count_refusal ((m.session.queue.counters.lost + length (lost_with now (parse m) (going_out now (parse m) (parse m).entries))) ∷ [])

  chain : refusal (poll now out) m ≡ or_else (session_refusal m) (or_else early counts)
  unfolding refusal call_refusal poll_refusal parse
  chain = ap (or_else (session_refusal m)) (assoc (output_refusal largest_payload (length out)) (clock_refusal m.session.queue now) counts)

  pub poll-16 : (e : Refusal) → number e ≡ session_refusal m → number e ≡ refusal (poll now out) m
  poll-16 e h = or_else_refused e (or_else early counts) h ∙ sym chain

  module _ (z : 0 ≡ session_refusal m) where
    poll_sound : session_sound m ≡ true
    poll_sound = passed_16 m (sym z)

    after-16 : refusal (poll now out) m ≡ or_else early counts
    after-16 = chain ∙ or_else_second (session_refusal m) (or_else early counts) (sym z)

    pub poll-15-8 : (e : Refusal) → number e ≡ early → number e ≡ refusal (poll now out) m
    poll-15-8 e h = or_else_refused e counts h ∙ sym after-16

    module _ (y : 0 ≡ early) where
      pub polling : Polling now m
      unfolding parse
      polling =
          let k = checked m poll_sound in
          record {
            entries_room = k.room.entries;
            gaps_room = k.room.gaps;
            ascend = k.lists.gaps-ascend;
            timely = is_timely m.session.queue largest_payload (length out) now y;
            settings_in = settings_in m k;
            last_in = last_in m k;
            loss_in = k.sound.queue_in.loss_in;
            rtt_in = k.sound.queue_in.rtx_in.rtt_in;
          }

      module _ (due : Effect) (ed : due ≡ effect_for now (parse m)) where
        pub poll_fits : m.session.queue.counters.lost + (due.given + unwrap_or due.lost 0) < 2 ^ 64
        poll_fits =
            let k = checked m poll_sound in
            omega (arith, due-few now (parse m) due ed k.lists.gaps-ascend, parse-gaps m, lost_in m k)

        after-8 : refusal (poll now out) m ≡ count_refusal ((m.session.queue.counters.lost + (due.given + unwrap_or due.lost 0)) ∷ [])
        after-8 = after-16 ∙ or_else_second early counts (sym y) ∙ sym (ap (λ (n : ℕ). count_refusal ((m.session.queue.counters.lost + n) ∷ [])) (due-counts now (parse m) due ed))

        pub poll-14 : (e : Refusal) → number e ≡ count_refusal ((m.session.queue.counters.lost + (due.given + unwrap_or due.lost 0)) ∷ []) → number e ≡ refusal (poll now out) m
        poll-14 e h = h ∙ sym after-8

        module _ (m2 : Stored) (w : m2 ≡ write (parse m)) where
          pub poll_taken : Settled m2 × (due ≡ effect_for now (parse m2)) × (payload_bytes ≤ length out)
          poll_taken =
              let k = settled_of m m2 poll_sound w in
              (k.0, ed ∙ ap (effect_for now) (sym k.1), is-room m.session.queue largest_payload (length out) now y)

          pub poll_done : 0 ≡ count_refusal ((m.session.queue.counters.lost + (due.given + unwrap_or due.lost 0)) ∷ []) → (done : Done) → accepted (poll now out) (parse m2) ≡ done → did (poll now out) m ≡ done
          poll_done b done d = accepted-is (poll now out) m 0 (b ∙ sym after-8) refl ∙ ap (accepted (poll now out)) (sym (settled_of m m2 poll_sound w).1) ∙ d
