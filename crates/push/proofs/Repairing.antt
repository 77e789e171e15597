-- `push_rtx` from the datagram to its answer: each check's number is `did`'s, in 01's order, and an accepted repair is applied as `did` says.
use mathlib.Core.Path.{◌≡◌, refl, sym, ◌∙◌}
use mathlib.Core.Bool.{Bool, true, false, cond}
use mathlib.Core.List.{List, []}
use Prim.Native.Nat.{ℕ}
use lib.Dec.{eqb}
use borrow.Author.Tests.{eqb-true, eqb-false}
use Rattle.std.specs.Prelude.{None}
use Rattle.refusals.specs.declared.Refusal.{Refusal}
use Rattle.refusals.specs.Refusals.{number, or_else}
use Rattle.refusals.proofs.Laws.{or_else-first, or_else_second, or_else_refused, number_refuses}
use Rattle.rtp_packet.specs.declared.RtpPacket.{RtpPacket}
use Rattle.rtp_packet.specs.Header.{payload_of}
use Rattle.rtp_packet.specs.Datagram.{largest_repair, datagram_refusal, packet_of}
use Rattle.rtp_packet.specs.Original.{original_refusal, original_number, original_payload}
use Rattle.model.specs.Push.{extended_entry, repair_entry, repair_fate, after_repair}
use Rattle.model.specs.Storage.{Stored, parse}
use Rattle.model.specs.Calls as Calls
use Rattle.model.specs.Calls.{repair, answered, taken, output_of, output_after}
use Rattle.model.specs.Table.{refusal, call_refusal, original_number_refusal, refusal_for, repair_refusal, clock_refusal, rtx_refusal, media_first_refusal, session_refusal}
use Rattle.model.specs.Did.{Done, did, accepted, turned_back}
use Rattle.push.specs.Repair.{did_fate, did_repair, did_original}
use Rattle.storage.proofs.Settled.{assoc, refused-is}

-- ---- 10, then 11

module _ (instant : ℕ) (p : RtpPacket) (payload : List ℕ) (m : Stored) where
  abbrev first : ℕ
  first = media_first_refusal m.session.queue

  pub original_early : (k : Refusal) → number k ≡ first → did_original instant p payload m ≡ record { answer = Calls.refused (number k); stored = m; output = [] }
  unfolding did_original original_number_refusal
  original_early k e = rw (← or_else_refused k (original_refusal payload) e, number_refuses k)

  module _ (z : first ≡ 0) where
    pub original-refused-is : (k : Refusal) → original_refusal payload ≡ number k → did_original instant p payload m ≡ record { answer = Calls.refused (number k); stored = m; output = [] }
    unfolding did_original original_number_refusal
    original-refused-is k e = let o : or_else first (original_refusal payload) ≡ number k = or_else_second first (original_refusal payload) z ∙ e in rw (o, number_refuses k)

    pub original-is : (n : ℕ) (rest : List ℕ) (done : Done) → original_refusal payload ≡ 0 → n ≡ original_number payload → rest ≡ original_payload payload → did_repair instant (extended_entry m.session.queue None p.timestamp.0 n p.marker rest) m ≡ done → did_original instant p payload m ≡ done
    unfolding did_original original_number_refusal
    original-is n rest done e hn hr h = let o : or_else first (original_refusal payload) ≡ 0 = or_else_second first (original_refusal payload) z ∙ e in rw (o, ← hn, ← hr) h

-- ---- the datagram

-- r is what the checks before it come to: 16, 8 and 9
module _ (instant : ℕ) (d : List ℕ) (m : Stored) (r : ℕ) (e : r ≡ or_else (or_else (session_refusal m) (clock_refusal m.session.queue instant)) (rtx_refusal m.session.queue)) where
  abbrev datagram : ℕ
  datagram = datagram_refusal m.session.queue.config.senders.rtx_pt m.session.queue.config.senders.rtx_ssrc.0 largest_repair d

  abbrev later : ℕ
  later = or_else (original_number_refusal m.session.queue (payload_of d)) (refusal_for (repair_entry d m.session.queue) (repair_fate (parse m) (repair_entry d m.session.queue).number) (parse m))

  chain : refusal (repair instant d) m ≡ or_else r (or_else datagram later)
  unfolding refusal call_refusal repair_refusal parse
  chain = assoc (session_refusal m) _ _ ∙ assoc _ (rtx_refusal m.session.queue) _ ∙ rw (← e)

  pub repair_early : (k : Refusal) → number k ≡ r → number k ≡ refusal (repair instant d) m
  repair_early k h = or_else_refused k _ h ∙ sym chain

  module _ (z : r ≡ 0) where
    pub repair_unread : (k : Refusal) → datagram ≡ number k → number k ≡ refusal (repair instant d) m
    repair_unread k h = or_else_refused k later (sym h) ∙ sym (chain ∙ or_else_second r _ z)

    reads : datagram ≡ 0 → refusal (repair instant d) m ≡ or_else (original_number_refusal m.session.queue (payload_of d)) (refusal_for (repair_entry d m.session.queue) (repair_fate (parse m) (repair_entry d m.session.queue).number) (parse m))
    reads hk = chain ∙ or_else_second r _ z ∙ or_else_second datagram later hk

    same-entry : extended_entry m.session.queue None (packet_of d).timestamp.0 (original_number (payload_of d)) (packet_of d).marker (original_payload (payload_of d)) ≡ repair_entry d m.session.queue
    unfolding repair_entry packet_of
    same-entry = refl

    read_as : refusal (repair instant d) m ≡ refusal_for (repair_entry d (parse m).queue) (repair_fate (parse m) (repair_entry d (parse m).queue).number) (parse m) → did (repair instant d) m ≡ did_repair instant (repair_entry d (parse m).queue) m
    unfolding did accepted turned_back answered taken output_of output_after after_repair did_repair did_fate
    read_as h = rw h

    -- 10 and 11 decide, or what follows them
    joined : (a b : ℕ) → refusal (repair instant d) m ≡ or_else a b → b ≡ refusal_for (repair_entry d m.session.queue) (repair_fate (parse m) (repair_entry d m.session.queue).number) (parse m)
        → did (repair instant d) m ≡ cond (eqb a 0) (did_repair instant (repair_entry d m.session.queue) m) (record { answer = Calls.refused a; stored = m; output = [] })
    unfolding output_of parse
    joined a b ha hb = go (eqb a 0) refl
      where
        go : (t : Bool) → eqb a 0 ≡ t → did (repair instant d) m ≡ cond t (did_repair instant (repair_entry d m.session.queue) m) (record { answer = Calls.refused a; stored = m; output = [] })
        go true y = read_as (ha ∙ or_else_second a b (eqb-true a 0 y) ∙ hb)
        go false y = refused-is (repair instant d) m a (sym (ha ∙ or_else-first a b (eqb-false a 0 y))) (eqb-false a 0 y)

    pub repair_read : (p : RtpPacket) (payload : List ℕ) (done : Done) → datagram ≡ 0 → p ≡ packet_of d → payload ≡ payload_of d → did_original instant p payload m ≡ done → did (repair instant d) m ≡ done
    unfolding did_original
    repair_read p payload done hk hp hb h = joined _ _ (reads hk) refl ∙ rw (← same-entry, ← hp, ← hb) h
