-- The book's estimate is that of the samples which the calls yielded: a repair that yields one updates it so, and no other call moves it. The session
-- has the book's estimate, so what is shown of it keeps the bound that `rtx_state` proves of every list of samples.
use mathlib.Core.Path.{◌≡◌, refl, sym, ap, ◌∙◌, subst}
use mathlib.Core.Bool.{Bool, true, false, cond}
use mathlib.Core.List.{List, [], ◌∷◌, foldl, foldl-append}
use Prim.Native.Nat.{ℕ}
use native.Mathlib.Omega.{arith}
use lib.Dec.{eqb}
use lib.ListN.{length}
use Rattle.rtx_state.specs.declared.RtxRtt.{RtxRtt}
use Rattle.std.specs.Prelude.{Option, None, Some}
use Rattle.rtp_packet.specs.Header.{sequence_number, payload_of}
use Rattle.rtp_packet.specs.Original.{original_number}
use Rattle.rtx_state.specs.RoundTrip.{sampled_rtt, srtt_of}
use Rattle.rtx_state.specs.Repair as Rtx
use Rattle.rtx_state.specs.Drift.{Tracks}
use Rattle.rtx_state.proofs.Smoothed.{drift}
use Rattle.stats.specs.declared.RtpInboundRtxStats.{RtpInboundRtxStats}
use Rattle.model.specs.declared.Config.{Config}
use Rattle.model.specs.declared.Queue.{Queue}
use Rattle.model.specs.Lists.{some?}
use Rattle.model.specs.Rules.{is, Place, place_of, waits, overfull, gap_nacked_at, lost_nacked_at, sampled_at}
use Rattle.model.specs.Poll.{repair_figures_of}
use Rattle.model.specs.Storage.{Stored, parse}
use Rattle.model.specs.Calls.{Call, media, repair, poll, poll_nack, nack_wire, timeout_receive, timeout_nack, rtx_stats, highest_received, stats, answered}
use Rattle.model.specs.Table.{refusal}
use Rattle.model.specs.Did.{did, accepted, turned_back}
use Rattle.model.proofs.Lists.{by_cases}
use Rattle.book.specs.Book as B
use Rattle.book.specs.Book.{Heard, Book, empty, arrive, push_out_of, within_depth, on_media, recover, not_missing, on_repair, give_up, take_lowest, on_poll, nack_all, read, enter}
use Rattle.book.specs.Claim.{hear, Run, start, call, calls}
use Rattle.book.specs.Samples.{round_trip, sample_of, yields, samples_from, samples, ShownTracks}
use Rattle.book.proofs.States.{kept}
use Rattle.book.proofs.Theorem.{ran}

-- ---- one call

-- the estimate of b is that one
abbrev Moves : Option RtxRtt → Book → Type 0
Moves rtt b = b.estimate ≡ rtt

push_out-moves : (l : List ℕ) (b : Book) → (push_out_of l b).estimate ≡ b.estimate
unfolding push_out_of
push_out-moves [] b = refl
push_out-moves (w ∷ ws) b = refl

on_media-moves : (c : Config) (now n : ℕ) (p : Place) (b : Book) → (on_media c now n p b).estimate ≡ b.estimate
unfolding on_media within_depth arrive
on_media-moves c now n p b =
    by_cases (Moves b.estimate) (waits p)
    (λ w. let a = arrive now n p b in by_cases (Moves b.estimate) (overfull c.settings (length a.waiting)) (λ o. push_out-moves a.waiting a) (λ o. refl))
    (λ w. refl)

take_lowest-moves : (c : Config) (l : List ℕ) (b : Book) → (take_lowest c l b).estimate ≡ b.estimate
unfolding take_lowest
take_lowest-moves c [] b = refl
take_lowest-moves c (w ∷ ws) b = refl

on_poll-moves : (c : Config) (out : Bool) (b : Book) → (on_poll c out b).estimate ≡ b.estimate
unfolding on_poll give_up
on_poll-moves c true b = take_lowest-moves c b.waiting (give_up c b)
on_poll-moves c false b = refl

sampled-is : (now : ℕ) (o : Option ℕ) (rtt : Option RtxRtt) → sampled_at now o rtt ≡ foldl sampled_rtt rtt (round_trip now o)
unfolding sampled_at round_trip
sampled-is now None rtt = refl
sampled-is now (Some i) rtt = refl

on_repair-moves : (now n : ℕ) (b : Book) → (on_repair now n b).estimate ≡ foldl sampled_rtt b.estimate (sample_of now n b)
unfolding on_repair recover not_missing sample_of
on_repair-moves now n b = go (some? (is n) b.missing)
  where
    go : (m : Bool) → (cond m (recover now n b) (not_missing now n b)).estimate ≡ foldl sampled_rtt b.estimate (cond m (round_trip now (gap_nacked_at n b.missing)) (round_trip now (lost_nacked_at n b.remembered)))
    go true = sampled-is now (gap_nacked_at n b.missing) b.estimate
    go false = sampled-is now (lost_nacked_at n b.remembered) b.estimate

enter-moves : (c : Config) (k : Call) (h : Heard) (b : Book) → (enter c k h b).estimate ≡ foldl sampled_rtt b.estimate (yields k h b)
unfolding enter yields nack_all give_up
enter-moves c k B.refused b = refl
enter-moves c (media now d) (B.accepted out) b =
    let n = read b (sequence_number d) in on_media-moves c now n (place_of (B.highest b.span) b.missing n) b
enter-moves c (repair now d) (B.accepted out) b = on_repair-moves now (read b (original_number (payload_of d))) b
enter-moves c (poll now lent) (B.accepted out) b = on_poll-moves c out b
enter-moves c (poll_nack now lent) (B.accepted out) b = refl
enter-moves c (nack_wire now lent) (B.accepted out) b = refl
enter-moves c (timeout_receive now) (B.accepted out) b = refl
enter-moves c (timeout_nack now) (B.accepted out) b = refl
enter-moves c rtx_stats (B.accepted out) b = refl
enter-moves c highest_received (B.accepted out) b = refl

-- ---- any list of calls

estimate-from : (c : Config) (x : Run) (ks : List Call) → (foldl (call c) x ks).book.estimate ≡ foldl sampled_rtt x.book.estimate (samples_from c x ks)
unfolding samples_from call
estimate-from c x [] = refl
estimate-from c x (k ∷ ks) =
    let h = hear (did k x.stored).answer in
    estimate-from c (call c x k) ks
    ∙ ap (λ (rtt : Option RtxRtt). foldl sampled_rtt rtt (samples_from c (call c x k) ks)) (enter-moves c k h x.book)
    ∙ sym (foldl-append sampled_rtt x.book.estimate (yields k h x.book) (samples_from c (call c x k) ks))

estimate-is : (c : Config) (ks : List Call) → (calls c ks).book.estimate ≡ foldl sampled_rtt None (samples c ks)
unfolding calls start empty
estimate-is c ks = estimate-from c (start c) ks

-- ---- what is shown

figures_rtt : (m : Stored) (f : RtpInboundRtxStats) → (did rtx_stats m).answer ≡ stats (Some f) → f.rtt ≡ srtt_of (parse m).queue.rtx.rtt
unfolding did accepted turned_back answered repair_figures_of Rtx.rtx_stats
figures_rtt m f = go (eqb (refusal rtx_stats m) 0)
  where
    q : Queue
    q = (parse m).queue

    told : (rtx : Bool) → stats (cond rtx (Some (Rtx.rtx_stats q.rtx)) None) ≡ stats (Some f) → f.rtt ≡ srtt_of q.rtx.rtt
    told true e = let s : Rtx.rtx_stats q.rtx ≡ f = cc in ap (λ (x : RtpInboundRtxStats). x.rtt) (sym s)
    told false e = let z : ◌≡◌ {A = ℕ} 0 1 = cc in absurd (omega arith)

    go : (b : Bool) → (cond b (accepted rtx_stats (parse m)) (turned_back (refusal rtx_stats m) rtx_stats m)).answer ≡ stats (Some f) → f.rtt ≡ srtt_of q.rtx.rtt
    go true e = told q.config.senders.has_rtx e
    go false e = let z : ◌≡◌ {A = ℕ} 0 1 = cc in absurd (omega arith)

pub shown-tracks : ShownTracks
shown-tracks =
    record {
      shown =
          λ c t ks f o e.
          let x = calls c ks in
          let rtt : f.rtt ≡ srtt_of (foldl sampled_rtt None (samples c ks)) = figures_rtt x.stored f e ∙ ap srtt_of ((kept (ran c t ks o)).inv.same.estimate ∙ estimate-is c ks) in
          subst (λ (r : Option ℕ). Tracks r (samples c ks)) (sym rtt) (drift.tracks (samples c ks));
    }
