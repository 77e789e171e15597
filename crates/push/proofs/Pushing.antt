-- `push` step by step: check, judge, settle, apply; each check's number is `did`'s, and an accepted packet is placed as `did` says.
use mathlib.Core.Path.{◌≡◌, refl, sym, ap, ◌∙◌}
use mathlib.Core.Bool.{true}
use mathlib.Core.List.{List, []}
use Prim.Native.Nat.{ℕ, ◌≤◌}
use native.Mathlib.Omega.{arith}
use lib.ListN.{length}
use Rattle.std.specs.Prelude.{Result, Ok, Err, Some, IsErrAnd}
use Rattle.std.proofs.lemmas.Result.{err_from_is_err_and}
use Rattle.refusals.specs.declared.Refusal.{Refusal}
use Rattle.refusals.specs.Refusals.{number, refuse_if, or_else}
use Rattle.refusals.proofs.Laws.{or_else_second, or_else_refused, or_else-none, number-nonzero}
use Rattle.durations.specs.Seconds.{largest}
use Rattle.rtp_packet.specs.declared.RtpPacket.{RtpPacket}
use Rattle.rtp_packet.specs.Header.{between, payload_of}
use Rattle.rtp_packet.specs.Datagram.{largest_payload, datagram_refusal, packet_of}
use Rattle.rtp_packet.proofs.Bounds.{payload_of-packet, payload-fits}
use Rattle.model.specs.Records.{Entry}
use Rattle.model.specs.Rules.{Place}
use Rattle.model.specs.Push.{Fate, extended_entry, media_entry_of, media_place, after_media}
use Rattle.model.specs.Storage.{Stored, arrival_word, parse, write}
use Rattle.model.specs.Calls as Calls
use Rattle.model.specs.Calls.{Answer, media, placed_answer, answered, taken, output_of, output_after}
use Rattle.model.specs.Table.{refusal, call_refusal, packet_refusal, refusal_at, fate_refusal, refusal_for, media_refusal, clock_refusal, session_sound, session_refusal}
use Rattle.model.specs.Did.{did, accepted}
use Rattle.model.proofs.Laid.{parse-entries, parse-gaps}
use Rattle.model.proofs.SoundQueue.{clock_of}
use Rattle.entries.specs.declared.Entry as Row
use Rattle.entries.specs.Entries.{entry, Incoming}
use Rattle.session.specs.declared.push.Place as Code
use Rattle.session.specs.Place.{place}
use Rattle.storage.specs.Settled.{Settled}
use Rattle.storage.proofs.Settled.{checked, refused-is, accepted-is}
use Rattle.push.specs.declared.Found.{Found}
use Rattle.push.specs.declared.Accepted.{Accepted}
use Rattle.push.specs.Media.{Readable, Read, FoundIn, JudgedAs, Fit, placed_by}

-- what `?` passes on is the refusal that it was given
pub passed : {A : Type 0} (r : Result A Refusal) (e : Refusal) → IsErrAnd r (λ x. x ≡ e) → r ≡ Err e
passed r e h = let p = err_from_is_err_and r h in rw (p.1, p.2) refl

-- what the session says of the lists is what the state has
pub refusal-at : (m : Stored) (e : Row.Entry) (payload : List ℕ) (p : Place) → e.size ≡ length payload
    → packet_refusal m.session.queue m.session.entries m.session.gaps e.timestamp.0 e.number.0 e.size p ≡ refusal_at (entry e payload) p (parse m)
unfolding parse
refusal-at m e payload p size = rw (size, parse-entries m, parse-gaps m)

pub refusal_for_lem : (m : Stored) (e : Row.Entry) (payload : List ℕ) (f : Fate) → e.size ≡ length payload
    → fate_refusal m.session.queue m.session.entries e.timestamp.0 e.number.0 e.size f ≡ refusal_for (entry e payload) f (parse m)
unfolding parse
refusal_for_lem m e payload f size = rw (size, parse-entries m)

pub incoming_of : (e : Row.Entry) (payload : List ℕ) (instant : ℕ) → e.size ≡ length payload → e.arrival ≡ Some instant → instant ≤ largest → length payload ≤ largest_payload → Incoming e payload
unfolding arrival_word
incoming_of e payload instant size came h fit = record { size = size; fits = fit; arrival = rw came (omega arith) }

-- ---- the datagram

-- the part of it that is its payload
pub payload-is : (d : List ℕ) (p : RtpPacket) (payload : List ℕ) → payload ≡ between p.start p.end d → p ≡ packet_of d → payload ≡ payload_of d
payload-is d p payload e h = e ∙ ap (λ (q : RtpPacket). between q.start q.end d) h ∙ payload_of-packet d

-- ---- check: what row 16 gives

pub readable : (m : Stored) → session_sound m ≡ true → Readable m.session m.storage.gaps
unfolding parse
readable m h =
    let k = checked m h in
    record { few = k.counts.gaps; room = k.room.gaps; ascend = k.lists.gaps-ascend }

-- ---- judge

module _ (instant : ℕ) (d : List ℕ) (m : Stored) where
  abbrev unread : ℕ
  unread = datagram_refusal m.session.queue.config.senders.pt m.session.queue.config.senders.ssrc.0 largest_payload d

  abbrev later : ℕ
  later = refusal_at (media_entry_of instant d (parse m).queue) (media_place (parse m) (media_entry_of instant d (parse m).queue).number) (parse m)

  chain : media_refusal instant d (parse m) ≡ or_else (clock_refusal m.session.queue instant) (or_else unread later)
  unfolding media_refusal parse
  chain = refl

  pub judged_late : (e : Refusal) → number e ≡ clock_refusal m.session.queue instant → JudgedAs instant d (parse m) (Err e)
  unfolding JudgedAs
  judged_late e h = chain ∙ sym (or_else_refused e (or_else unread later) h)

  pub judged_unread : (e : Refusal) → 0 ≡ clock_refusal m.session.queue instant → unread ≡ number e → JudgedAs instant d (parse m) (Err e)
  unfolding JudgedAs
  judged_unread e z h = chain ∙ or_else_second (clock_refusal m.session.queue instant) (or_else unread later) (sym z) ∙ sym (or_else_refused e later (sym h))

  module _ (p : RtpPacket) (r : Read instant d p m.session.queue) (e : Row.Entry) (payload : List ℕ) (part : payload ≡ payload_of d)
      (is : (b : List ℕ) → entry e b ≡ extended_entry m.session.queue (Some instant) p.timestamp.0 p.sequence_number.0 p.marker b)
      (size : e.size ≡ length payload) (pl : Code.Place) (at : place pl ≡ media_place (parse m) e.number.0) (k : ℕ)
      (hk : k ≡ packet_refusal m.session.queue m.session.entries m.session.gaps e.timestamp.0 e.number.0 e.size (place pl)) where
    becomes : entry e (payload_of d) ≡ media_entry_of instant d (parse m).queue
    unfolding media_entry_of packet_of parse
    becomes = is (payload_of d) ∙ rw r.packet

    last : media_refusal instant d (parse m) ≡ k
    last =
        chain ∙ or_else_second (clock_refusal m.session.queue instant) (or_else unread later) r.in_time ∙ or_else_second unread later r.whole
        ∙ rw (← becomes, ← at) (sym (hk ∙ refusal-at m e (payload_of d) (place pl) (size ∙ ap length part)))

    pub judged_full : (x : Refusal) → k ≡ number x → JudgedAs instant d (parse m) (Err x)
    unfolding JudgedAs
    judged_full x h = last ∙ h

    pub judged_found : k ≡ 0 → e.arrival ≡ Some instant → JudgedAs instant d (parse m) (Ok (record { instant = instant; packet = p; entry = e; place = pl }))
    unfolding JudgedAs
    judged_found z came =
        let in_time = (clock_of m.session.queue instant r.in_time).1 in
        let fits = payload-fits _ _ largest_payload d r.whole in
        (refl, record { accepted = last ∙ z; packet = r.packet; becomes = becomes; stands = at; incoming = incoming_of e (payload_of d) instant (size ∙ ap length part) came in_time fits })

-- ---- apply

module _ (a : Accepted) (d : List ℕ) (m : Stored) (part : a.payload.now ≡ payload_of d) (h : FoundIn a.found d (parse m)) where
  abbrev f : Found
  f = a.found

  abbrev payload : List ℕ
  payload = a.payload.now

  becomes_with : entry f.entry payload ≡ media_entry_of f.instant d (parse m).queue
  becomes_with = ap (entry f.entry) part ∙ h.becomes

  abbrev media_entry : Entry
  media_entry = media_entry_of f.instant d (parse m).queue

  refused_as : refusal_at (entry f.entry payload) (place f.place) (parse m) ≡ refusal_at media_entry (media_place (parse m) media_entry.number) (parse m)
  refused_as =
      ap (λ (x : Entry). refusal_at x (place f.place) (parse m)) becomes_with
      ∙ ap (λ (q : Place). refusal_at media_entry q (parse m)) (h.stands ∙ ap (λ (x : Entry). media_place (parse m) x.number) h.becomes)

  pub fit_of : Settled m → Fit a m
  unfolding media_refusal
  fit_of s =
      record {
        settled = s;
        stands = h.stands;
        accepted = refused_as ∙ (or_else-none _ _ (or_else-none _ _ h.accepted).1).1;
        incoming = rw part h.incoming;
      }

  pub answered_as : (answer : Answer) → answer ≡ placed_answer (place f.place) → answer ≡ answered (media f.instant d) (parse m)
  unfolding answered
  answered_as answer e = e ∙ rw (h.stands, ← h.becomes)

  pub taken_as : (after : Stored) → after ≡ placed_by a m → after ≡ write (taken (media f.instant d) (parse m))
  unfolding taken after_media
  taken_as after e = e ∙ rw (h.stands, part, ← h.becomes)

-- ---- the whole call: refused, or applied to storage that is read as the same state

module _ (instant : ℕ) (d : List ℕ) (m : Stored) where
  pub push_damaged : (e : Refusal) → number e ≡ session_refusal m → did (media instant d) m ≡ record { answer = Calls.refused (number e); stored = m; output = [] }
  unfolding output_of refusal
  push_damaged e h = refused-is (media instant d) m (number e) (or_else_refused e _ h) (number-nonzero e)

  module _ (h : session_sound m ≡ true) where
    none_of_16 : refusal (media instant d) m ≡ media_refusal instant d (parse m)
    unfolding refusal call_refusal session_refusal refuse_if or_else
    none_of_16 = rw h

    pub judged_refused : (e : Refusal) → JudgedAs instant d (parse m) (Err e) → number e ≡ refusal (media instant d) m
    unfolding JudgedAs
    judged_refused e j = sym (none_of_16 ∙ j)

    pub push_applied : (f : Found) → JudgedAs instant d (parse m) (Ok f) → (m2 after : Stored) (a : Answer) → parse m2 ≡ parse m → a ≡ answered (media f.instant d) (parse m2) → after ≡ write (taken (media f.instant d) (parse m2))
        → did (media instant d) m ≡ record { answer = a; stored = after; output = [] }
    unfolding JudgedAs accepted output_after
    push_applied f j m2 after a same ha hw =
        let zero : refusal (media instant d) m ≡ 0 = none_of_16 ∙ rw (← j.0) j.1.accepted in
        accepted-is (media instant d) m 0 (sym zero) refl ∙ rw (ha, hw, same, j.0)
