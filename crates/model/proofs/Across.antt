-- One bit of payload type or sender leaves a datagram whose checks before 6 pass, and a pair that is one bit away from the session's own. So a
-- sender that is not one bit away is not its own either: 6 or 7 catches it.
use mathlib.Core.Path.{◌≡◌, refl, sym, ◌∙◌}
use mathlib.Core.Logic.{⊎_elim}
use mathlib.Core.Bool.{Bool, true, false, not, ◌&&◌}
use mathlib.Core.List.{List}
use Prim.Native.Nat.{ℕ, ◌+◌, ◌%◌, ◌≤◌, ◌<◌}
use native.Mathlib.Omega.{arith}
use lib.Dec.{eqb, leb, ltb}
use lib.ListN.{length}
use borrow.Author.Tests.{eqb-true, eqb-false, leb-true, ltb-true, ltb-false, not-false}
use Rattle.std.proofs.lemmas.Bool.{or_cases}
use Rattle.words.proofs.Ordered.{and_left, and_right}
use Rattle.refusals.specs.Refusals.{CLOCK, no_rtx, refuse_if, or_else}
use Rattle.refusals.proofs.Laws.{or_else-first, or_else_second, or_else-none, passes-last}
use Rattle.config.specs.declared.Senders.{Senders}
use Rattle.rtp_packet.specs.Header.{byte, bit, payload_type_of, ssrc, payload_of}
use Rattle.rtp_packet.specs.Datagram.{largest_payload, largest_repair, datagram_refusal}
use Rattle.rtp_packet.specs.OneBit.{flipped, flip_bit, in_version, in_payload_type, in_ssrc}
use Rattle.rtp_packet.proofs.BigEndian.{big_endian-same}
use Rattle.rtp_packet.proofs.Refused.{Whole, accepted, wrong_version, too_large, wrong_type, wrong_ssrc}
use Rattle.rtp_packet.proofs.Alike.{Alike, same_whole}
use Rattle.rtp_packet.proofs.Flip.{flipped-version, flip_length, flip_at_lem, flip_other}
use Rattle.model.specs.Lists.{some?}
use Rattle.model.specs.Records.{State}
use Rattle.model.specs.Storage.{parse}
use Rattle.model.specs.Calls.{Call, media, repair}
use Rattle.model.specs.Table.{refusal, call_refusal, clock_refusal, rtx_refusal, media_refusal, repair_refusal}
use Rattle.model.specs.Across.{bits_apart, senders_apart, least_bits, two_bits_apart, guarded, EachByte, flipped_numbers, Across, FlippedAcross}
use Rattle.model.proofs.Flipped.{refused_does}
use Rattle.model.proofs.Apart.{apart_self, apart-sym, apart_low, apart-bytes, flip_at, flip_apart, flip_small}

-- ---- the flipped byte

flipped-is : (i k : ℕ) (d : List ℕ) → flipped i k d ≡ flip_at k (byte d i)
unfolding flipped bit flip_at
flipped-is i k d = refl

module _ (i k : ℕ) (d : List ℕ) (here : i < length d) (bytes : EachByte d) where
  byte-is : byte (flip_bit i k d) i ≡ flip_at k (byte d i)
  byte-is = flip_at_lem i k d here ∙ flipped-is i k d

  flip_bytes : k ≤ 7 → EachByte (flip_bit i k d)
  flip_bytes h j = go (eqb j i) refl
    where
      go : (t : Bool) → eqb j i ≡ t → byte (flip_bit i k d) j < 256
      go true e = let same : j ≡ i = eqb-true j i e in rw (same, byte-is) (flip_small k 8 (byte d i) (omega arith) (bytes i))
      go false e = rw (flip_other i k j d (eqb-false j i e)) (bytes j)

-- ---- payload type and sender, together one bit away

abbrev apart : List ℕ → List ℕ → ℕ
apart d e = bits_apart 7 (payload_type_of d) (payload_type_of e) + bits_apart 32 (ssrc d) (ssrc e)

module _ (k : ℕ) (d : List ℕ) (long : 12 ≤ length d) (bytes : EachByte d) where
  type_apart : k ≤ 6 → apart d (flip_bit 1 k d) ≡ 1
  type_apart h =
      let low : bits_apart 7 (byte d 1 % 128) (flip_at k (byte d 1) % 128) ≡ 1 = sym (apart_low 7 (byte d 1) (flip_at k (byte d 1))) ∙ flip_apart k 7 (byte d 1) (omega arith) in
      let same : ssrc (flip_bit 1 k d) ≡ ssrc d = big_endian-same 4 8 (flip_bit 1 k d) d (λ j lo hi. flip_other 1 k j d (λ z. omega arith)) in
      rw (byte-is 1 k d (omega arith) bytes, same, apart_self 32 (ssrc d), low)

  ssrc-apart : (i : ℕ) → 8 ≤ i → i ≤ 11 → k ≤ 7 → apart d (flip_bit i k d) ≡ 1
  ssrc-apart i lo hi h =
      let one : bits_apart 8 (byte d i) (byte (flip_bit i k d) i) ≡ 1 = rw (byte-is i k d (omega arith) bytes) (flip_apart k 8 (byte d i) (omega arith)) in
      let all : bits_apart 32 (ssrc d) (ssrc (flip_bit i k d)) ≡ 1 =
      apart-bytes 4 8 i d (flip_bit i k d) bytes (flip_bytes i k d (omega arith) bytes h) lo (omega arith) (λ l n. flip_other i k l d n) one in
      rw (flip_other i k 1 d (λ z. omega arith), apart_self 7 (payload_type_of d), all)

-- ---- the reader's part

unfoldable pub Among : ℕ → Type 0
Among n = some? (eqb n) flipped_numbers ≡ true

module _ (t s most : ℕ) (d : List ℕ) (own : datagram_refusal t s most d ≡ 0) (bytes : EachByte d) (type sender largest : ℕ) (far : bits_apart 7 t type + bits_apart 32 s sender ≡ 1 → ⊥) where
  -- a bit that moves the pair
  moved : (i k : ℕ) → 1 ≤ i → i ≤ 11 → apart d (flip_bit i k d) ≡ 1 → Among (datagram_refusal type sender largest (flip_bit i k d))
  unfolding Among some?
  moved i k lo hi one =
      let a = accepted t s most d own in
      let e : List ℕ = flip_bit i k d in
      let like : Alike d e = record { same_length = flip_length i k d; same_first = flip_other i k 0 d (λ z. omega arith); same_rest = λ j h. flip_other i k j d (λ z. omega arith) } in
      let w = same_whole d e like a.whole in
      by_size w (ltb largest (length (payload_of e))) refl (rw (a.right_type, a.right_ssrc) at one)
    where
      by_size : Whole (flip_bit i k d) → (x : Bool) → ltb largest (length (payload_of (flip_bit i k d))) ≡ x
          → bits_apart 7 t (payload_type_of (flip_bit i k d)) + bits_apart 32 s (ssrc (flip_bit i k d)) ≡ 1 → Among (datagram_refusal type sender largest (flip_bit i k d))
      by_size w true x one = rw (too_large type sender largest (flip_bit i k d) w (ltb-true _ _ x))
      by_size w false x one = by_type (eqb (payload_type_of (flip_bit i k d)) type) refl
        where
          fits : length (payload_of (flip_bit i k d)) ≤ largest
          fits = ltb-false _ _ x

          by_type : (y : Bool) → eqb (payload_type_of (flip_bit i k d)) type ≡ y → Among (datagram_refusal type sender largest (flip_bit i k d))
          by_type false y = rw (wrong_type type sender largest (flip_bit i k d) w fits (eqb-false _ _ y))
          by_type true y =
              let right : payload_type_of (flip_bit i k d) ≡ type = eqb-true _ _ y in
              rw (wrong_ssrc type sender largest (flip_bit i k d) w fits right (λ z. far (rw (← right, ← z) one)))

  -- of any other type and sender that are not one bit away
  pub caught : (i k : ℕ) → guarded i k ≡ true → Among (datagram_refusal type sender largest (flip_bit i k d))
  unfolding guarded in_version in_payload_type in_ssrc Among some?
  caught i k g = ⊎_elim version (λ r. ⊎_elim kind sender_bit (or_cases _ _ r)) (or_cases _ _ g)
    where
      w : Whole d
      w = (accepted t s most d own).whole

      version : in_version i k ≡ true → Among (datagram_refusal type sender largest (flip_bit i k d))
      version g =
          let at_i = and_left (eqb i 0 && leb 6 k) (leb k 7) g in
          let zeroth : i ≡ 0 = eqb-true i 0 (and_left (eqb i 0) (leb 6 k) at_i) in
          let high : 6 ≤ k = leb-true 6 k (and_right (eqb i 0) (leb 6 k) at_i) in
          rw (zeroth, wrong_version type sender largest (flip_bit 0 k d) (rw (flip_length 0 k d) w.fixed_part) (λ v. flipped-version 0 k d high w.is-version_2 (rw (flip_at_lem 0 k d (omega (arith, w.fixed_part))) at v)))

      kind : in_payload_type i k ≡ true → Among (datagram_refusal type sender largest (flip_bit i k d))
      kind g =
          let first : i ≡ 1 = eqb-true i 1 (and_left (eqb i 1) (leb k 6) g) in
          rw first (moved 1 k (omega arith) (omega arith) (type_apart k d w.fixed_part bytes (leb-true k 6 (and_right (eqb i 1) (leb k 6) g))))

      sender_bit : in_ssrc i k ≡ true → Among (datagram_refusal type sender largest (flip_bit i k d))
      sender_bit g =
          let at_i = and_left (leb 8 i && leb i 11) (leb k 7) g in
          let lo : 8 ≤ i = leb-true 8 i (and_left (leb 8 i) (leb i 11) at_i) in
          let hi : i ≤ 11 = leb-true i 11 (and_right (leb 8 i) (leb i 11) at_i) in
          moved i k (omega arith) hi (ssrc-apart k d w.fixed_part bytes i lo hi (leb-true k 7 (and_right (leb 8 i && leb i 11) (leb k 7) g)))

-- ---- the calls

-- a number of the list is not 0
among_some : (n : ℕ) → Among n → n ≡ 0 → ⊥
unfolding Among some?
among_some n a z = let y : ◌≡◌ {A = Bool} false true = rw z at a in let x : ◌≡◌ {A = ℕ} 0 1 = cc in omega arith

-- checks before it keep it in the list
after-clock : (t : Bool) (n : ℕ) → Among n → Among (or_else (refuse_if t CLOCK) n)
unfolding Among some? or_else refuse_if
after-clock true n a = refl
after-clock false n a = a

after_rtx : (t : Bool) (n : ℕ) → Among n → Among (or_else (refuse_if t no_rtx) n)
unfolding Among some? or_else refuse_if
after_rtx true n a = refl
after_rtx false n a = a

without_rtx : (t : Bool) (n : ℕ) → t ≡ false → Among (or_else (refuse_if (not t) no_rtx) n)
unfolding Among some? or_else refuse_if
without_rtx t n z = rw z

before : (n rest : ℕ) → Among n → Among (or_else n rest)
before n rest a = rw (or_else-first n rest (among_some n a)) a

module _ (s : State) (instant : ℕ) (e : List ℕ) where
  abbrev senders : Senders
  senders = s.queue.config.senders

  at_push : Among (datagram_refusal senders.pt senders.ssrc.0 largest_payload e) → Among (call_refusal (media instant e) s)
  unfolding call_refusal media_refusal clock_refusal
  at_push a = after-clock _ _ (before _ _ a)

  at-push_rtx : Among (datagram_refusal senders.rtx_pt senders.rtx_ssrc.0 largest_repair e) → Among (call_refusal (repair instant e) s)
  unfolding call_refusal repair_refusal clock_refusal rtx_refusal
  at-push_rtx a = after-clock _ _ (after_rtx _ _ (before _ _ a))

  no_rtx_lem : senders.has_rtx ≡ false → Among (call_refusal (repair instant e) s)
  unfolding call_refusal repair_refusal clock_refusal rtx_refusal
  no_rtx_lem z = after-clock _ _ (without_rtx _ _ z)

-- what a call that is not refused says of the datagram
media_own : (now : ℕ) (d : List ℕ) (s : State) → call_refusal (media now d) s ≡ 0
    → let x = s.queue.config.senders in datagram_refusal x.pt x.ssrc.0 largest_payload d ≡ 0
unfolding call_refusal media_refusal
media_own now d s e = (or_else-none _ _ (or_else-none _ _ e).1).0

repair_own : (now : ℕ) (d : List ℕ) (s : State) → call_refusal (repair now d) s ≡ 0
    → let x = s.queue.config.senders in (datagram_refusal x.rtx_pt x.rtx_ssrc.0 largest_repair d ≡ 0) × (x.has_rtx ≡ true)
unfolding call_refusal repair_refusal rtx_refusal
repair_own now d s e = let x = or_else-none _ _ (or_else-none _ _ e).1 in ((or_else-none _ _ x.1).0, not-false _ (passes-last _ no_rtx (omega arith) x.0))

-- a sender is not one bit away from itself, nor from one that is two bits away
not_own : (t s : ℕ) → bits_apart 7 t t + bits_apart 32 s s ≡ 1 → ⊥
not_own t s e = omega (arith, apart_self 7 t, apart_self 32 s)

not-other : (s : Senders) → two_bits_apart s ≡ true → s.has_rtx ≡ true → senders_apart s ≡ 1 → ⊥
unfolding two_bits_apart
not-other s far r e = omega (arith, leb-true least_bits (senders_apart s) (rw r at far))

not_back : (s : Senders) → two_bits_apart s ≡ true → s.has_rtx ≡ true → bits_apart 7 s.rtx_pt s.pt + bits_apart 32 s.rtx_ssrc.0 s.ssrc.0 ≡ 1 → ⊥
not_back s far r e = not-other s far r (rw (apart-sym 7 s.pt s.rtx_pt, apart-sym 32 s.ssrc.0 s.rtx_ssrc.0) e)

-- ---- of a state, then of a stored session

abbrev pub AcrossStates : (one other : ℕ → List ℕ → Call) → Type 0
AcrossStates one other =
    (now : ℕ) (d : List ℕ) (s : State) → EachByte d → call_refusal (one now d) s ≡ 0 → two_bits_apart s.queue.config.senders ≡ true
    → (i k : ℕ) → guarded i k ≡ true → (instant : ℕ) → Among (call_refusal (other instant (flip_bit i k d)) s)

pub media_at_push : AcrossStates media media
media_at_push now d s b e far i k g j = at_push s j _ (caught _ _ _ d (media_own now d s e) b _ _ _ (not_own _ _) i k g)

pub media_at_push_rtx : AcrossStates media repair
media_at_push_rtx now d s b e far i k g j = go s.queue.config.senders.has_rtx refl
  where
    go : (t : Bool) → s.queue.config.senders.has_rtx ≡ t → Among (call_refusal (repair j (flip_bit i k d)) s)
    go true r = at-push_rtx s j _ (caught _ _ _ d (media_own now d s e) b _ _ _ (not-other _ far r) i k g)
    go false r = no_rtx_lem s j _ r

pub repair_at_push : AcrossStates repair media
repair_at_push now d s b e far i k g j = let o = repair_own now d s e in at_push s j _ (caught _ _ _ d o.0 b _ _ _ (not_back _ far o.1) i k g)

pub repair_at_push_rtx : AcrossStates repair repair
repair_at_push_rtx now d s b e far i k g j = at-push_rtx s j _ (caught _ _ _ d (repair_own now d s e).0 b _ _ _ (not_own _ _) i k g)

stored : (one other : ℕ → List ℕ → Call) → AcrossStates one other → Across one other
unfolding Among refusal parse
stored one other law now d m b e far i k g j =
    let q = or_else-none _ _ e in
    let c = other j (flip_bit i k d) in
    let a : Among (refusal c m) = rw (or_else_second _ _ q.0) (law now d (parse m) b q.1 far i k g j) in
    (a, refused_does (refusal c m) c m (omega (arith, among_some (refusal c m) a)) refl)

pub flipped_across : FlippedAcross
flipped_across =
    record {
      media_at_push = stored media media media_at_push;
      media_at_push_rtx = stored media repair media_at_push_rtx;
      repair_at_push = stored repair media repair_at_push;
      repair_at_push_rtx = stored repair repair repair_at_push_rtx;
    }
