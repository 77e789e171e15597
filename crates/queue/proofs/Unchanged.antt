-- The calls that leave the session as it is: what they answer is read of the settled storage, which holds the lists that came.
use mathlib.Core.Path.{◌≡◌, refl, sym, ap, ◌∙◌}
use mathlib.Core.Bool.{true}
use mathlib.Core.List.{List, [], ◌∷◌, zip_with}
use Prim.Native.Nat.{ℕ, zero, suc, ◌*◌, ◌≤◌, ◌<◌}
use native.Mathlib.Omega.{arith}
use lib.Dec.{T}
use lib.ListN.{length, take, drop}
use Rattle.words.specs.Blocks.{blocks}
use Rattle.model.specs.declared.Received.{Received}
use Rattle.std.specs.Prelude.{Option, None, Some}
use Rattle.durations.specs.Seconds.{largest}
use Rattle.refusals.specs.Refusals.{or_else}
use Rattle.refusals.proofs.Laws.{or_else-first, or_else-none}
use Rattle.config.specs.declared.RtpInboundQueueMode.{RtpInboundQueueMode}
use Rattle.config.specs.declared.RtpInboundStreamSortedQueueMode.{RtpInboundStreamSortedQueueMode}
use Rattle.config.specs.declared.RtpInboundQueueMode.TheVariants.{Passthrough, SortedQueue}
use Rattle.rtx_state.specs.RoundTrip.{opt_rtt_in_range}
use Rattle.packet_loss.specs.Loss.{loss_in_range}
use Rattle.config.specs.Valid.{settings_valid}
use Rattle.model.specs.Records.{Entry, State}
use Rattle.model.specs.Lists.{every?}
use Rattle.model.specs.Poll.{timings_of, timeout_in, receive_timeout_of, nack_timeout_of}
use Rattle.model.specs.Valid.{last_sound}
use Rattle.model.specs.Storage.{Stored, entry_words, payload_bytes, gap_words, entry_of, entries_of, parse, write}
use Rattle.model.specs.Calls as Calls
use Rattle.model.specs.Calls.{Answer, Call, taken, answered, output_after}
use Rattle.model.specs.Table.{session_sound, session_refusal, clock_refusal, call_refusal, refusal}
use Rattle.model.specs.Did.{accepted}
use Rattle.model.proofs.Lists.{Each, each_first, each_imp}
use Rattle.model.proofs.SoundQueue.{clock_of, last-later}
use Rattle.packet_gaps.specs.Gaps.{instants_fit, Small}
use Rattle.session.proofs.Bounds.{timings-small}
use Rattle.model.specs.Contract.{Does}
use Rattle.storage.specs.Settled.{Settled}
use Rattle.storage.proofs.Settled.{Checked, checked, settled_of, settings_in, instants, accepted-is, passed_16}

pub alone : (a : ℕ) → a ≡ or_else a 0
unfolding or_else
alone zero = refl
alone (suc a) = sym (or_else-first (suc a) 0 (λ e. omega arith))

-- an accepted call of which nothing remains but the zeros
pub left_as_is : (k : Call) (m x : Stored) (a : Answer) (r : ℕ) → r ≡ refusal k m → r ≡ 0
    → taken k (parse m) ≡ parse m → output_after k (parse m) ≡ [] → answered k (parse m) ≡ a → x ≡ write (parse m) → Does k m a x []
unfolding accepted
left_as_is k m x a r e z t o b w = accepted-is k m r e z ∙ rw (t, o, b, w)

-- the same where the answer is read of what is left
pub left_settled_as_is : (k : Call) (m x : Stored) (a : Answer) (r : ℕ) → r ≡ refusal k m → r ≡ 0 → session_sound m ≡ true
    → taken k (parse m) ≡ parse m → output_after k (parse m) ≡ [] → answered k (parse x) ≡ a → x ≡ write (parse m) → Does k m a x []
left_settled_as_is k m x a r e z h t o b w = left_as_is k m x a r e z t o (ap (answered k) (sym (settled_of m x h w).1) ∙ b) w

-- ---- the front entry's timeout

module _ (mode : RtpInboundQueueMode) (rate delay : ℕ) (last : Option Received) (words bytes : List ℕ) (n now : ℕ) where
  empty : (mode : RtpInboundQueueMode) (last : Option Received) → None ≡ timeout_in mode rate delay last [] now
  unfolding timeout_in
  empty Passthrough last = refl
  empty (SortedQueue sorted) None = refl
  empty (SortedQueue sorted) (Some r) = refl

  pub empty-timeout : n ≡ 0 → None ≡ timeout_in mode rate delay last (entries_of words bytes n) now
  unfolding entries_of blocks zip_with
  empty-timeout e = rw e (empty mode last)

  first : (n : ℕ) → (n ≡ 0 → ⊥) → (P : List Entry → Type 0) → ((es : List Entry) → P (entry_of (take entry_words words) (take payload_bytes bytes) ∷ es)) → P (entries_of words bytes n)
  unfolding entries_of blocks zip_with
  first zero ne P f = absurd (ne refl)
  first (suc k) ne P f = f (entries_of (drop entry_words words) (drop payload_bytes bytes) k)

  module _ (ne : n ≡ 0 → ⊥) where
    pub waiting-timeout : mode ≡ Passthrough → Some 0 ≡ timeout_in mode rate delay last (entries_of words bytes n) now
    unfolding timeout_in
    waiting-timeout e = rw e (first n ne (λ (l : List Entry). Some 0 ≡ timeout_in Passthrough rate delay last l now) (λ es. refl))

    pub front_timeout : (sorted : RtpInboundStreamSortedQueueMode) → mode ≡ SortedQueue sorted → (t : ℕ) (r : Option ℕ) → ((p : List ℕ) → (entry_of (take entry_words words) p).timestamp ≡ t)
        → ((e : Entry) (es : List Entry) → e.timestamp ≡ t → r ≡ timeout_in (SortedQueue sorted) rate delay last (e ∷ es) now)
        → r ≡ timeout_in mode rate delay last (entries_of words bytes n) now
    front_timeout sorted e t r ts f = rw e (first n ne (λ (l : List Entry). r ≡ timeout_in (SortedQueue sorted) rate delay last l now) (λ es. f _ es (ts (take payload_bytes bytes))))

-- ---- what a timeout needs

front_fits : (words bytes : List ℕ) (n : ℕ) → Each (λ (e : Entry). e.timestamp ≤ largest) (entries_of words bytes n) → 0 < n
    → (p : List ℕ) → (entry_of (take entry_words words) p).timestamp ≤ largest
unfolding entries_of blocks zip_with entry_of
front_fits words bytes zero h lt p = absurd (omega arith)
front_fits words bytes (suc n) h lt p = each_first h

module _ (m : Stored) (now : ℕ) (h : or_else (session_refusal m) (clock_refusal m.session.queue now) ≡ 0) where
  pub timely_sound : session_sound m ≡ true
  timely_sound = passed_16 m (or_else-none (session_refusal m) (clock_refusal m.session.queue now) h).0

  -- what is left of it, settled
  module _ (x : Stored) (w : x ≡ write (parse m)) where
    left_settled : Settled x
    left_settled = (settled_of m x timely_sound w).0

    same_lists : parse x ≡ parse m
    same_lists = (settled_of m x timely_sound w).1

    held_in : Checked x
    held_in = checked x left_settled.sound

    clock : (x.session.queue.clock ≤ now) × (now ≤ largest)
    unfolding parse
    clock =
        let c = clock_of m.session.queue now (or_else-none (session_refusal m) (clock_refusal m.session.queue now) h).1 in
        (rw (ap (λ (s : State). s.queue.clock) same_lists) c.0, c.1)

    pub receive_timed : (T (settings_valid x.session.queue.config.settings) × T (last_sound now x.session.queue.last) × (now ≤ largest))
        × (T (loss_in_range x.session.queue.loss) × T (opt_rtt_in_range x.session.queue.rtx.rtt))
        × (entry_words * x.session.entries ≤ length x.storage.entries)
        × (0 < x.session.entries → (b : List ℕ) → (entry_of (take entry_words x.storage.entries) b).timestamp ≤ largest)
    unfolding parse
    receive_timed =
        let s = held_in.sound in
        let l : Each (λ (e : Entry). e.timestamp ≤ largest) (parse x).entries = each_imp (λ e i. i.timestamp-fits) s.lists_in.entries_in in
        ((settings_in x held_in, last-later x.session.queue.last clock.0 s.queue_in.last_in, clock.1), (s.queue_in.loss_in, s.queue_in.rtx_in.rtt_in), held_in.room.entries, front_fits x.storage.entries x.storage.payloads x.session.entries l)

    pub received-timeout : (t : Option ℕ) → t ≡ receive_timeout_of x.session.queue (parse x).entries now → Does (Calls.timeout_receive now) m (Calls.timeout t) x []
    unfolding taken output_after answered refusal call_refusal parse
    received-timeout t f =
        left_as_is (Calls.timeout_receive now) m x (Calls.timeout t) 0 (sym h) refl refl refl (ap Calls.timeout (sym (f ∙ ap (λ (s : State). receive_timeout_of s.queue s.entries now) same_lists))) w

    pub nack-ready : (gap_words * x.session.gaps ≤ length x.storage.gaps) × ((every? instants_fit (parse x).gaps ≡ true) × Small (timings_of x.session.queue))
    unfolding parse
    nack-ready =
        (held_in.room.gaps, (instants x held_in (omega (arith, clock)), timings-small x.session.queue (timings_of x.session.queue) refl (settings_in x held_in) held_in.sound.queue_in.rtx_in.rtt_in))

    pub nacked-timeout : (t : Option ℕ) → t ≡ nack_timeout_of (timings_of x.session.queue) now (parse x).gaps → Does (Calls.timeout_nack now) m (Calls.timeout t) x []
    unfolding taken output_after answered refusal call_refusal parse
    nacked-timeout t f =
        left_as_is (Calls.timeout_nack now) m x (Calls.timeout t) 0 (sym h) refl refl refl (ap Calls.timeout (sym (f ∙ ap (λ (s : State). nack_timeout_of (timings_of s.queue) now s.gaps) same_lists))) w
