-- A working session never locks itself up: a newly opened session is sound, each call that is not refused leaves a sound one (`taken-sound`),
-- and what is written of a sound session is read as the same session, so check 16 passes it (`written`).
use mathlib.Core.Path.{◌≡◌, refl, sym, subst}
use mathlib.Core.Bool.{Bool, true, false, not, ◌&&◌}
use Prim.Native.Nat.{ℕ}
use native.Mathlib.Omega.{arith}
use lib.Dec.{T, lit<, lit≤}
use borrow.Author.Tests.{eq-eqb}
use lib.Ieee.Bits.{is_true}
use lib.Ieee.Fits.{and_l, and_r, and_i}
use Rattle.refusals.specs.Refusals.{SETTINGS, SESSION, refuse_if}
use Rattle.refusals.proofs.Laws.{or_else-none}
use Rattle.jitter.proofs.Range.{new_in as new-jitter}
use Rattle.packet_loss.proofs.Range.{new_in as new-loss}
use Rattle.rtx_state.specs.RoundTrip.{opt_rtt_in_range}
use Rattle.model.specs.declared.Config.{Config}
use Rattle.rtp.specs.Opt.{number_of}
use Rattle.model.specs.Records.{State, new_queue, new_state, highest_of}
use Rattle.model.specs.Valid.{last_sound, sound}
use Rattle.model.specs.Storage.{Storage, Stored, lengths_fit, parse, write}
use Rattle.model.specs.Calls.{Call, media, repair, poll, poll_nack, nack_wire, timeout_receive, timeout_nack, rtx_stats, highest_received, taken}
use Rattle.model.specs.Table.{config_valid, session_sound, session_refusal, call_refusal, refusal, opening_refusal}
use Rattle.model.specs.Did.{accepted, did}
use Rattle.model.proofs.Laid.{Fits, parse-write, lengths-write}
use Rattle.model.proofs.Lists.{not-not, Each, none, each_imp, empty}
use Rattle.model.specs.StaysSound.{StaysSound}
use Rattle.model.proofs.Sound.{Returned, Sound}
use Rattle.model.proofs.SoundTest.{sound_of, sound_to, fits_to, rate-small}
use Rattle.model.proofs.SoundQueue.{not-refused}
use Rattle.model.proofs.SoundPush.{media_sound, repair_sound}
use Rattle.model.proofs.SoundPoll.{poll_sound, poll_nack-sound}

-- ---- the opening

pub new_sound : (c : Config) → T (config_valid c) → Sound (new_state c)
unfolding new_state new_queue last_sound opt_rtt_in_range Returned highest_of number_of
new_sound c v =
    record {
      fits = record { entries_fit = omega arith; gaps-fit = omega arith; remembered-fit = omega arith };
      queue_in =
          record {
            config_in = v;
            last_in = tt;
            counters_in = record { dropped_fits = lit≤ tt; received-fits = lit≤ tt; bytes_fit = lit≤ tt; lost_fits = lit≤ tt };
            rtx_in = record { rtt_in = tt; in_time_fits = lit≤ tt; too_late_fits = lit≤ tt; redundant_fits = lit≤ tt; bytes_fit = lit≤ tt };
            jitter_in = new-jitter c.settings.clock_rate (omega (arith, rate-small c v));
            loss_in = new-loss;
          };
      lists_in = record { returned_in = tt; gaps_rise = empty; gaps_in = none; entries_rise = empty; entries_in = none; apart = none; remembered_in = none };
    }

-- ---- each call

pub taken-sound : (k : Call) (s : State) → Sound s → call_refusal k s ≡ 0 → Sound (taken k s)
unfolding call_refusal taken
taken-sound (media now d) s h e = media_sound now d s h e
taken-sound (repair now d) s h e = repair_sound now d s h e
taken-sound (poll now out) s h e = poll_sound now out s h e
taken-sound (poll_nack now out) s h e = poll_nack-sound _ _ now s h e
taken-sound (nack_wire now out) s h e = poll_nack-sound _ _ now s h e
taken-sound (timeout_receive now) s h e = h
taken-sound (timeout_nack now) s h e = h
taken-sound rtx_stats s h e = h
taken-sound highest_received s h e = h

-- ---- written and read again

pub payloads-fit : {s : State} → Sound s → Each Fits s.entries
unfolding Fits
payloads-fit h = each_imp (λ e k. k.payload-fits) h.lists_in.entries_in

passes : (b : Bool) (k : ℕ) → T b → refuse_if (not b) k ≡ 0
unfolding refuse_if
passes true k t = refl
passes false k t = absurd t

written : (s : State) → Sound s → session_refusal (write s) ≡ 0
unfolding session_refusal session_sound write
written s h =
    let set = s.queue.config.settings in
    let fit = lengths-write s (payloads-fit h) (is_true _ (fits_to s h.fits)) in
    passes (session_sound (write s)) SESSION
    (and_i (config_valid s.queue.config) (lengths_fit set (write s).storage && sound (parse (write s))) h.queue_in.config_in
    (and_i (lengths_fit set (write s).storage) (sound (parse (write s))) (subst T (sym fit) tt) (subst (λ (x : State). T (sound x)) (sym (parse-write s (payloads-fit h))) (sound_to s h))))

-- a session that check 16 passes is sound
pub sound-session : (m : Stored) → session_refusal m ≡ 0 → Sound (parse m)
unfolding session_refusal session_sound parse
sound-session m e =
    let c = m.session.queue.config in
    let rest = lengths_fit c.settings m.storage && sound (parse m) in
    let t = not-not (config_valid c && rest) (not-refused (not (config_valid c && rest)) SESSION (lit< tt) e) in
    sound_of (parse m) (and_l (config_valid c) rest t) (and_r (lengths_fit c.settings m.storage) (sound (parse m)) (and_r (config_valid c) rest t))

-- so is the session that an accepted call finds, and the one that it leaves
pub accepted-sound : (k : Call) (m : Stored) → refusal k m ≡ 0 → Sound (parse m)
unfolding refusal
accepted-sound k m e = sound-session m (or_else-none _ _ e).0

pub left-sound : (k : Call) (m : Stored) → refusal k m ≡ 0 → Sound (taken k (parse m))
unfolding refusal
left-sound k m e = taken-sound k (parse m) (accepted-sound k m e) (or_else-none _ _ e).1

-- an accepted call leaves what is written of `taken`
pub did-taken : (k : Call) (m : Stored) → refusal k m ≡ 0 → (did k m).stored ≡ write (taken k (parse m))
unfolding did accepted
did-taken k m e = rw (eq-eqb (refusal k m) 0 e)

-- settings that the opening takes
pub config_of_lem : (c : Config) (t : Storage) → opening_refusal c t ≡ 0 → T (config_valid c)
unfolding opening_refusal
config_of_lem c t e = not-not (config_valid c) (not-refused (not (config_valid c)) SETTINGS (lit< tt) (or_else-none _ _ e).0)

pub stays-sound : StaysSound
stays-sound =
    record {
      at_opening = λ c t e. written (new_state c) (new_sound c (config_of_lem c t e));
      at_call = λ k m e. subst (λ (x : Stored). session_refusal x ≡ 0) (sym (did-taken k m e)) (written (taken k (parse m)) (left-sound k m e));
    }
