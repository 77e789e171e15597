-- One datagram of a burst: an accepted call leaves the session settled (`StaysSound`), and a refused one leaves it as it stood, and its
-- number is below 255.
use mathlib.Core.Path.{◌≡◌, refl, sym, ap, subst, ◌∙◌}
use mathlib.Core.Logic.{◌⊎◌, inl, inr, ⊎_elim}
use mathlib.Core.Bool.{Bool, true, false, cond}
use mathlib.Core.List.{List}
use Prim.Native.Nat.{ℕ, ◌<◌}
use native.Mathlib.Omega.{arith}
use lib.Dec.{eqb, lit<}
use borrow.Author.Tests.{eqb-true}
use Rattle.std.specs.Prelude.{Result, Ok, Err}
use Rattle.refusals.specs.declared.Refusal.{Refusal}
use Rattle.refusals.specs.Refusals.{number, TRUNCATED, VERSION, PADDING, payload_too_large, payload_type, SSRC, CLOCK, gaps_full, COUNT, SESSION, refuse_if, or_else}
use Rattle.rtp_packet.specs.Datagram.{datagram_refusal}
use Rattle.model.specs.Storage.{Stored, parse, write}
use Rattle.model.specs.Calls.{Call, Answer, media, refused, queued, dropped, taken}
use Rattle.model.specs.Table.{refusal, call_refusal, media_refusal, packet_refusal, count_refusal, clock_refusal, session_sound, session_refusal}
use Rattle.model.specs.Did.{Done, did, turned_back}
use Rattle.model.specs.Contract.{Does}
use Rattle.model.proofs.Laid.{parse-write}
use Rattle.model.proofs.SoundCalls.{payloads-fit, left-sound, did-taken, stays-sound}
use Rattle.storage.specs.Settled as storage
use Rattle.storage.proofs.Settled.{passed_16}
use Rattle.push.specs.declared.Media.{Media}
use Rattle.push.specs.Answers.{media_answer}
use Rattle.burst.specs.declared.Standing.{Standing}
use Rattle.burst.specs.Standing.{Stands, after_sound}

-- ---- what a call leaves

settled-by : (k : Call) (m m2 : Stored) → refusal k m ≡ 0 → m2 ≡ (did k m).stored → storage.Settled m2
settled-by k m m2 z e =
    let w = e ∙ did-taken k m z in
    let same = ap parse w ∙ parse-write (taken k (parse m)) (payloads-fit (left-sound k m z)) in
    record { sound = passed_16 m2 (ap session_refusal e ∙ stays-sound.at_call k m z); held = w ∙ ap write (sym same) }

module _ (k : Call) (m m2 : Stored) (a : Answer) (out : List ℕ) (e : Does k m a m2 out) where
  -- settled, or refused and as it was
  pub left : (storage.Settled m2) ⊎ ((m2 ≡ m) × (a ≡ refused (refusal k m)))
  unfolding did turned_back
  left = go (eqb (refusal k m) 0) refl
    where
      go : (t : Bool) → eqb (refusal k m) 0 ≡ t → (storage.Settled m2) ⊎ ((m2 ≡ m) × (a ≡ refused (refusal k m)))
      go true z = inl (settled-by k m m2 (eqb-true _ _ z) (sym (ap (λ (x : Done). x.stored) e)))
      go false z = let d = rw z at e in inr (sym (ap (λ (x : Done). x.stored) d), sym (ap (λ (x : Done). x.answer) d))

  pub settled_next : storage.Settled m → storage.Settled m2
  settled_next h = ⊎_elim (λ s. s) (λ r. subst storage.Settled (sym r.0) h) left

pub sound_next : (k : Call) (m m2 : Stored) (a : Result Media Refusal) (out : List ℕ) → Does k m (media_answer a) m2 out → session_sound m ≡ true → Stands (after_sound a) m2
unfolding Stands
sound_next k m m2 (Ok Media.Queued) out e h = ⊎_elim (λ s. s) (λ r. absurd (let d = r.1 in cc)) (left k m m2 queued out e)
sound_next k m m2 (Ok Media.Dropped) out e h = ⊎_elim (λ s. s) (λ r. absurd (let d = r.1 in cc)) (left k m m2 dropped out e)
sound_next k m m2 (Err n) out e h = ⊎_elim (λ s. s.sound) (λ r. ap session_sound r.0 ∙ h) (left k m m2 (refused (number n)) out e)

-- ---- how the session stands

pub stands_as : (x y : Standing) (m : Stored) → x ≡ y → Stands y m → Stands x m
stands_as x y m e h = subst (λ (z : Standing). Stands z m) (sym e) h

pub damaged_is : (m : Stored) → session_sound m ≡ false → session_refusal m ≡ SESSION
unfolding session_refusal refuse_if
damaged_is m z = rw z

-- ---- the answer's number is a byte

small_or : (a b : ℕ) → a < 255 → b < 255 → or_else a b < 255
unfolding or_else
small_or a b h k = go (eqb a 0)
  where
    go : (t : Bool) → cond t b a < 255
    go true = k
    go false = h

small_if : (t : Bool) (k : ℕ) → k < 255 → refuse_if t k < 255
unfolding refuse_if
small_if true k h = h
small_if false k h = omega arith

module _ (now : ℕ) (d : List ℕ) (m : Stored) where
  pub small-refusal : refusal (media now d) m < 255
  unfolding refusal call_refusal media_refusal session_refusal clock_refusal datagram_refusal packet_refusal count_refusal
  small-refusal =
      let one : (t : Bool) (k : ℕ) → k < 255 → refuse_if t k < 255 = small_if in
      let later = small_or _ _ (one _ COUNT (lit< tt)) (one _ gaps_full (lit< tt)) in
      let whole = small_or _ _ (one _ payload_type (lit< tt)) (one _ SSRC (lit< tt)) in
      let sized = small_or _ _ (one _ PADDING (lit< tt)) (small_or _ _ (one _ payload_too_large (lit< tt)) whole) in
      let read = small_or _ _ (one _ TRUNCATED (lit< tt)) (small_or _ _ (one _ VERSION (lit< tt)) (small_or _ _ (one _ TRUNCATED (lit< tt)) sized)) in
      small_or _ _ (one _ SESSION (lit< tt)) (small_or _ _ (one _ CLOCK (lit< tt)) (small_or _ _ read later))
