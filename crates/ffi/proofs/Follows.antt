-- Call after call on words is a run of the queue's calls: first by the words that `told` has after any call, then by what each exported call
-- leaves with its caller.
use mathlib.Core.Path.{◌≡◌, refl, sym, ap, ◌∙◌}
use mathlib.Core.Bool.{Bool, true, false, cond}
use mathlib.Core.List.{List, [], ◌∷◌}
use Prim.Native.Nat.{ℕ, zero, suc}
use lib.ListN.{length}
use lib.Dec.{eqb}
use Rattle.std.specs.Prelude.{None}
use Rattle.model.specs.declared.Queue.{Queue}
use Rattle.model.specs.declared.Session.{Session}
use Rattle.model.specs.Records.{Entry, State, new_state}
use Rattle.model.specs.Rules.{waits}
use Rattle.model.specs.Push.{media_entry_of, media_place}
use Rattle.model.specs.Poll.{going_out, due_gaps}
use Rattle.model.specs.Storage.{Storage, Stored, parse, write}
use Rattle.model.specs.Calls as Calls
use Rattle.model.specs.Calls.{Answer, Call, handed, nack_answer, taken, answered}
use Rattle.model.specs.Table.{refusal, opening_refusal}
use Rattle.model.specs.Did.{Done, did, accepted, turned_back, opened}
use Rattle.model.proofs.Laid.{parse-entries, parse-gaps, parse-remembered}
use Rattle.book.specs.Book.{Heard}
use Rattle.ffi_words.specs.declared.ConfigWords.{ConfigWords}
use Rattle.ffi_words.specs.declared.SessionWords.{SessionWords}
use Rattle.ffi_words.specs.declared.answers.Pushed.{Pushed}
use Rattle.ffi_words.specs.declared.answers.Polled.{Polled}
use Rattle.ffi_words.specs.declared.answers.PolledNack.{PolledNack}
use Rattle.ffi_words.specs.declared.answers.PolledWire.{PolledWire}
use Rattle.ffi_words.specs.Words.{config_readable, readable, config_of, session_of, words_of, FloatsFit}
use Rattle.ffi_words.specs.Told.{refusal_in, session_after, open_told, pushed, polled, polled_nack, polled_wire}
use Rattle.ffi_words.proofs.Kept.{words_kept}
use Rattle.ffi.proofs.Floats.{taken-fits, new_fits}
use Rattle.ffi.specs.Exported.{stands_for, Given, unread, told, called, Gives, alone, opened_by, opened_words}
use Rattle.ffi.specs.Follows.{ExportedCall, push, push_rtx, polls, polls_nack, nacks_wire, receive_timeout, nack_timeout, repair_figures, highest_number, ReadAs, Follows}

-- ---- the answer of an accepted call is no refusal

one_of_two : (b : Bool) → refusal_in (cond b Calls.queued Calls.dropped) ≡ None
unfolding refusal_in
one_of_two false = refl
one_of_two true = refl

no_refusal-handed : (q : Queue) (l : List Entry) → refusal_in (handed q l) ≡ None
unfolding refusal_in handed
no_refusal-handed q [] = refl
no_refusal-handed q (e ∷ es) = refl

no_refusal-nack : (n : ℕ) → refusal_in (nack_answer n) ≡ None
unfolding refusal_in nack_answer
no_refusal-nack zero = refl
no_refusal-nack (suc n) = refl

pub no_refusal : (c : Call) (s : State) → refusal_in (answered c s) ≡ None
unfolding answered refusal_in
no_refusal (Calls.media now d) s = one_of_two (waits (media_place s (media_entry_of now d s.queue).number))
no_refusal (Calls.repair now d) s = refl
no_refusal (Calls.poll now out) s = no_refusal-handed s.queue (going_out now s s.entries)
no_refusal (Calls.poll_nack now out) s = no_refusal-nack (length (due_gaps now s.queue s.gaps))
no_refusal (Calls.nack_wire now out) s = refl
no_refusal (Calls.timeout_receive now) s = refl
no_refusal (Calls.timeout_nack now) s = refl
no_refusal Calls.rtx_stats s = refl
no_refusal Calls.highest_received s = refl

-- ---- what comes back stands for the session that is left

-- of what is told, the words alone; no exported function tells just this
abbrev words : Answer → SessionWords → SessionWords
words a w = w

written : (s : State) → FloatsFit s.queue → ReadAs (words_of (write s).session) (write s).storage (write s)
unfolding write
written s h = (words_kept.stays_readable (write s).session, ap (λ (x : Session). record { session = x; storage = (write s).storage }) (words_kept.same (write s).session h))

module _ (c : Call) (w : SessionWords) (t : Storage) (r : readable w ≡ true) where
  abbrev m : Stored
  m = stands_for w t

  abbrev done : Bool → Done
  done b = cond b (accepted c (parse m)) (turned_back (refusal c m) c m)

  stands : (b : Bool) → ReadAs (told words w (done b)).value (told words w (done b)).storage (done b).stored
  unfolding told accepted turned_back session_after refusal_in parse session_of
  stands false = (r, refl)
  stands true = rw (no_refusal c (parse m)) (written (taken c (parse m)) (taken-fits c (parse m) (words_kept.floats_fit w)))

  words_follow : ReadAs (called words c w t).value (called words c w t).storage (did c m).stored
  unfolding called did
  words_follow = rw r (stands (eqb (refusal c m) 0))

-- ---- calls that give words back

module _ {A : Type 0} (tell : Answer → SessionWords → A) (k : Call) (w : SessionWords) (t : Storage) where
  same-storage : (b : Bool) (d : Done) → (cond b (told tell w d) (unread tell k w t)).storage ≡ (cond b (told words w d) (unread words k w t)).storage
  unfolding told unread
  same-storage false d = refl
  same-storage true d = refl

  storage-is : {u : Storage} {r : A} {output : List ℕ} → Gives tell k w t r u output → (called words k w t).storage ≡ u
  unfolding called
  storage-is g = sym (same-storage (readable w) (did k (stands_for w t))) ∙ ap (λ (x : Given A). x.storage) g

module _ {A : Type 0} (tell : Answer → SessionWords → A) (session : A → SessionWords) (kept : (a : Answer) (w : SessionWords) → session (tell a w) ≡ w) (k : Call) (w : SessionWords) (t : Storage) where
  same-words : (b : Bool) (d : Done) → session (cond b (told tell w d) (unread tell k w t)).value ≡ (cond b (told words w d) (unread words k w t)).value
  unfolding told unread
  same-words false d = kept _ w
  same-words true d = kept _ _

  gives_leaves : {u : Storage} {r : A} {output : List ℕ} → readable w ≡ true → Gives tell k w t r u output → ReadAs (session r) u (did k (stands_for w t)).stored
  unfolding called
  gives_leaves {u} {r} readable-w g =
      let v-is : (called words k w t).value ≡ session r = sym (same-words (readable w) (did k (stands_for w t))) ∙ ap (λ (x : Given A). session x.value) g in
      let u-is : (called words k w t).storage ≡ u = storage-is tell k w t g in
      rw (← v-is, ← u-is) (words_follow k w t readable-w)

-- ---- calls that only read

same-session : (m : Stored) → (write (parse m)).session ≡ m.session
unfolding write parse
same-session m = rw (parse-entries m, parse-gaps m, parse-remembered m)

module _ {A : Type 0} (tell : Answer → A) (k : Call) (reads : (m : Stored) → taken k (parse m) ≡ parse m) (w : SessionWords) (t : Storage) where
  left-session : (b : Bool) → (cond b (accepted k (parse (stands_for w t))) (turned_back (refusal k (stands_for w t)) k (stands_for w t))).stored.session ≡ session_of w
  unfolding accepted turned_back
  left-session false = refl
  left-session true = rw (reads (stands_for w t)) (same-session (stands_for w t))

  read_leaves : {u : Storage} {r : A} {output : List ℕ} → readable w ≡ true → Gives (alone tell) k w t r u output → ReadAs w u (did k (stands_for w t)).stored
  unfolding did
  read_leaves {u} readable-w g =
      let m = stands_for w t in
      let u-is : (did k m).stored.storage ≡ u = sym (ap (λ (x : Stored). x.storage) (words_follow k w t readable-w).1) ∙ storage-is (alone tell) k w t g in
      let s-is : (did k m).stored.session ≡ session_of w = left-session (eqb (refusal k m) 0) in
      (readable-w, sym (ap (λ (s : Session). record { session = s; storage = (did k m).stored.storage }) s-is ∙ ap (λ (y : Storage). stands_for w y) u-is))

at_call : {w v : SessionWords} {t u : Storage} {k : Call} {h : Heard} {ns : List ℕ} → readable w ≡ true → ExportedCall w t k v u h ns → ReadAs v u (did k (stands_for w t)).stored
unfolding pushed polled polled_nack polled_wire taken
at_call {w} {t = t} r (push g) = gives_leaves pushed (λ (p : Pushed). p.session) (λ a y. refl) _ w t r g
at_call {w} {t = t} r (push_rtx g) = gives_leaves pushed (λ (p : Pushed). p.session) (λ a y. refl) _ w t r g
at_call {w} {t = t} r (polls g) = gives_leaves polled (λ (p : Polled). p.session) (λ a y. refl) _ w t r g
at_call {w} {t = t} r (polls_nack g) = gives_leaves polled_nack (λ (p : PolledNack). p.session) (λ a y. refl) _ w t r g
at_call {w} {t = t} r (nacks_wire g) = gives_leaves polled_wire (λ (p : PolledWire). p.session) (λ a y. refl) _ w t r g
at_call {w} {t = t} r (receive_timeout g) = read_leaves _ _ (λ m. refl) w t r g
at_call {w} {t = t} r (nack_timeout g) = read_leaves _ _ (λ m. refl) w t r g
at_call {w} {t = t} r (repair_figures g) = read_leaves _ _ (λ m. refl) w t r g
at_call {w} {t = t} r (highest_number g) = read_leaves _ _ (λ m. refl) w t r g

-- ---- the opening

at_opening : (c : ConfigWords) (t : Storage) → config_readable c ≡ true → opening_refusal (config_of c) t ≡ 0 → ReadAs (opened_words c t).value.session (opened_words c t).storage (write (new_state (config_of c)))
unfolding opened_words opened_by opened open_told
at_opening c t r z = rw (r, z) (written (new_state (config_of c)) (new_fits (config_of c)))

pub follows : Follows
follows = record { at_opening = at_opening; at_call = at_call }
