-- Calls made through the boundary are calls of the queue: each leaves words that stand for the session that the queue's call leaves, so the
-- theorem over runs of the queue's calls holds of them.
use mathlib.Core.Path.{◌≡◌, refl, sym, ap, ◌∙◌}
use mathlib.Core.Bool.{Bool, true, false, ◌&&◌, cond}
use mathlib.Core.List.{List, [], ◌∷◌, ◌++◌}
use Prim.Native.Nat.{ℕ, zero, suc}
use native.Mathlib.Omega.{arith}
use lib.Dec.{eqb}
use lib.ListN.{length}
use lib.Ieee.Bits.{is_true}
use lib.Ieee.Fits.{and_l, and_r}
use borrow.Author.Tests.{eqb-true}
use Rattle.refusals.specs.Refusals.{SETTINGS}
use Rattle.stats.specs.declared.RtpInboundRtxStats.{RtpInboundRtxStats}
use Rattle.std.specs.Prelude.{Option, None, Some}
use Rattle.model.specs.declared.Queue.{Queue}
use Rattle.model.specs.Records.{Entry, State, new_state}
use Rattle.model.specs.Rules.{waits}
use Rattle.model.specs.Push.{media_entry_of, media_place}
use Rattle.model.specs.Poll.{going_out}
use Rattle.model.specs.Storage.{Storage, Stored, parse, write}
use Rattle.model.specs.Calls as Calls
use Rattle.model.specs.Calls.{Answer, Call, poll, handed, nack_answer, answered}
use Rattle.model.specs.Valid.{counts_fit, queue_sound, lists_sound, sound}
use Rattle.model.specs.Table.{config_valid, session_refusal, refusal, opening_refusal}
use Rattle.model.specs.Did as Did
use Rattle.model.specs.Did.{did, accepted, turned_back, opened}
use Rattle.model.specs.Contract.{Opens, Does}
use Rattle.model.proofs.SoundCalls.{sound-session}
use Rattle.model.proofs.SoundTest.{sound_to}
use Rattle.book.specs.Book as B
use Rattle.book.specs.Book.{Heard, empty}
use Rattle.book.specs.Claim.{hear, given, Run, call}
use Rattle.book.specs.Code as Code
use Rattle.book.proofs.Theorem.{made-sound, every_run}
use Rattle.ffi_words.specs.declared.ConfigWords.{ConfigWords}
use Rattle.ffi_words.specs.declared.SessionWords.{SessionWords}
use Rattle.ffi_words.specs.declared.answers.Opened.{Opened}
use Rattle.ffi_words.specs.declared.answers.Pushed.{Pushed}
use Rattle.ffi_words.specs.declared.answers.Polled.{Polled}
use Rattle.ffi_words.specs.declared.answers.PolledNack.{PolledNack}
use Rattle.ffi_words.specs.declared.answers.PolledWire.{PolledWire}
use Rattle.ffi_words.specs.declared.figures.Figures.{Figures}
use Rattle.ffi_words.specs.declared.figures.Timeout.{Timeout}
use Rattle.ffi_words.specs.declared.figures.RtxStats.{RtxStats}
use Rattle.ffi_words.specs.declared.figures.Highest.{Highest}
use Rattle.ffi_words.specs.Words.{config_readable, readable, config_of, queue_of, session_of}
use Rattle.ffi_words.specs.Told.{refusal_in, packet_in, opt_words, value_of, packet_words, stats_words, open_told, pushed, polled, polled_nack, polled_wire, timeout_told, stats_told, highest_told}
use Rattle.ffi.specs.Exported.{stands_for, Given, told, called, Gives, alone, opened_by, opened_words, figures_of, queue_figures, figures}
use Rattle.ffi.specs.Follows.{heard_in, numbers_in, ExportedCall, push, push_rtx, polls, polls_nack, nacks_wire, receive_timeout, nack_timeout, repair_figures, highest_number}
use Rattle.ffi.specs.Runs.{next_run, MadeInWords, opening, further, looked, EveryRunInWords}
use Rattle.ffi.proofs.Follows.{no_refusal as no-refusal-in, follows}

-- ---- what the caller hears in the words is what the book hears of the queue's answer

abbrev Hears : Answer → Heard → List ℕ → Type 0
Hears a h ns = (hear a ≡ h) × (given a ≡ ns)

module _ {A : Type 0} (tell : Answer → SessionWords → A) (k : Call) (w : SessionWords) (t : Storage) where
  value-is : {u : Storage} {r : A} {output : List ℕ} → readable w ≡ true → Gives tell k w t r u output → r ≡ (told tell w (did k (stands_for w t))).value
  unfolding called
  value-is {r = r} readable-w g =
      let v-is : r ≡ (called tell k w t).value = sym (ap (λ (x : Given A). x.value) g) in
      v-is ∙ rw readable-w

-- an accepted call other than `poll` hands nothing out
one_of_two : (b : Bool) → Hears (cond b Calls.queued Calls.dropped) (B.accepted false) []
unfolding hear given
one_of_two false = (refl, refl)
one_of_two true = (refl, refl)

media_hears : (now : ℕ) (d : List ℕ) (s : State) → Hears (answered (Calls.media now d) s) (B.accepted false) []
unfolding answered
media_hears now d s = one_of_two (waits (media_place s (media_entry_of now d s.queue).number))

numbers-due : (n : ℕ) → Hears (nack_answer n) (B.accepted false) []
unfolding nack_answer hear given
numbers-due zero = (refl, refl)
numbers-due (suc n) = (refl, refl)

module _ (k : Call) (quiet : (s : State) → Hears (answered k s) (B.accepted false) []) (m : Stored) where
  quiet_at : (b : Bool) → eqb (refusal k m) 0 ≡ b → let a = (cond b (accepted k (parse m)) (turned_back (refusal k m) k m)).answer in Hears a (heard_in (value_of (refusal_in a)) 0) []
  unfolding accepted turned_back refusal_in opt_words heard_in hear given
  quiet_at false e = (rw e, refl)
  quiet_at true e = rw (no-refusal-in k (parse m)) (quiet (parse m))

  quiet_hears : Hears (did k m).answer (heard_in (value_of (refusal_in (did k m).answer)) 0) []
  unfolding did
  quiet_hears = quiet_at (eqb (refusal k m) 0) refl

module _ {A : Type 0} (tell : Answer → SessionWords → A) (number : A → ℕ) (tells : (a : Answer) (w : SessionWords) → number (tell a w) ≡ value_of (refusal_in a)) (k : Call) (quiet : (s : State) → Hears (answered k s) (B.accepted false) []) (w : SessionWords) (t : Storage) where
  gives_hears : {u : Storage} {r : A} {output : List ℕ} → readable w ≡ true → Gives tell k w t r u output → Hears (did k (stands_for w t)).answer (heard_in (number r) 0) []
  unfolding told
  gives_hears readable-w g = rw (value-is tell k w t readable-w g, tells) (quiet_hears k quiet (stands_for w t))

-- `poll`
packet_hears : (q : Queue) (l : List Entry) (w : SessionWords) → let r = polled (handed q l) w in Hears (handed q l) (heard_in r.refusal r.has_packet) (numbers_in r)
unfolding handed polled refusal_in packet_in packet_words opt_words heard_in numbers_in hear given
packet_hears q [] w = (refl, refl)
packet_hears q (e ∷ es) w = (refl, refl)

module _ (now : ℕ) (out : List ℕ) (m : Stored) (w : SessionWords) where
  poll_at : (b : Bool) → eqb (refusal (poll now out) m) 0 ≡ b → let a = (cond b (accepted (poll now out) (parse m)) (turned_back (refusal (poll now out) m) (poll now out) m)).answer in let r = polled a w in Hears a (heard_in r.refusal r.has_packet) (numbers_in r)
  unfolding accepted answered turned_back polled refusal_in packet_in opt_words heard_in numbers_in hear given
  poll_at false e = (rw e, refl)
  poll_at true e = packet_hears (parse m).queue (going_out now (parse m) (parse m).entries) w

  poll_hears : let r = polled (did (poll now out) m).answer w in Hears (did (poll now out) m).answer (heard_in r.refusal r.has_packet) (numbers_in r)
  unfolding did
  poll_hears = poll_at (eqb (refusal (poll now out) m) 0) refl

stats-number : (n : ℕ) (f : Option RtpInboundRtxStats) → (stats_words n f).refusal ≡ n
unfolding stats_words
stats-number n None = refl
stats-number n (Some f) = refl

polled_hears : (now : ℕ) (out : List ℕ) (w : SessionWords) (t : Storage) {u : Storage} {r : Polled} {left : List ℕ} → readable w ≡ true → Gives polled (poll now out) w t r u left
    → Hears (did (poll now out) (stands_for w t)).answer (heard_in r.refusal r.has_packet) (numbers_in r)
unfolding told
polled_hears now out w t readable-w g = rw (value-is polled (poll now out) w t readable-w g) (poll_hears now out (stands_for w t) _)

exported_hears : {w v : SessionWords} {t u : Storage} {k : Call} {h : Heard} {ns : List ℕ} → readable w ≡ true → ExportedCall w t k v u h ns → Hears (did k (stands_for w t)).answer h ns
unfolding pushed polled_nack polled_wire timeout_told stats_told highest_told answered hear given told
exported_hears {w} {t = t} r (push g) = gives_hears pushed (λ (p : Pushed). p.refusal) (λ a y. refl) _ (media_hears _ _) w t r g
exported_hears {w} {t = t} r (push_rtx g) = gives_hears pushed (λ (p : Pushed). p.refusal) (λ a y. refl) _ (λ s. (refl, refl)) w t r g
exported_hears {w} {t = t} r (polls g) = polled_hears _ _ w t r g
exported_hears {w} {t = t} r (polls_nack g) = gives_hears polled_nack (λ (p : PolledNack). p.refusal) (λ a y. refl) _ (λ s. numbers-due _) w t r g
exported_hears {w} {t = t} r (nacks_wire g) = gives_hears polled_wire (λ (p : PolledWire). p.refusal) (λ a y. refl) _ (λ s. (refl, refl)) w t r g
exported_hears {w} {t = t} r (receive_timeout g) = gives_hears (alone timeout_told) (λ (p : Timeout). p.refusal) (λ a y. refl) _ (λ s. (refl, refl)) w t r g
exported_hears {w} {t = t} r (nack_timeout g) = gives_hears (alone timeout_told) (λ (p : Timeout). p.refusal) (λ a y. refl) _ (λ s. (refl, refl)) w t r g
exported_hears {w} {t = t} r (repair_figures g) = gives_hears (alone stats_told) (λ (p : RtxStats). p.refusal) (λ a y. stats-number _ _) _ (λ s. (refl, refl)) w t r g
exported_hears {w} {t = t} r (highest_number g) = gives_hears (alone highest_told) (λ (p : Highest). p.refusal) (λ a y. refl) _ (λ s. (refl, refl)) w t r g

-- ---- the opening

module _ (c : ConfigWords) (t : Storage) where
  abbrev words_of : Bool → Bool → Given Opened
  words_of b d =
      opened_by
      (cond b
      (cond d
      (record { answer = Did.session (write (new_state (config_of c))).session; storage = (write (new_state (config_of c))).storage })
      (record { answer = Did.refused (opening_refusal (config_of c) t); storage = t }))
      (record { answer = Did.refused SETTINGS; storage = t }))

  no_refusal : (b d : Bool) → config_readable c ≡ b → eqb (opening_refusal (config_of c) t) 0 ≡ d → (words_of b d).value.refusal ≡ 0 → (config_readable c ≡ true) × (opening_refusal (config_of c) t ≡ 0)
  unfolding opened_by open_told
  no_refusal true true e f z = (e, eqb-true _ 0 f)
  no_refusal true false e f z = (e, z)
  no_refusal false d e f z = absurd (omega (arith, z))

  opens : {u : Storage} {r : Opened} → opened_words c t ≡ record { value = r; storage = u; output = [] } → r.refusal ≡ 0 → (readable r.session ≡ true) × Opens (config_of c) t (Did.session (session_of r.session)) u
  unfolding opened_words opened
  opens {u} {r} e z =
      let n = no_refusal (config_readable c) (eqb (opening_refusal (config_of c) t) 0) refl refl (ap (λ (g : Given Opened). g.value.refusal) e ∙ z) in
      let at = follows.at_opening c t n.0 n.1 in
      let r-is : (opened_words c t).value ≡ r = ap (λ (g : Given Opened). g.value) e in
      let u-is : (opened_words c t).storage ≡ u = ap (λ (g : Given Opened). g.storage) e in
      let w-is : stands_for r.session u ≡ write (new_state (config_of c)) = rw (← r-is, ← u-is) at.1 in
      (rw (← r-is) at.0, rw (n.1, ← w-is))

-- ---- runs

pub record Stands (c : ConfigWords) (ks : List Call) (w : SessionWords) (x : Run) : Type 0 where
  pub made : Code.Made (config_of c) ks x
  pub readable-words : readable w ≡ true
  pub stored_is : x.stored ≡ stands_for w x.stored.storage

at_opening : {c : ConfigWords} (t : Storage) {u : Storage} {r : Opened} → opened_words c t ≡ record { value = r; storage = u; output = [] } → r.refusal ≡ 0
    → Stands c [] r.session (record { stored = stands_for r.session u; book = empty; returned = [] })
at_opening {c} t e z = let o = opens c t e z in record { made = Code.opening t o.1; readable-words = o.0; stored_is = refl }

module _ {c : ConfigWords} {ks : List Call} {w v : SessionWords} {u : Storage} {h : Heard} {ns : List ℕ} {x : Run} (k : Call) (s : Stands c ks w x) (e : ExportedCall w x.stored.storage k v u h ns) where
  left : (did k x.stored).stored ≡ stands_for v u
  left = rw s.stored_is (sym (follows.at_call s.readable-words e).1)

  heard : Hears (did k x.stored).answer h ns
  heard = rw s.stored_is (exported_hears s.readable-words e)

  does : Does k x.stored (did k x.stored).answer (stands_for v u) (did k x.stored).output
  does = ap (λ (y : Stored). record { answer = (did k x.stored).answer; stored = y; output = (did k x.stored).output }) left

  at_call : Stands c (ks ++ (k ∷ [])) v (next_run (config_of c) x k v u h ns)
  at_call = record { made = rw (← heard.0, ← heard.1) (Code.further k s.made does); readable-words = (follows.at_call s.readable-words e).0; stored_is = refl }

  same-call : call (config_of c) x k ≡ next_run (config_of c) x k v u h ns
  unfolding call
  same-call = rw (left, heard.0, heard.1)

pub stands : {c : ConfigWords} {ks : List Call} {w : SessionWords} {x : Run} → MadeInWords c ks w x → Stands c ks w x
stands (opening t e z) = at_opening t e z
stands (further k m e) = at_call k (stands m) e
stands (looked m e) = stands m

-- ---- the figures

-- of a session that check 16 passes they are those of its queue
figures_are : (w : SessionWords) (t : Storage) → readable w ≡ true → session_refusal (stands_for w t) ≡ 0 → figures w ≡ figures_of (queue_of w)
unfolding figures queue_figures parse session_of sound
figures_are w t r z =
    let s = parse (stands_for w t) in
    let h = sound-session (stands_for w t) z in
    let fit = counts_fit s.queue.config.settings (length s.entries) (length s.gaps) (length s.remembered) in
    let q = and_l (queue_sound s.queue) (lists_sound s) (and_r fit (queue_sound s.queue && lists_sound s) (sound_to s h)) in
    rw (r, is_true (config_valid (queue_of w).config) h.queue_in.config_in, is_true (queue_sound (queue_of w)) q)

module _ {c : ConfigWords} {ks : List Call} {w : SessionWords} {x : Run} (s : Stands c ks w x) where
  told_are : figures w ≡ figures_of (queue_of w)
  told_are = figures_are w x.stored.storage s.readable-words (rw (← s.stored_is) (made-sound s.made))

  queue-is : queue_of w ≡ x.stored.session.queue
  unfolding session_of
  queue-is = ap (λ (m : Stored). m.session.queue) (sym s.stored_is)

  lost-told : x.stored.session.queue.counters.lost ≡ length x.book.lost
  unfolding parse
  lost-told = (every_run (config_of c) ks x s.made).holds.lost_counted

  tells : {r : Figures} → r ≡ figures w → (r ≡ figures_of x.stored.session.queue) × (r.packets_lost ≡ length x.book.lost)
  unfolding figures_of
  tells e = rw (e, told_are, queue-is) (refl, lost-told)

pub every_run_in_words : EveryRunInWords
every_run_in_words =
    record {
      holds = λ c ks w x m. (every_run (config_of c) ks x (stands m).made).holds;
      steps = λ c ks w x k m. (every_run (config_of c) ks x (stands m).made).steps k;
      same = λ m e. same-call _ (stands m) e;
      figures_told = λ m e. tells (stands m) e;
    }
