-- Demand 3 of stored sessions: a call on what is stored is a step of the state that is read there, refused or taken, so the theorem over
-- runs of states holds of every list of calls.
use mathlib.Core.Path.{◌≡◌, refl, sym, ap, ◌∙◌, subst}
use mathlib.Core.Bool.{Bool, true, false, cond}
use mathlib.Core.List.{List, [], ◌∷◌, ◌++◌, foldl, foldl-append, append-nil}
use Prim.Native.Nat.{ℕ}
use native.Mathlib.Omega.{arith}
use lib.Dec.{T, eqb, eqb→eq}
use lib.Ieee.Bits.{is_true}
use borrow.Author.Tests.{eq-eqb, eqb-true}
use Rattle.refusals.proofs.Laws.{or_else-none}
use Rattle.model.specs.declared.Config.{Config}
use Rattle.model.specs.declared.Session.{Session}
use Rattle.model.specs.Records.{new_state}
use Rattle.model.specs.Storage.{Storage, Stored, parse, write}
use Rattle.model.specs.Calls.{Call, taken, answered}
use Rattle.model.specs.Table.{session_refusal, refusal, opening_refusal}
use Rattle.model.specs.Did as D
use Rattle.model.specs.Did.{Done, did, turned_back, accepted, session, opened}
use Rattle.model.proofs.Laid.{parse-write}
use Rattle.model.proofs.Lists.{none, by_cases}
use Rattle.model.proofs.SoundCalls.{payloads-fit, left-sound, did-taken, config_of_lem, stays-sound}
use Rattle.book.specs.Book.{empty, enter}
use Rattle.book.specs.States as S
use Rattle.book.specs.States.{Next, stays, moves, Ran}
use Rattle.book.specs.Claim.{hear, given, Run, start, call, calls, view_of, EveryListOfCalls}
use Rattle.book.specs.Code.{Made, opening, further, EveryRun}
use Rattle.book.proofs.States.{every_run_of_states}

-- ---- calls on stored bytes

read_new : (c : Config) → parse (write (new_state c)) ≡ new_state c
unfolding new_state
read_new c = parse-write (new_state c) none

read_taken : (k : Call) (m : Stored) → refusal k m ≡ 0 → parse (write (taken k (parse m))) ≡ taken k (parse m)
read_taken k m e = parse-write (taken k (parse m)) (payloads-fit (left-sound k m e))

ran_start : (c : Config) (t : Storage) → opening_refusal c t ≡ 0 → Ran c (view_of (start c))
unfolding start S.opened
ran_start c t e = rw (read_new c) (S.opening (is_true _ (config_of_lem c t e)))

module _ (c : Config) (x : Run) (k : Call) where
  -- the run after what the call did
  abbrev after : Done → Run
  after d = record { stored = d.stored; book = enter c k (hear d.answer) x.book; returned = x.returned ++ given d.answer }

  -- a call on what is stored is a step of what is read
  next_accepted : T (eqb (refusal k x.stored) 0) → Next c (view_of x) k (view_of (after (accepted k (parse x.stored))))
  unfolding accepted refusal S.after
  next_accepted t =
      let e : refusal k x.stored ≡ 0 = eqb→eq (refusal k x.stored) 0 t in
      rw (read_taken k x.stored e) (moves (or_else-none _ _ e).1)

  next_refused : Next c (view_of x) k (view_of (after (turned_back (refusal k x.stored) k x.stored)))
  unfolding turned_back hear given enter
  next_refused = rw append-nil stays

  pub next_call : Next c (view_of x) k (view_of (call c x k))
  unfolding call did
  next_call = by_cases (λ (d : Done). Next c (view_of x) k (view_of (after d))) (eqb (refusal k x.stored) 0) next_accepted (λ t. next_refused)

-- a call that no check catches: what is read afterwards, and what was answered
module _ (c : Config) (x : Run) (k : Call) (e : refusal k x.stored ≡ 0) where
  pub call-taken : parse (call c x k).stored ≡ taken k (parse x.stored)
  unfolding call
  call-taken = ap parse (did-taken k x.stored e) ∙ read_taken k x.stored e

  pub call-answer : (did k x.stored).answer ≡ answered k (parse x.stored)
  unfolding did accepted
  call-answer = rw (eq-eqb (refusal k x.stored) 0 e)

ran_calls : (c : Config) (ks : List Call) (x : Run) → Ran c (view_of x) → Ran c (view_of (foldl (call c) x ks))
ran_calls c [] x r = r
ran_calls c (k ∷ ks) x r = ran_calls c ks (call c x k) (S.further r (next_call c x k))

-- what holds of every run of states holds after every list of calls, and (`made_ran`) of runs of code
pub ran : (c : Config) (t : Storage) (ks : List Call) → opening_refusal c t ≡ 0 → Ran c (view_of (calls c ks))
unfolding calls
ran c t ks e = ran_calls c ks (start c) (ran_start c t e)

pub every-list_of_calls : EveryListOfCalls
unfolding opened start
every-list_of_calls =
    record {
      opening = λ c t e. rw (eq-eqb (opening_refusal c t) 0 e);
      every = λ c t ks e. every_run_of_states.holds c _ (ran c t ks e);
      further = λ c t ks k e. every_run_of_states.steps c _ _ k (ran c t ks e) (next_call c (calls c ks) k);
    }

-- ---- runs of code

-- where the opening answers with a session it was not refused, and what it leaves is the start
opened-is : (c : Config) (t u : Storage) (s : Session) → opened c t ≡ record { answer = session s; storage = u }
    → (opening_refusal c t ≡ 0) × (start c ≡ record { stored = record { session = s; storage = u }; book = empty; returned = [] })
unfolding opened start write empty
opened-is c t u s e = go (eqb (opening_refusal c t) 0) refl e
  where
    go : (b : Bool) → eqb (opening_refusal c t) 0 ≡ b
        → ◌≡◌ {A = D.Opened} (cond b (record { answer = session (write (new_state c)).session; storage = (write (new_state c)).storage }) (record { answer = D.refused (opening_refusal c t); storage = t })) (record { answer = session s; storage = u })
        → (opening_refusal c t ≡ 0) × (start c ≡ record { stored = record { session = s; storage = u }; book = empty; returned = [] })
    go true z o =
        let a : session (write (new_state c)).session ≡ session s = ap (λ (p : D.Opened). p.answer) o in
        let st : (write (new_state c)).storage ≡ u = ap (λ (p : D.Opened). p.storage) o in
        let ss : (write (new_state c)).session ≡ s = cc in
        (eqb-true (opening_refusal c t) 0 z, cc)
    go false z o =
        let a : D.refused (opening_refusal c t) ≡ session s = ap (λ (p : D.Opened). p.answer) o in
        let y : ◌≡◌ {A = ℕ} 0 1 = cc in
        absurd (omega arith)

pub made_ran : {c : Config} {ks : List Call} {x : Run} → Made c ks x → Ran c (view_of x)
unfolding call
made_ran {c} (opening t {u = u} {s = s} o) = let e = opened-is c t u s o in subst (λ (x : Run). Ran c (view_of x)) e.1 (ran_start c t e.0)
made_ran {c} (further {x = x} k m e) = subst (λ (d : Done). Ran c (view_of (after c x k d))) e (S.further (made_ran m) (next_call c x k))

-- what code leaves is what `calls` says
made-calls : {c : Config} {ks : List Call} {x : Run} → Made c ks x → x ≡ calls c ks
unfolding calls call
made-calls {c} (opening t {u = u} {s = s} o) = sym (opened-is c t u s o).1
made-calls {c} (further {ks = ks} {x = x} k m e) =
    ap (after c x k) (sym e) ∙ ap (λ (y : Run). call c y k) (made-calls m) ∙ sym (foldl-append (call c) (start c) ks (k ∷ []))

-- check 16 passes what stands there
passes : (k : Call) (m : Stored) → session_refusal m ≡ 0 → session_refusal (did k m).stored ≡ 0
unfolding did accepted turned_back
passes k m z =
    by_cases (λ (d : Done). session_refusal d.stored ≡ 0) (eqb (refusal k m) 0)
    (λ t. let e = eqb→eq (refusal k m) 0 t in subst (λ (y : Stored). session_refusal y ≡ 0) (did-taken k m e) (stays-sound.at_call k m e)) (λ t. z)

pub made-sound : {c : Config} {ks : List Call} {x : Run} → Made c ks x → session_refusal x.stored ≡ 0
unfolding start
made-sound {c} (opening t {u = u} {s = s} o) =
    let e = opened-is c t u s o in subst (λ (x : Run). session_refusal x.stored ≡ 0) e.1 (stays-sound.at_opening c t e.0)
made-sound {c} (further {x = x} k m e) = subst (λ (d : Done). session_refusal d.stored ≡ 0) e (passes k x.stored (made-sound m))

pub every_run : EveryRun
every_run c ks x m =
    record {
      is_calls = made-calls m;
      holds = every_run_of_states.holds c _ (made_ran m);
      steps = λ k. every_run_of_states.steps c _ _ k (made_ran m) (next_call c x k);
    }
