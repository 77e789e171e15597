-- An exported call is the queue's call on the session that the words stand for, or a refusal of the words.
use mathlib.Core.Path.{◌≡◌, refl, sym, ◌∙◌}
use mathlib.Core.Bool.{Bool, true, false, cond}
use mathlib.Core.List.{List}
use Prim.Native.Nat.{ℕ}
use Rattle.std.specs.Prelude.{Option, None, Some}
use Rattle.refusals.specs.Refusals.{SESSION}
use Rattle.model.specs.declared.Session.{Session}
use Rattle.model.specs.Storage.{Storage}
use Rattle.model.specs.Calls as Calls
use Rattle.model.specs.Calls.{Answer, Call, output_of}
use Rattle.model.specs.Did.{did}
use Rattle.ffi_words.specs.declared.SessionWords.{SessionWords}
use Rattle.ffi_words.specs.Words.{readable, session_of, read}
use Rattle.ffi_words.specs.Told.{back}
use Rattle.ffi.specs.Exported.{unread, told, called, Gives}

none_when : (b : Bool) (x : Session) → None ≡ cond b (Some x) None → b ≡ false
none_when false x e = refl
none_when true x e = cc

some_when : (b : Bool) {s x : Session} → Some s ≡ cond b (Some x) None → (b ≡ true) × (s ≡ x)
some_when true e = (refl, cc)
some_when false e = (cc, cc)

-- words that cannot be read, and words that can
pub is_unread : (w : SessionWords) → None ≡ read w → readable w ≡ false
unfolding read
is_unread w e = none_when (readable w) _ e

pub is_read : (w : SessionWords) {s : Session} → Some s ≡ read w → (readable w ≡ true) × (s ≡ session_of w)
unfolding read
is_read w e = some_when (readable w) e

module _ {A : Type 0} (tell : Answer → SessionWords → A) (c : Call) (w : SessionWords) (t : Storage) (r : A) where
  pub not_read : None ≡ read w → r ≡ tell (Calls.refused SESSION) w → Gives tell c w t r t (output_of c)
  unfolding called unread
  not_read f e = rw (is_unread w f, e)

  pub was_read : {o : Option Session} {s left : Session} {a : Answer} {after : Storage} {out : List ℕ} → o ≡ Some s → o ≡ read w → did c (record { session = s; storage = t }) ≡ record { answer = a; stored = record { session = left; storage = after }; output = out } → r ≡ back tell a w left → Gives tell c w t r after out
  unfolding called told
  was_read is e d g = let h : (readable w ≡ true) × _ = is_read w (sym is ∙ e) in rw (h.0, ← h.1, d, g)
