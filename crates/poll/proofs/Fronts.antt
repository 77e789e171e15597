-- The entry that goes out is the first of the list, where its time has come.
use mathlib.Core.Path.{◌≡◌, refl, ◌∙◌}
use mathlib.Core.Bool.{true, false, false≢true}
use mathlib.Core.List.{List, [], ◌∷◌, zip_with}
use Prim.Native.Nat.{ℕ, zero, suc, ◌*◌}
use native.Mathlib.Omega.{arith}
use lib.ListN.{length, take, drop}
use Rattle.words.specs.Blocks.{blocks}
use Rattle.model.specs.declared.Queue.{Queue}
use Rattle.model.specs.Records.{Entry}
use Rattle.model.specs.Poll.{ready, hands_out}
use Rattle.model.specs.Storage.{Stored, entry_words, payload_bytes, entry_of, entries_of}
use Rattle.model.proofs.Laid.{length-entries_of}
use Rattle.poll.specs.Steps.{entries_in}

module _ (now : ℕ) (q : Queue) (words payloads : List ℕ) where
  pub hands_none : (n : ℕ) → n ≡ 0 → false ≡ hands_out now q (entries_of words payloads n)
  unfolding hands_out entries_of blocks zip_with
  hands_none n e = rw e

  pub hands_first : (n : ℕ) → (n ≡ 0 → ⊥)
      → hands_out now q (entries_of words payloads n) ≡ ready q now (entry_of (take entry_words (drop (entry_words * 0) words)) (take payload_bytes payloads)).timestamp
  unfolding hands_out entries_of blocks zip_with
  hands_first zero h = absurd (h refl)
  hands_first (suc n) h = refl

-- one goes out, so there is one
hands_some : (now : ℕ) (q : Queue) (es : List Entry) → hands_out now q es ≡ true → length es ≡ 0 → ⊥
unfolding hands_out
hands_some now q [] e l = let z : false ≡ true = e in absurd (false≢true z)
hands_some now q (x ∷ es) e l = absurd (omega arith)

module _ (words payloads : List ℕ) where
  pub first-is : (n : ℕ) → (n ≡ 0 → ⊥) → take 1 (entries_of words payloads n) ≡ entry_of (take entry_words (drop (entry_words * 0) words)) (take payload_bytes payloads) ∷ []
  unfolding entries_of blocks zip_with
  first-is zero h = absurd (h refl)
  first-is (suc n) h = refl

-- and there is one in storage
pub hands_held : (now : ℕ) (m : Stored) → hands_out now m.session.queue (entries_in m) ≡ true → m.session.entries ≡ 0 → ⊥
hands_held now m e z =
    let t = m.storage in
    hands_some now m.session.queue (entries_of t.entries t.payloads m.session.entries) e (length-entries_of t.entries t.payloads m.session.entries ∙ z)
