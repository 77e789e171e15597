-- 02, point 6, as an operator sees it: how soon a number can be asked for again, in a list or on the wire (02, point 1).
use Rattle.std.specs.Prelude.{◌≡◌, List, ◌∷◌, ◌++◌, map, ℕ, ◌+◌, ◌≤◌, T, Some}
use Rattle.words.specs.Words.{over}
use Rattle.rtx_state.specs.declared.RtxRtt.{RtxRtt}
use Rattle.model.specs.declared.Config.{Config}
use Rattle.model.specs.Lists.{keep, some?}
use Rattle.nack_pairs.specs.Wire.{entries}
use Rattle.model.specs.Records.{Gap, gap_numbers}
use Rattle.model.specs.Rules.{is, due, truncated, timings_in, estimate_in, not_given_up}
use Rattle.model.specs.Storage.{Storage}
use Rattle.model.specs.Calls.{Call, poll_nack, nack_wire}
use Rattle.model.specs.Table.{refusal, opening_refusal}
use Rattle.model.specs.Did.{did}
use Rattle.book.specs.Book.{Book}
use Rattle.book.specs.Claim.{calls}

-- the missing numbers that a NACK list of this instant names: those due, once those given up are out
unfoldable pub named_at : Config → ℕ → Book → List Gap
named_at c now b = keep (due (timings_in c b.estimate) now) (not_given_up c.settings b.missing)

-- an estimate stands
pub data Measured (c : Config) (b : Book) : Type 0 where
  measured : (e : RtxRtt) → estimate_in c.senders.has_rtx b.estimate ≡ Some e → Measured c b

-- a call of this instant that asks for what is due
pub data Asks (now : ℕ) : Call → Type 0 where
  in_a_list : (out : List ℕ) → Asks now (poll_nack now out)
  on_the_wire : (out : List ℕ) → Asks now (nack_wire now out)

pub record NacksApart : Type 0 where
  -- what goes out are their low 16 bits, in order
  pub listed :
      (c : Config) (t : Storage) (ks : List Call) (now : ℕ) (out : List ℕ) → opening_refusal c t ≡ 0 → refusal (poll_nack now out) (calls c ks).stored ≡ 0
      → (did (poll_nack now out) (calls c ks).stored).output ≡ over (map truncated (named_at c now (calls c ks).book)) out
  -- or the entries that name them
  pub wired :
      (c : Config) (t : Storage) (ks : List Call) (now : ℕ) (out : List ℕ) → opening_refusal c t ≡ 0 → refusal (nack_wire now out) (calls c ks).stored ≡ 0
      → (did (nack_wire now out) (calls c ks).stored).output ≡ over (entries (gap_numbers (named_at c now (calls c ks).book))) out
  -- After the calls ks it was asked at `now`, and after some more at `later`, while an estimate stood: a number n that both name was asked
  -- for again after 1,000,000 ns or more.
  pub apart :
      (c : Config) (t : Storage) (ks js : List Call) (k k' : Call) (now later n : ℕ)
      → let x = calls c ks in
      let y = calls c (ks ++ (k ∷ js)) in
      opening_refusal c t ≡ 0 → Asks now k → Asks later k' → refusal k x.stored ≡ 0 → refusal k' y.stored ≡ 0 → Measured c y.book
      → T (some? (is n) (named_at c now x.book)) → T (some? (is n) (named_at c later y.book)) → now + 1000000 ≤ later
