-- The opening: slices of the right lengths without a record are zeros, which is what is written of a new session.
use mathlib.Core.Path.{◌≡◌}
use mathlib.Core.Bool.{not}
use mathlib.Core.List.{List}
use Prim.Native.Nat.{ℕ}
use native.Mathlib.Omega.{arith}
use lib.ListN.{length, take}
use borrow.Author.Tests.{not-false}
use Rattle.words.specs.Words.{padded}
use Rattle.words.specs.Blocks.{flat, laid}
use Rattle.refusals.specs.Refusals.{SETTINGS, SESSION, refuse_if}
use Rattle.refusals.proofs.Laws.{or_else-none, passes-last}
use Rattle.model.specs.declared.Config.{Config}
use Rattle.model.specs.Records.{new_state}
use Rattle.model.specs.Storage.{lengths_fit, entries_laid, payloads_laid, gaps_laid, remembered_laid, write}
use Rattle.model.specs.Table.{config_valid, opening_refusal}
use Rattle.model.specs.Contract.{storage}
use Rattle.storage.proofs.Checking.{Lengths, lengths_of}

module _ (c : Config) (e p g r : List ℕ) (h : opening_refusal c (storage e p g r) ≡ 0) where
  lengths : Lengths c.settings (storage e p g r)
  unfolding opening_refusal refuse_if
  lengths =
      let t = storage e p g r in
      let a = or_else-none (refuse_if (not (config_valid c)) SETTINGS) (refuse_if (not (lengths_fit c.settings t)) SESSION) h in
      lengths_of c.settings t (not-false (lengths_fit c.settings t) (passes-last (not (lengths_fit c.settings t)) SESSION (omega arith) a.1))

  pub zeros : (e' p' g' r' : List ℕ)
      → e' ≡ padded (length e) (take 0 e)
      → p' ≡ padded (length p) (take 0 p)
      → g' ≡ padded (length g) (take 0 g)
      → r' ≡ padded (length r) (take 0 r)
      → storage e' p' g' r' ≡ (write (new_state c)).storage
  unfolding write new_state entries_laid payloads_laid gaps_laid remembered_laid laid flat
  zeros e' p' g' r' he hp hg hr = let l = lengths in rw (he, hp, hg, hr, l.entries, l.payloads, l.gaps, l.remembered)
