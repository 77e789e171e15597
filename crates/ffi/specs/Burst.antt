-- 02, point 4, on words: a burst of media calls, and that it is as good as the exported media calls one after the other.
use Rattle.std.specs.Prelude.{◌≡◌, cond, List, ◌++◌, map, ℕ, take}
use Rattle.model.specs.declared.Session.{Session}
use Rattle.model.specs.Lists.{some?}
use Rattle.model.specs.Storage.{Storage}
use Rattle.model.specs.Calls.{Call, media}
use Rattle.book.specs.Claim.{Run}
use Rattle.burst.specs.Burst.{datagrams, is_accepted, BurstDone, did_burst}
use Rattle.burst.specs.Runs.{enter_each}
use Rattle.ffi_words.specs.declared.ConfigWords.{ConfigWords}
use Rattle.ffi_words.specs.declared.SessionWords.{SessionWords}
use Rattle.ffi_words.specs.declared.answers.PushedBurst.{PushedBurst}
use Rattle.ffi_words.specs.Words.{config_of, readable, session_of, no_session}
use Rattle.ffi_words.specs.Told.{burst_told}
use Rattle.ffi.specs.Exported.{stands_for, Given}
use Rattle.ffi.specs.Runs.{MadeInWords}

-- words that cannot be read stand for a session of zeros, which check 16 refuses
unfoldable pub session_in : SessionWords → Session
session_in w = cond (readable w) (session_of w) (session_of no_session)

-- the words come back as they came where no datagram was accepted
unfoldable pub told_burst : SessionWords → BurstDone → Given PushedBurst
told_burst w d =
    record {
      value = burst_told d.refusal d.count (some? is_accepted (take d.count d.output)) w d.stored.session;
      storage = d.stored.storage;
      output = d.output;
    }

unfoldable pub called_burst : ℕ → (buffer ends lent : List ℕ) → SessionWords → Storage → Given PushedBurst
called_burst now buffer ends lent w t = told_burst w (did_burst now buffer ends lent (record { session = session_in w; storage = t }))

-- Where a run of exported calls stands, an accepted burst leaves what a run with its media calls in its place leaves, by the words and the
-- answer numbers that the caller is told; so `EveryRunInWords` covers bursts.
pub record BurstFollows : Type 0 where
  pub counts :
      {c : ConfigWords} {ks : List Call} {w : SessionWords} {x : Run} {r : PushedBurst} {u : Storage} {output : List ℕ} (now : ℕ) (buffer ends lent : List ℕ)
      → MadeInWords c ks w x → called_burst now buffer ends lent w x.stored.storage ≡ record { value = r; storage = u; output = output } → r.refusal ≡ 0
      → MadeInWords c (ks ++ map (media now) (datagrams buffer ends)) r.session
      (record { stored = stands_for r.session u; book = enter_each (config_of c) now (datagrams buffer ends) (take r.answers output) x.book; returned = x.returned })
  -- refused whole, it leaves all as it was
  pub refused :
      {w : SessionWords} {t u : Storage} {r : PushedBurst} {output : List ℕ} (now : ℕ) (buffer ends lent : List ℕ)
      → called_burst now buffer ends lent w t ≡ record { value = r; storage = u; output = output } → (r.refusal ≡ 0 → ⊥)
      → (r.answers ≡ 0) × (r.session ≡ w) × (u ≡ t) × (output ≡ lent)
