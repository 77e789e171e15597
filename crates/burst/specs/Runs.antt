-- Demand 3 over lists of calls with bursts among them. 01, "Book": "A call added later belongs to the list too and counts as the calls it
-- equals, if any": a burst as its single media calls, with what is heard of each answer number.
use Rattle.std.specs.Prelude.{◌≡◌, false, cond, List, [], ◌∷◌, ◌++◌, map, ℕ, take}
use Rattle.model.specs.declared.Config.{Config}
use Rattle.model.specs.declared.Session.{Session}
use Rattle.model.specs.Storage.{Storage, Stored}
use Rattle.model.specs.Calls.{Call, Answer, media}
use Rattle.model.specs.Did.{session}
use Rattle.model.specs.Contract.{Opens, Does}
use Rattle.book.specs.Book.{Heard, refused, accepted, Book, empty, enter}
use Rattle.book.specs.Claim.{hear, given, Run}
use Rattle.book.specs.Code.{Shown}
use Rattle.burst.specs.Burst.{datagrams, is_accepted, did_burst}

-- of a datagram's answer number
unfoldable pub heard : ℕ → Heard
heard n = cond (is_accepted n) (accepted false) refused

-- the book hears of one datagram after the other
unfoldable pub enter_each : Config → ℕ → (datagrams : List (List ℕ)) (numbers : List ℕ) → Book → Book
enter_each c now [] ns b = b
enter_each c now (d ∷ ds) [] b = b
enter_each c now (d ∷ ds) (n ∷ ns) b = enter_each c now ds ns (enter c (media now d) (heard n) b)

-- Calls and bursts were made on one newly opened session, each on what the last one left; the list has a burst's media calls in its place,
-- and x is what stands there now, with the book beside it.
pub data MadeWith (c : Config) : List Call → Run → Type 0 where
  opening : (t : Storage) {u : Storage} {s : Session} → Opens c t (session s) u
      → MadeWith c [] (record { stored = record { session = s; storage = u }; book = empty; returned = [] })
  -- a further call
  single : {ks : List Call} {x : Run} (k : Call) {a : Answer} {y : Stored} {output : List ℕ} → MadeWith c ks x → Does k x.stored a y output
      → MadeWith c (ks ++ (k ∷ [])) (record { stored = y; book = enter c k (hear a) x.book; returned = x.returned ++ given a })
  -- a burst that wrote n answers
  burst : {ks : List Call} {x : Run} (now : ℕ) (buffer ends lent : List ℕ) {n : ℕ} {y : Stored} {output : List ℕ} → MadeWith c ks x
      → did_burst now buffer ends lent x.stored ≡ record { refusal = 0; count = n; stored = y; output = output }
      → MadeWith c (ks ++ map (media now) (datagrams buffer ends)) (record { stored = y; book = enter_each c now (datagrams buffer ends) (take n output) x.book; returned = x.returned })
  -- a burst that was refused whole
  refused_burst : {ks : List Call} {x : Run} (now : ℕ) (buffer ends lent : List ℕ) {r n : ℕ} {y : Stored} {output : List ℕ} → MadeWith c ks x → (r ≡ 0 → ⊥)
      → did_burst now buffer ends lent x.stored ≡ record { refusal = r; count = n; stored = y; output = output }
      → MadeWith c ks (record { stored = y; book = x.book; returned = x.returned })

-- so what is said of `calls` is said of runs with bursts among the calls
abbrev pub EveryRunWithBursts : Type 0
EveryRunWithBursts = (c : Config) (ks : List Call) (x : Run) → MadeWith c ks x → Shown c ks x
