-- 02, point 4, "A burst handed over together": the single media calls, one for each datagram, in that order, and their answers as numbers.
use Rattle.std.specs.Prelude.{Bool, true, cond, ◌&&◌, ◌||◌, not, List, [], ◌∷◌, ℕ, eqb, leb, length, Result, Ok, Err}
use Rattle.words.specs.Words.{over}
use Rattle.refusals.specs.declared.Refusal.{Refusal}
use Rattle.refusals.specs.Refusals.{OUTPUT, refuse_if}
use Rattle.rtp_packet.specs.Header.{between}
use Rattle.model.specs.Storage.{Stored}
use Rattle.model.specs.Calls.{Answer, refused, queued, dropped, repaired, nothing, packet, nack, wire, timeout, stats, highest, media}
use Rattle.model.specs.Did.{did}

-- ---- the datagrams

-- the parts of the buffer from one end to the next
unfoldable pub parts : (from : ℕ) (buffer ends : List ℕ) → List (List ℕ)
parts from buffer [] = []
parts from buffer (e ∷ es) = between from e buffer ∷ parts e buffer es

-- "The first starts at byte 0; bytes after the last end are ignored."
abbrev pub datagrams : (buffer ends : List ℕ) → List (List ℕ)
datagrams buffer ends = parts 0 buffer ends

-- ---- "Session, storage and answers are those of single media calls in that order; a refused datagram doesn't stop the later ones."

unfoldable pub pushed : ℕ → List (List ℕ) → Stored → Stored
pushed now [] m = m
pushed now (d ∷ ds) m = pushed now ds (did (media now d) m).stored

-- "one answer number for each datagram: 0 queued, 255 dropped, else the refusal"
unfoldable pub answer_number : Answer → ℕ
answer_number queued = 0
answer_number dropped = 255
answer_number (refused k) = k
-- not of a media call
answer_number (repaired f) = 0
answer_number nothing = 0
answer_number (packet p) = 0
answer_number (nack n) = 0
answer_number (wire n) = 0
answer_number (timeout t) = 0
answer_number (stats r) = 0
answer_number (highest n) = 0

-- a number that is no refusal
unfoldable pub is_accepted : ℕ → Bool
is_accepted n = eqb n 0 || eqb n 255

unfoldable pub answer_numbers : ℕ → List (List ℕ) → Stored → List ℕ
answer_numbers now [] m = []
answer_numbers now (d ∷ ds) m = answer_number (did (media now d) m).answer ∷ answer_numbers now ds (did (media now d) m).stored

-- ---- 15

-- no end is below the one before it or past the buffer, of so many bytes
unfoldable pub ends_fit : (bytes from : ℕ) → List ℕ → Bool
ends_fit bytes from [] = true
ends_fit bytes from (e ∷ es) = leb from e && (leb e bytes && ends_fit bytes e es)

-- "15 also covers ends that fall or pass the buffer, and a short answer list; it then covers the whole call, ahead of every other check."
unfoldable pub burst_refusal : (bytes : ℕ) (ends : List ℕ) (places : ℕ) → ℕ
burst_refusal bytes ends places = refuse_if (not (ends_fit bytes 0 ends && leb (length ends) places)) OUTPUT

-- ---- the call

pub record BurstDone : Type 0 where
  -- of the whole call
  pub refusal : ℕ
  -- how many answers were written
  pub count : ℕ
  pub stored : Stored
  -- the lent list of answers: "Answer places past the last datagram keep their bytes."
  pub output : List ℕ

-- of what the call of the code answers
abbrev pub written : Result ℕ Refusal → ℕ
written (Ok n) = n
written (Err e) = 0

unfoldable pub did_burst : ℕ → (buffer ends output : List ℕ) → Stored → BurstDone
did_burst now buffer ends output m =
    let k = burst_refusal (length buffer) ends (length output) in
    let ds = datagrams buffer ends in
    cond (eqb k 0)
    (record { refusal = 0; count = length ends; stored = pushed now ds m; output = over (answer_numbers now ds m) output })
    (record { refusal = k; count = 0; stored = m; output = output })
