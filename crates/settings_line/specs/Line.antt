-- 02, point 13: "one line of fields, 12 columns each, decimal, right-justified after blanks, with a line feed", written and read.
use Rattle.std.specs.Prelude.{Bool, true, false, cond, not, ◌&&◌, List, [], ◌∷◌, ◌++◌, ℕ, zero, suc, ◌+◌, ◌*◌, eqb, leb, ltb, length, take, drop, get_or, replicate, None, Some, Option, Result, Ok, Err}
use Rattle.words.specs.Words.{over}
use Rattle.refusals.specs.Refusals.{SETTINGS, OUTPUT, settings_line, line_version}
use Rattle.columns.specs.Columns.{justified, field_number}
use Rattle.config.specs.declared.Settings.{Settings}
use Rattle.config.specs.Valid.{settings_valid}
use Rattle.settings_line.specs.Fields.{numbers_of, settings_of, zeros_outside, line_valid}

-- ---- written

unfoldable pub fields : List ℕ → List ℕ
fields [] = []
fields (n ∷ ns) = justified 12 n ++ fields ns

-- "the writer produces version 2"
unfoldable pub line_of : Settings → List ℕ
unfolding fields
line_of s = fields (2 ∷ numbers_of s) ++ (10 ∷ [])

-- an answer, with what the lent output then holds
pub record Outcome : Type 0 where
  pub answer : Result ℕ ℕ
  pub output : List ℕ

abbrev pub outcome : Result ℕ ℕ → List ℕ → Outcome
outcome answer output = record { answer = answer; output = output }

-- "Ranges .. and the fields that must be 0 fall under 1; an output under 145 bytes under 15"; bytes after the line are kept
unfoldable pub write_line : Settings → List ℕ → Outcome
unfolding line_of
write_line s out =
    cond (not (line_valid s)) (outcome (Err SETTINGS) out)
    (cond (ltb (length out) 145) (outcome (Err OUTPUT) out)
    (outcome (Ok 145) (over (line_of s) out)))

-- ---- read

unfoldable pub same : List ℕ → List ℕ → Bool
same [] [] = true
same [] (b ∷ t) = false
same (a ∷ s) [] = false
same (a ∷ s) (b ∷ t) = eqb a b && same s t

-- "the first 12 bytes are .. eleven blanks and" this digit
unfoldable pub begins : ℕ → List ℕ → Bool
unfolding same
begins version line = same (take 12 line) (replicate 11 32 ++ ((48 + version) ∷ []))

-- numbers in front of others, if there are any
unfoldable pub prepend : List ℕ → Option (List ℕ) → Option (List ℕ)
prepend vs None = None
prepend vs (Some ws) = Some (vs ++ ws)

unfoldable pub with_number : Option ℕ → Option (List ℕ) → Option (List ℕ)
unfolding prepend
with_number None o = None
with_number (Some n) o = prepend (n ∷ []) o

-- the numbers of the next k fields, if each is one
unfoldable pub numbers_in : ℕ → List ℕ → Option (List ℕ)
unfolding with_number
numbers_in zero s = Some []
numbers_in (suc k) s = with_number (field_number (take 12 s)) (numbers_in k (drop 12 s))

-- the numbers of a line of k fields, the version aside: none "when the line's length is not" that of them, "its last byte is no line
-- feed, or a field is not" a number
unfoldable pub line_numbers : ℕ → List ℕ → Option (List ℕ)
unfolding numbers_in
line_numbers k line =
    cond (eqb (length line) (12 * (k + 1) + 1) && eqb (get_or line (12 * (k + 1)) 0) 10) (numbers_in k (drop 12 line)) None

-- "Ranges, the version's modes and the fields that must be 0 fall under 1": version 1 "has modes 0 and 1 only", version 2 also 2
unfoldable pub taken : ℕ → List ℕ → Result Settings ℕ
taken version ns =
    cond (leb (get_or ns 0 0) version && zeros_outside ns && settings_valid (settings_of ns)) (Ok (settings_of ns)) (Err SETTINGS)

-- the numbers of a version 1 line as those of version 2: "in place of the last three, `nack_window` .. must be a number there and is then
-- discarded"
abbrev pub without_window : List ℕ → List ℕ
without_window ns = take 8 ns ++ (0 ∷ 0 ∷ 0 ∷ [])

unfoldable pub read_first : Option (List ℕ) → Result Settings ℕ
unfolding taken
read_first None = Err settings_line
read_first (Some ns) = taken 1 (without_window ns)

unfoldable pub read_second : Option (List ℕ) → Result Settings ℕ
unfolding taken
read_second None = Err settings_line
read_second (Some ns) = taken 2 ns

-- 21, then 20, then 1, or the settings. Version 1 has nine fields after the version, version 2 eleven.
unfoldable pub read_line : List ℕ → Result Settings ℕ
unfolding begins line_numbers read_first read_second
read_line line =
    cond (begins 1 line) (read_first (line_numbers 9 line))
    (cond (begins 2 line) (read_second (line_numbers 11 line))
    (Err line_version))
