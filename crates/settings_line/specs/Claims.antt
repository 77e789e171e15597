-- What 02, point 13, claims of lines and settings, and how the line stands to the opening.
use Rattle.std.specs.Prelude.{◌≡◌, true, List, ℕ, ◌≤◌, length, take, Ok}
use Rattle.config.specs.declared.Settings.{Settings}
use Rattle.config.specs.Valid.{settings_valid}
use Rattle.words.specs.Words.{over}
use Rattle.settings_line.specs.Fields.{numbers_of, zeros_outside, line_valid}
use Rattle.settings_line.specs.Line.{line_of, outcome, write_line, read_line, begins}

-- "Every line the writer makes reads back to the same settings"
abbrev pub ReadsBack : Type 0
ReadsBack = (s : Settings) (out : List ℕ) → (write_line s out).answer ≡ Ok 145 → read_line (take 145 (write_line s out).output) ≡ Ok s

-- "of the version 2 lines that mean the same only that one is accepted"
pub record Only (s : Settings) (line : List ℕ) : Type 0 where
  pub valid : line_valid s ≡ true
  pub made : line ≡ line_of s

abbrev pub OnlyLine : Type 0
OnlyLine = (s : Settings) (line : List ℕ) → begins 2 line ≡ true → read_line line ≡ Ok s → Only s line

-- The opening's test of settings and the line's: what is read, of either version, passes the opening's, and what passes the opening's and has
-- zeros where its mode needs none is written.
pub record AsTheOpening : Type 0 where
  pub opens : (s : Settings) (line : List ℕ) → read_line line ≡ Ok s → settings_valid s ≡ true
  pub writes : (s : Settings) (out : List ℕ) → settings_valid s ≡ true → zeros_outside (numbers_of s) ≡ true → 145 ≤ length out
      → write_line s out ≡ outcome (Ok 145) (over (line_of s) out)
