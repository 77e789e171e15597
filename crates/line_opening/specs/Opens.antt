-- 02, point 13, beside the opening of `model`: what a line keeps, the opening takes, and what it takes, a line keeps.
use Rattle.std.specs.Prelude.{◌≡◌, true, List, ℕ, ◌≤◌, length, Ok}
use Rattle.words.specs.Words.{over}
use Rattle.config.specs.declared.Settings.{Settings}
use Rattle.config.specs.declared.Senders.{Senders}
use Rattle.config.specs.Valid.{senders_valid}
use Rattle.model.specs.declared.Config.{Config}
use Rattle.model.specs.Storage.{Storage, lengths_fit}
use Rattle.model.specs.Table.{opening_refusal}
use Rattle.settings_line.specs.Fields.{numbers_of, zeros_outside}
use Rattle.settings_line.specs.Line.{line_of, outcome, write_line, read_line}

pub record AsOpened : Type 0 where
  -- what the reader accepts, of either version, opens with senders in range and storage of the settings' lengths
  pub opens : (line : List ℕ) (s : Settings) (who : Senders) (t : Storage) → read_line line ≡ Ok s
      → senders_valid who ≡ true → lengths_fit s t ≡ true → opening_refusal (record { settings = s; senders = who }) t ≡ 0
  -- what opens, and has zeros where its mode needs none, is written
  pub writes : (c : Config) (t : Storage) (out : List ℕ) → opening_refusal c t ≡ 0 → zeros_outside (numbers_of c.settings) ≡ true → 145 ≤ length out
      → write_line c.settings out ≡ outcome (Ok 145) (over (line_of c.settings) out)
