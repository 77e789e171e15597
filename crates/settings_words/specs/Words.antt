-- The settings of a line as plain numbers: what they stand for and how they are written, and the line's reader and writer on them.
use Rattle.std.specs.Prelude.{◌≡◌, Bool, true, cond, ◌&&◌, ◌||◌, List, ℕ, eqb, ltb, Result, Ok, Err}
use Rattle.refusals.specs.Refusals.{SETTINGS}
use Rattle.config.specs.declared.Settings.{Settings}
use Rattle.config.specs.Mode.{mode_of, mode_number, dynamic_of}
use Rattle.settings_line.specs.Line as Line
use Rattle.settings_line.specs.Line.{read_line, write_line}
use Rattle.settings_words.specs.declared.SettingsWords.{SettingsWords}
use Rattle.settings_words.specs.declared.SettingsRead.{SettingsRead}
use Rattle.settings_words.specs.declared.SettingsWritten.{SettingsWritten}

-- the settings that the words stand for
unfoldable pub settings_of : SettingsWords → Settings
settings_of w =
    record {
      mode = mode_of w.mode (record { min = w.min_delay; max = w.max_delay; target_recovery = w.target_recovery });
      clock_rate = w.clock_rate;
      max_entries = w.max_entries;
      max_gaps = w.max_gaps;
      delay = w.delay;
      initial_nack_delay = w.initial_nack_delay;
      default_nack_resend_delay = w.default_nack_resend_delay;
      max_nack_attempts = w.max_nack_attempts;
    }

-- how settings are written in words
unfoldable pub words_of : Settings → SettingsWords
words_of s =
    record {
      delay = s.delay;
      initial_nack_delay = s.initial_nack_delay;
      default_nack_resend_delay = s.default_nack_resend_delay;
      min_delay = (dynamic_of s.mode).min;
      max_delay = (dynamic_of s.mode).max;
      target_recovery = (dynamic_of s.mode).target_recovery;
      max_entries = s.max_entries;
      max_gaps = s.max_gaps;
      clock_rate = s.clock_rate;
      max_nack_attempts = s.max_nack_attempts;
      mode = mode_number s.mode;
    }

unfoldable pub no_settings : SettingsWords
no_settings =
    record { delay = 0; initial_nack_delay = 0; default_nack_resend_delay = 0; min_delay = 0; max_delay = 0; target_recovery = 0; max_entries = 0; max_gaps = 0; clock_rate = 0; max_nack_attempts = 0; mode = 0 }

-- ---- the reader

unfoldable pub told : Result Settings ℕ → SettingsRead
told (Ok s) = record { refusal = 0; settings = words_of s }
told (Err k) = record { refusal = k; settings = no_settings }

unfoldable pub read_words : List ℕ → SettingsRead
read_words line = told (read_line line)

-- ---- the writer

unfoldable pub wrote_words : Result ℕ ℕ → SettingsWritten
wrote_words (Ok n) = record { refusal = 0; bytes = n }
wrote_words (Err k) = record { refusal = k; bytes = 0 }

-- an answer in words, with what the lent output then holds
pub record Outcome : Type 0 where
  pub answer : SettingsWritten
  pub output : List ℕ

abbrev pub outcome : SettingsWritten → List ℕ → Outcome
outcome answer output = record { answer = answer; output = output }

abbrev pub in_words : Line.Outcome → Outcome
in_words o = outcome (wrote_words o.answer) o.output

-- "The .. last three are 0 outside mode 2": settings of another mode have no place for them, so the words are looked at before they are settings
unfoldable pub mode_fits : SettingsWords → Bool
mode_fits w = eqb w.mode 2 || (ltb w.mode 2 && (eqb w.min_delay 0 && (eqb w.max_delay 0 && eqb w.target_recovery 0)))

-- a mode that is none, or words that its settings have no place for, are refused under 1
unfoldable pub write_words : SettingsWords → List ℕ → Outcome
write_words w out = cond (mode_fits w) (in_words (write_line (settings_of w) out)) (outcome (record { refusal = SETTINGS; bytes = 0 }) out)

-- What the reader gives, the writer takes, and for the same settings.
pub record Kept : Type 0 where
  pub taken : (s : Settings) → mode_fits (words_of s) ≡ true
  pub same : (s : Settings) → settings_of (words_of s) ≡ s
