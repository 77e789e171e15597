-- 02, point 13: settings as the numbers of a line's fields, and which of them have a line.
use Rattle.std.specs.Prelude.{Bool, ◌&&◌, ◌||◌, List, [], ◌∷◌, ℕ, eqb, get_or}
use Rattle.config.specs.declared.Settings.{Settings}
use Rattle.config.specs.Mode.{mode_of, mode_number, dynamic_of}
use Rattle.config.specs.Valid.{settings_valid}

-- the fields after the version: "mode .., clock rate, D, G, fixed delay, initial delay, default resend delay, max attempts, min, max, t"
unfoldable pub numbers_of : Settings → List ℕ
numbers_of s =
    mode_number s.mode
    ∷ s.clock_rate
    ∷ s.max_entries
    ∷ s.max_gaps
    ∷ s.delay
    ∷ s.initial_nack_delay
    ∷ s.default_nack_resend_delay
    ∷ s.max_nack_attempts
    ∷ (dynamic_of s.mode).min
    ∷ (dynamic_of s.mode).max
    ∷ (dynamic_of s.mode).target_recovery
    ∷ []

-- the settings whose numbers these are
unfoldable pub settings_of : List ℕ → Settings
settings_of ns =
    record {
      mode = mode_of (get_or ns 0 0) (record { min = get_or ns 8 0; max = get_or ns 9 0; target_recovery = get_or ns 10 0 });
      clock_rate = get_or ns 1 0;
      max_entries = get_or ns 2 0;
      max_gaps = get_or ns 3 0;
      delay = get_or ns 4 0;
      initial_nack_delay = get_or ns 5 0;
      default_nack_resend_delay = get_or ns 6 0;
      max_nack_attempts = get_or ns 7 0;
    }

-- "The fixed delay is 0 outside mode 1, the last three are 0 outside mode 2."
unfoldable pub zeros_outside : List ℕ → Bool
zeros_outside ns =
    (eqb (get_or ns 0 0) 1 || eqb (get_or ns 4 0) 0) && (eqb (get_or ns 0 0) 2 || (eqb (get_or ns 8 0) 0 && eqb (get_or ns 9 0) 0 && eqb (get_or ns 10 0) 0))

-- The settings that have a line. The opening's own test takes a fixed delay other than 0 in every mode.
unfoldable pub line_valid : Settings → Bool
line_valid s = settings_valid s && zeros_outside (numbers_of s)
