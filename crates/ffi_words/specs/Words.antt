-- A session and its settings as plain numbers: which words are readable, what they stand for, and how a session is written in them. A float is
-- its bits (IEEE 754, 3.4).
use Rattle.std.specs.Prelude.{◌≡◌, Bool, true, false, ◌&&◌, cond, ℕ, T, eqb, leb, Option, None, Some}
use Rattle.std.specs.Float.{binary32, binary64}
use Rattle.std.specs.Float.Ieee.{of_bits, to_bits, fits}
use Rattle.rtp.specs.declared.ExtendedSequenceNumber.{ExtendedSequenceNumber}
use Rattle.rtx_state.specs.declared.RtxRtt.{RtxRtt}
use Rattle.model.specs.declared.Received.{Received}
use Rattle.config.specs.Mode.{mode_of, mode_number, dynamic_of}
use Rattle.model.specs.declared.Config.{Config}
use Rattle.model.specs.declared.Queue.{Queue}
use Rattle.model.specs.declared.Session.{Session}
use Rattle.ffi_words.specs.declared.ConfigWords.{ConfigWords}
use Rattle.ffi_words.specs.declared.SessionWords.{SessionWords}

-- ---- words that can be read: each flag is 0 or 1, and the mode 0 to 2

unfoldable pub config_readable : ConfigWords → Bool
config_readable c = leb c.mode 2 && leb c.has_rtx 1

unfoldable pub readable : SessionWords → Bool
readable w = config_readable w.config && leb w.has_last 1 && leb w.has_returned 1 && leb w.has_rtt 1

-- ---- what they stand for

unfoldable pub config_of : ConfigWords → Config
config_of c =
    record {
      settings =
          record { mode = mode_of c.mode (record { min = c.min_delay; max = c.max_delay; target_recovery = c.target_recovery }); clock_rate = c.clock_rate; max_entries = c.max_entries; max_gaps = c.max_gaps; delay = c.delay; initial_nack_delay = c.initial_nack_delay; default_nack_resend_delay = c.default_nack_resend_delay; max_nack_attempts = c.max_nack_attempts };
      senders = record { pt = c.pt; ssrc = record { 0 = c.ssrc }; has_rtx = eqb c.has_rtx 1; rtx_pt = c.rtx_pt; rtx_ssrc = record { 0 = c.rtx_ssrc } };
    }

-- a value that may be missing, beside its flag
unfoldable pub flagged : {A : Type 0} → ℕ → A → Option A
flagged flag a = cond (eqb flag 0) None (Some a)

unfoldable pub queue_of : SessionWords → Queue
queue_of w =
    record {
      config = config_of w.config;
      clock = w.clock;
      last = flagged w.has_last (record { instant = w.last_instant; timestamp = record { 0 = w.last_timestamp }; number = record { 0 = w.last_number } });
      returned = flagged w.has_returned (record { 0 = w.returned });
      rtx =
          record {
            rtt = flagged w.has_rtt (record { srtt = w.srtt; variation = w.variation });
            received_in_time = w.rtx_in_time;
            received_too_late = w.rtx_too_late;
            received_redundant = w.rtx_redundant;
            bytes_received = w.rtx_bytes;
          };
      counters = record { dropped = w.dropped; received = w.received; bytes = w.bytes; lost = w.lost };
      jitter = record { clock_rate = of_bits binary64 w.jitter_clock_rate_bits; jitter = of_bits binary64 w.jitter_bits };
      loss = record { loss = of_bits binary32 w.loss_bits };
    }

unfoldable pub session_of : SessionWords → Session
session_of w = record { queue = queue_of w; entries = w.entries; gaps = w.gaps; remembered = w.remembered }

-- what is read: nothing of words that cannot be read
unfoldable pub read : SessionWords → Option Session
read w = cond (readable w) (Some (session_of w)) None

-- ---- how they are written

unfoldable pub flag : Bool → ℕ
flag false = 0
flag true = 1

unfoldable pub config_words : Config → ConfigWords
config_words c =
    let set = c.settings in
    let dynamic = dynamic_of set.mode in
    let who = c.senders in
    record {
      delay = set.delay;
      initial_nack_delay = set.initial_nack_delay;
      default_nack_resend_delay = set.default_nack_resend_delay;
      min_delay = dynamic.min;
      max_delay = dynamic.max;
      target_recovery = dynamic.target_recovery;
      max_entries = set.max_entries;
      max_gaps = set.max_gaps;
      clock_rate = set.clock_rate;
      max_nack_attempts = set.max_nack_attempts;
      mode = mode_number set.mode;
      has_rtx = flag who.has_rtx;
      ssrc = who.ssrc.0;
      rtx_ssrc = who.rtx_ssrc.0;
      pt = who.pt;
      rtx_pt = who.rtx_pt;
    }

-- each a flag and what stands beside it
unfoldable pub last_words : Option Received → ℕ × ℕ × ℕ × ℕ
last_words None = (0, 0, 0, 0)
last_words (Some r) = (1, r.instant, r.timestamp.0, r.number.0)

unfoldable pub returned_words : Option ExtendedSequenceNumber → ℕ × ℕ
returned_words None = (0, 0)
returned_words (Some n) = (1, n.0)

unfoldable pub rtt_words : Option RtxRtt → ℕ × ℕ × ℕ
rtt_words None = (0, 0, 0)
rtt_words (Some e) = (1, e.srtt, e.variation)

unfoldable pub words_of : Session → SessionWords
words_of s =
    let q = s.queue in
    let last = last_words q.last in
    let returned = returned_words q.returned in
    let rtt = rtt_words q.rtx.rtt in
    record {
      config = config_words q.config;
      clock = q.clock;
      has_last = last.0;
      last_instant = last.1;
      last_timestamp = last.2;
      last_number = last.3;
      has_returned = returned.0;
      returned = returned.1;
      has_rtt = rtt.0;
      srtt = rtt.1;
      variation = rtt.2;
      rtx_in_time = q.rtx.received_in_time;
      rtx_too_late = q.rtx.received_too_late;
      rtx_redundant = q.rtx.received_redundant;
      rtx_bytes = q.rtx.bytes_received;
      dropped = q.counters.dropped;
      received = q.counters.received;
      bytes = q.counters.bytes;
      lost = q.counters.lost;
      jitter_clock_rate_bits = to_bits binary64 q.jitter.clock_rate;
      jitter_bits = to_bits binary64 q.jitter.jitter;
      entries = s.entries;
      gaps = s.gaps;
      remembered = s.remembered;
      loss_bits = to_bits binary32 q.loss.loss;
    }

-- zeros, where there is no session to tell
unfoldable pub no_config : ConfigWords
no_config =
    record { delay = 0; initial_nack_delay = 0; default_nack_resend_delay = 0; min_delay = 0; max_delay = 0; target_recovery = 0; max_entries = 0; max_gaps = 0; clock_rate = 0; max_nack_attempts = 0; mode = 0; has_rtx = 0; ssrc = 0; rtx_ssrc = 0; pt = 0; rtx_pt = 0 }

unfoldable pub no_session : SessionWords
no_session =
    record { config = no_config; clock = 0; has_last = 0; last_instant = 0; last_timestamp = 0; last_number = 0; has_returned = 0; returned = 0; has_rtt = 0; srtt = 0; variation = 0; rtx_in_time = 0; rtx_too_late = 0; rtx_redundant = 0; rtx_bytes = 0; dropped = 0; received = 0; bytes = 0; lost = 0; jitter_clock_rate_bits = 0; jitter_bits = 0; entries = 0; gaps = 0; remembered = 0; loss_bits = 0 }

-- Each float is a value of its format (IEEE 754, 3.3). Those of a running program are, by their type.
pub record FloatsFit (q : Queue) : Type 0 where
  pub rate_fits : T (fits binary64 q.jitter.clock_rate)
  pub jitter_fits : T (fits binary64 q.jitter.jitter)
  pub loss_fits : T (fits binary32 q.loss.loss)

-- What a call writes, the next one reads as it was.
pub record Kept : Type 0 where
  pub stays_readable : (s : Session) → readable (words_of s) ≡ true
  pub floats_fit : (w : SessionWords) → FloatsFit (queue_of w)
  pub same : (s : Session) → FloatsFit s.queue → session_of (words_of s) ≡ s
