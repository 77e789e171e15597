-- What is written as words is read again as it was.
use mathlib.Core.Path.{◌≡◌, refl}
use mathlib.Core.Bool.{Bool, true, false}
use lib.Dec.{eqb, leb}
use lib.Ieee.{binary32, binary64}
use lib.Ieee.Bits.{of_bits-to_bits, of_bits-fits}
use Rattle.rtp.specs.declared.ExtendedSequenceNumber.{ExtendedSequenceNumber}
use Rattle.rtx_state.specs.declared.RtxRtt.{RtxRtt}
use Rattle.model.specs.declared.Received.{Received}
use Rattle.std.specs.Prelude.{Option, None, Some}
use Rattle.config.specs.declared.RtpInboundStreamSortedQueueMode.TheVariants.{Fixed, Dynamic}
use Rattle.config.specs.declared.RtpInboundQueueMode.{RtpInboundQueueMode}
use Rattle.config.specs.declared.RtpInboundQueueMode.TheVariants.{Passthrough, SortedQueue}
use Rattle.config.specs.Mode.{mode_number}
use Rattle.config.proofs.Mode.{mode-back}
use Rattle.model.specs.declared.Config.{Config}
use Rattle.ffi_words.specs.Words.{config_readable, readable, config_of, flagged, queue_of, session_of, flag, config_words, last_words, returned_words, rtt_words, words_of, Kept}

-- ---- each part

flag-kept : (b : Bool) → eqb (flag b) 1 ≡ b
unfolding flag
flag-kept false = refl
flag-kept true = refl

last-kept : (l : Option Received) → let w = last_words l in flagged w.0 (record { instant = w.1; timestamp = record { 0 = w.2 }; number = record { 0 = w.3 } }) ≡ l
unfolding flagged last_words
last-kept None = refl
last-kept (Some r) = refl

returned-kept : (l : Option ExtendedSequenceNumber) → let w = returned_words l in flagged w.0 (record { 0 = w.1 }) ≡ l
unfolding flagged returned_words
returned-kept None = refl
returned-kept (Some n) = refl

rtt_kept : (r : Option RtxRtt) → let w = rtt_words r in flagged w.0 (record { srtt = w.1; variation = w.2 }) ≡ r
unfolding flagged rtt_words
rtt_kept None = refl
rtt_kept (Some e) = refl

config-kept : (c : Config) → config_of (config_words c) ≡ c
unfolding config_of config_words
config-kept c = rw (mode-back c.settings.mode, flag-kept c.senders.has_rtx)

-- ---- each flag

mode_reads : (m : RtpInboundQueueMode) → leb (mode_number m) 2 ≡ true
unfolding mode_number
mode_reads Passthrough = refl
mode_reads (SortedQueue Fixed) = refl
mode_reads (SortedQueue (Dynamic d)) = refl

flag_reads : (b : Bool) → leb (flag b) 1 ≡ true
unfolding flag
flag_reads false = refl
flag_reads true = refl

last_reads : (l : Option Received) → leb (last_words l).0 1 ≡ true
unfolding last_words
last_reads None = refl
last_reads (Some r) = refl

returned_reads : (l : Option ExtendedSequenceNumber) → leb (returned_words l).0 1 ≡ true
unfolding returned_words
returned_reads None = refl
returned_reads (Some n) = refl

rtt_reads : (r : Option RtxRtt) → leb (rtt_words r).0 1 ≡ true
unfolding rtt_words
rtt_reads None = refl
rtt_reads (Some e) = refl

config_reads : (c : Config) → config_readable (config_words c) ≡ true
unfolding config_readable config_words
config_reads c = rw (mode_reads c.settings.mode, flag_reads c.senders.has_rtx)

pub words_kept : Kept
unfolding readable session_of queue_of words_of
words_kept =
    record {
      stays_readable = λ s. rw (config_reads s.queue.config, last_reads s.queue.last, returned_reads s.queue.returned, rtt_reads s.queue.rtx.rtt);
      floats_fit = λ w. record { rate_fits = of_bits-fits binary64 _; jitter_fits = of_bits-fits binary64 _; loss_fits = of_bits-fits binary32 _ };
      same = λ s h. rw (config-kept s.queue.config, last-kept s.queue.last, returned-kept s.queue.returned, rtt_kept s.queue.rtx.rtt, of_bits-to_bits binary64 _ h.rate_fits, of_bits-to_bits binary64 _ h.jitter_fits, of_bits-to_bits binary32 _ h.loss_fits);
    }
