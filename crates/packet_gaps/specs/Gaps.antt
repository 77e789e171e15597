-- 001: what the functions over gaps in storage say, in the terms of the queue's definitions.
use Rattle.std.specs.Prelude.{◌≡◌, Bool, ◌&&◌, List, ℕ, ◌*◌, ◌^◌, ◌≤◌, ◌<◌, leb, length}
use Rattle.words.specs.Blocks.{laid}
use Rattle.config.specs.declared.NackTimings.{NackTimings}
use Rattle.durations.specs.Seconds.{largest}
use Rattle.rtp.specs.Opt.{number_of}
use Rattle.model.specs.Records as Records
use Rattle.model.specs.Valid as Valid
use Rattle.model.specs.Storage.{gap_words, gap_words_of, gaps_of}
use Rattle.packet_gaps.specs.declared.Gap.{Gap}
use Rattle.packet_gaps.specs.declared.check.Bounds.{Bounds}

-- n gaps stand in the words from place 0 on, with zeros after them, as they are written
pub record GapsIn (words : List ℕ) (n : ℕ) : Type 0 where
  pub room : gap_words * n ≤ length words
  pub held : words ≡ laid gap_words_of (length words) (gaps_of words n)

-- the record that a gap of the code stands for
abbrev pub gap : Gap → Records.Gap
gap g = record { number = g.number.0; detected = g.detected; nacks = g.nacks; nacked_at = g.nacked_at }

-- the bounds that those of the code stand for
abbrev pub bounds : Bounds → Valid.Bounds
bounds b = record { passed = number_of b.passed; highest = number_of b.highest; clock = b.clock }

-- a gap's instants are no later than the latest of all
unfoldable pub instants_fit : Records.Gap → Bool
instants_fit g = leb g.detected largest && leb g.nacked_at largest

-- the delays are far from the end of 64 bits
pub record Small (t : NackTimings) : Type 0 where
  pub initial : t.initial < 2 ^ 54
  pub resend : t.resend < 2 ^ 54
