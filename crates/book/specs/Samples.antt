-- 02, point 5, over every list of calls: the samples that the calls yield, told by the book, and the figure that `rtx_stats` shows of them.
use Rattle.std.specs.Prelude.{◌≡◌, cond, List, [], ◌∷◌, ◌++◌, ℕ, ◌-◌, Option, None, Some}
use Rattle.rtp_packet.specs.Header.{payload_of}
use Rattle.rtp_packet.specs.Original.{original_number}
use Rattle.rtx_state.specs.Drift.{Tracks}
use Rattle.stats.specs.declared.RtpInboundRtxStats.{RtpInboundRtxStats}
use Rattle.model.specs.declared.Config.{Config}
use Rattle.model.specs.Lists.{some?}
use Rattle.model.specs.Rules.{is, gap_nacked_at, lost_nacked_at}
use Rattle.model.specs.Storage.{Storage}
use Rattle.model.specs.Calls.{Call, media, repair, poll, poll_nack, nack_wire, timeout_receive, timeout_nack, rtx_stats, highest_received, stats}
use Rattle.model.specs.Table.{opening_refusal}
use Rattle.model.specs.Did.{did}
use Rattle.book.specs.Book.{Heard, refused, accepted, Book, read}
use Rattle.book.specs.Claim.{hear, Run, start, call, calls}

-- from the instant of a number's only NACK, if that is known, until now
unfoldable pub round_trip : ℕ → Option ℕ → List ℕ
round_trip now None = []
round_trip now (Some nacked) = (now - nacked) ∷ []

-- "A gap NACKed just once yields a sample when its repair comes, also too late if the number is still remembered."
unfoldable pub sample_of : (now number : ℕ) → Book → List ℕ
sample_of now n b = cond (some? (is n) b.missing) (round_trip now (gap_nacked_at n b.missing)) (round_trip now (lost_nacked_at n b.remembered))

unfoldable pub yields : Call → Heard → Book → List ℕ
yields k refused b = []
yields (media now d) (accepted out) b = []
yields (repair now d) (accepted out) b = sample_of now (read b (original_number (payload_of d))) b
yields (poll now lent) (accepted out) b = []
yields (poll_nack now lent) (accepted out) b = []
yields (nack_wire now lent) (accepted out) b = []
yields (timeout_receive now) (accepted out) b = []
yields (timeout_nack now) (accepted out) b = []
yields rtx_stats (accepted out) b = []
yields highest_received (accepted out) b = []

-- the samples that the calls yield, the oldest first
unfoldable pub samples_from : Config → Run → List Call → List ℕ
samples_from c x [] = []
samples_from c x (k ∷ ks) = yields k (hear (did k x.stored).answer) x.book ++ samples_from c (call c x k) ks

abbrev pub samples : Config → List Call → List ℕ
samples c ks = samples_from c (start c) ks

-- After every list of calls: where `rtx_stats` shows figures, the round trip among them keeps the bound, on the samples since the opening.
pub record ShownTracks : Type 0 where
  pub shown :
      (c : Config) (t : Storage) (ks : List Call) (f : RtpInboundRtxStats) → opening_refusal c t ≡ 0
      → (did rtx_stats (calls c ks).stored).answer ≡ stats (Some f) → Tracks f.rtt (samples c ks)
