-- Handing out: the first entry goes, the gaps below it stand at the front, and what is remembered of them is read there.
use mathlib.Core.Path.{◌≡◌, ap, ◌∙◌}
use mathlib.Core.Bool.{true}
use mathlib.Core.List.{List, [], ◌∷◌}
use Prim.Native.Nat.{ℕ, ◌*◌, ◌-◌, ◌≤◌, ◌<◌}
use native.Mathlib.Omega.{arith}
use lib.ListN.{length, take, drop, length-drop}
use lib.Seq.{length-take-le}
use Rattle.words.specs.Blocks.{laid}
use Rattle.words.specs.Order.{ascends}
use Rattle.config.specs.declared.RtpInboundQueueMode.{RtpInboundQueueMode}
use Rattle.model.specs.declared.Queue.{Queue}
use Rattle.model.specs.Records.{Remembered, gap_numbers, with_returned}
use Rattle.model.specs.Rules.{remembered_after, lost_below_of, left_from_of}
use Rattle.model.specs.Poll.{lose, hand_out}
use Rattle.model.specs.Storage.{Stored, payload_bytes, entry_words_of, payload_bytes_of, gap_words_of, remembered_words_of, gaps_of, remembered_of, parse, write}
use Rattle.model.proofs.Laid.{length-entries_of, length-gaps_of}
use Rattle.entries.specs.declared.Entry as Row
use Rattle.entries.specs.Entries.{entry}
use Rattle.packet_gaps.proofs.Model.{gaps_of-take}
use Rattle.model.specs.Contract.{stored}
use Rattle.poll.specs.Steps.{entries_in, gaps_in, front, Leaves}
use Rattle.poll.proofs.Parted.{lost-le, lost_front, left_front}

module _ (mode : RtpInboundQueueMode) (g : List ℕ) (n x k : ℕ) (a : ascends (gap_numbers (gaps_of g n)) ≡ true) (ek : k ≡ length (lost_below_of mode x (gaps_of g n))) where
  pub lost-few : k ≤ n
  lost-few = omega (arith, ek, lost-le x (gaps_of g n) a mode, length-gaps_of g n)

  lost_are : gaps_of g k ≡ lost_below_of mode x (gaps_of g n)
  lost_are = gaps_of-take g n k lost-few ∙ ap (λ (i : ℕ). take i (gaps_of g n)) ek ∙ lost_front x (gaps_of g n) a mode

  left_are : drop k (gaps_of g n) ≡ left_from_of mode x (gaps_of g n)
  left_are = ap (λ (i : ℕ). drop i (gaps_of g n)) ek ∙ left_front x (gaps_of g n) a mode

  left-count : n - k ≡ length (left_from_of mode x (gaps_of g n))
  left-count = omega (arith, ap length left_are, length-drop k (gaps_of g n), length-gaps_of g n)

-- as many bytes as the entry says
pub payload-size : (size : ℕ) (bytes : List ℕ) (n : ℕ) → payload_bytes * n ≤ length bytes → 0 < n → size ≤ payload_bytes → length (take size bytes) ≡ size
payload-size size bytes n r p h = length-take-le size bytes (omega arith)

module _ (m : Stored) (a : ascends (gap_numbers (gaps_in m)) ≡ true) (x : Row.Entry) (payload : List ℕ) (t : front m ≡ entry x payload ∷ [])
    (k : ℕ) (ek : k ≡ length (lost_below_of m.session.queue.config.settings.mode x.number.0 (gaps_in m))) where
  abbrev kept : List Remembered
  kept = remembered_after m.session.queue.config.senders.has_rtx (gaps_of m.storage.gaps k) (remembered_of m.storage.remembered m.session.remembered)

  pub handed_leaves : (count : ℕ) (q : Queue) (e p g r : List ℕ)
      → q ≡ with_returned (lose k m.session.queue) x.number.0
      → count ≡ length kept
      → e ≡ laid entry_words_of (length m.storage.entries) (drop 1 (entries_in m))
      → p ≡ laid payload_bytes_of (length m.storage.payloads) (drop 1 (entries_in m))
      → g ≡ laid gap_words_of (length m.storage.gaps) (drop k (gaps_in m))
      → r ≡ laid remembered_words_of (length m.storage.remembered) kept
      → Leaves (hand_out (front m) (parse m)) m.storage (stored (record { queue = q; entries = m.session.entries - 1; gaps = m.session.gaps - k; remembered = count }) e p g r)
  unfolding hand_out parse write
  handed_leaves count q e p g r eq ec ee ep eg er =
      let mode = m.session.queue.config.settings.mode in
      let fewer : m.session.entries - 1 ≡ length (drop 1 (entries_in m)) = omega (arith, length-drop 1 (entries_in m), length-entries_of m.storage.entries m.storage.payloads m.session.entries) in
      let lost = lost_are mode m.storage.gaps m.session.gaps x.number.0 k a ek in
      let left = left_are mode m.storage.gaps m.session.gaps x.number.0 k a ek in
      let count_left = left-count mode m.storage.gaps m.session.gaps x.number.0 k a ek in
      rw t
      (record {
        session_is = rw (fewer, count_left, eq, ec, lost, ek);
        entries_are = ee;
        payloads_are = ep;
        gaps_are = eg ∙ ap (laid gap_words_of (length m.storage.gaps)) left;
        remembered_are = er ∙ rw lost;
      })
