-- What the contracts of this crate say, in the terms of the queue's definitions.
use mathlib.Core.Path.{◌≡◌}
use mathlib.Core.Bool.{Bool, true, ◌&&◌, not}
use mathlib.Core.List.{List}
use lib.Dec.{leb}
use lib.ListN.{length}
use Rattle.words.proofs.Ordered.{and_right}
use Rattle.durations.specs.Seconds.{largest}
use Rattle.rtp_packet.specs.Datagram.{largest_payload}
use Rattle.rtp.specs.Opt.{at_most}
use Rattle.model.specs.Lists.{some?, every?}
use Rattle.model.specs.Records.{Entry, Gap}
use Rattle.model.specs.Rules.{is}
use Rattle.model.specs.Valid.{Bounds, by_clock, not_passed, fields_sound, entry_sound}
use Rattle.packet_gaps.proofs.Turns.{every_weaker}
use Rattle.entries.specs.Entries.{fits}

-- ---- check 16

-- sound entries have payloads that fit
pub sound-fits : (b : Bounds) (gaps : List Gap) (es : List Entry) → every? (entry_sound b gaps) es ≡ true → every? fits es ≡ true
unfolding fields_sound
sound-fits b gaps es s = every_weaker (entry_sound b gaps) fits one es s
  where
    one : (e : Entry) → entry_sound b gaps e ≡ true → fits e ≡ true
    one e f =
        let a : Bool = at_most e.number b.highest in
        let p : Bool = not_passed b.passed e.number in
        let m : Bool = not (some? (is e.number) gaps) in
        let t : Bool = leb e.timestamp largest in
        let c : Bool = by_clock b.clock e.arrival in
        let l : Bool = leb (length e.payload) largest_payload in
        and_right c l (and_right t (c && l) (and_right m (t && (c && l)) (and_right p (m && (t && (c && l))) (and_right a (p && (m && (t && (c && l)))) f))))
