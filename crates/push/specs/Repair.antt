-- `push_rtx` once the datagram is read: what becomes of a repair, and what the functions over the lists ask of it.
use Rattle.std.specs.Prelude.{◌≡◌, List, [], ℕ, ◌-◌, Option, None, Some}
use Rattle.rtp_packet.specs.declared.RtpPacket.{RtpPacket}
use Rattle.rtp_packet.specs.Original.{original_number, original_payload}
use Rattle.model.specs.Records.{Entry}
use Rattle.model.specs.Push.{extended_entry, Fate, repair_fate, after_fate}
use Rattle.model.specs.Storage.{Stored, parse, write}
use Rattle.model.specs.Calls as Calls
use Rattle.model.specs.Table.{original_number_refusal, refusal_for}
use Rattle.model.specs.Did.{Done}
use Rattle.entries.specs.Entries.{entry, Incoming}
use Rattle.session.specs.declared.rtx.Fate as Code
use Rattle.session.specs.Place.{fate}
use Rattle.storage.specs.Settled.{Settled}
use Rattle.push.specs.declared.rtx.Repair.{Repair}
use Rattle.push.specs.Answers.{unless_refused}

unfoldable pub did_fate : ℕ → Entry → Fate → Stored → Done
unfolding unless_refused
did_fate instant e f m = unless_refused (refusal_for e f (parse m)) m (record { answer = Calls.repaired f; stored = write (after_fate instant e f (parse m)); output = [] })

-- what `did` says of a repair that no check before 14 turns back
unfoldable pub did_repair : ℕ → Entry → Stored → Done
did_repair instant e m = did_fate instant e (repair_fate (parse m) e.number) m

-- what `did` says of a repair that no check before 10 turns back
unfoldable pub did_original : ℕ → RtpPacket → List ℕ → Stored → Done
unfolding unless_refused
did_original instant p payload m =
    let q = m.session.queue in
    unless_refused (original_number_refusal q payload) m
    (did_repair instant (extended_entry q None p.timestamp.0 (original_number payload) p.marker (original_payload payload)) m)

-- how many are left of n, where one may have gone
unfoldable pub left_after : ℕ → Option ℕ → ℕ
left_after n None = n
left_after n (Some i) = n - 1

-- the repair is accepted, and the storage settled
pub record FitRepair (r : Repair) (f : Code.Fate) (m : Stored) : Type 0 where
  pub settled : Settled m
  pub meets : fate f ≡ repair_fate (parse m) r.entry.number.0
  pub accepted : refusal_for (entry r.entry r.payload.now) (fate f) (parse m) ≡ 0
  pub incoming : Incoming r.entry r.payload.now

-- what an accepted repair leaves
abbrev pub repaired_by : Repair → Code.Fate → Stored → Stored
repaired_by r f m = write (after_fate r.instant (entry r.entry r.payload.now) (fate f) (parse m))
