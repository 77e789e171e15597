-- `judge_packet` meets its contract: turned back under 14 or 12, or found.
use mathlib.Core.Path.{refl}
use Rattle.model.specs.Storage.{parse}
use Rattle.model.specs.Push.{media_place}
use Rattle.push.proofs.Pushing.{passed, payload-is, judged_full, judged_found}
use Rattle.push.proofs.judge_packet.Goals as goal

pub returns-in_err-check_packet : goal.returns-in_err-check_packet
unfolding media_place parse
returns-in_err-check_packet c = λ e p r.
    let a = c.args in
    rw (passed c.from_residual.result _ c.from_residual.ensures.1)
    (judged_full _ _ _ _ c.requires.read c.extended_entry-entry.result _
    (payload-is _ _ _ c.payload-payload.ensures c.requires.read.packet) c.extended_entry-entry.ensures.by_index c.extended_entry-entry.ensures.size_value.0
    _ c.media_place-place.ensures _ c.in_err-check_packet.ensures _ refl)

pub returns : goal.returns
unfolding media_place parse
returns c = λ e p r.
    let a = c.args in
    judged_found _ _ _ _ c.requires.read c.extended_entry-entry.result _
    (payload-is _ _ _ c.payload-payload.ensures c.requires.read.packet) c.extended_entry-entry.ensures.by_index c.extended_entry-entry.ensures.size_value.0
    _ c.media_place-place.ensures _ c.in_ok-check_packet.ensures refl c.extended_entry-entry.ensures.size_value.1
