-- The delay of a session without RTX, or without an estimate, rests on its settings and its jitter alone (02, point 7).
use Rattle.std.specs.Prelude.{◌≡◌, false, None}
use Rattle.packet_loss.specs.declared.PacketLoss.{PacketLoss}
use Rattle.config.specs.Delay.{target_delay}
use Rattle.model.specs.declared.Queue.{Queue}
use Rattle.model.specs.Poll.{estimate_of, delay_of}

pub record JitterAlone : Type 0 where
  pub without_rtx : (q : Queue) → q.config.senders.has_rtx ≡ false → estimate_of q ≡ None
  -- whatever the loss
  pub by_jitter : (q : Queue) → estimate_of q ≡ None → (p : PacketLoss) → delay_of q ≡ target_delay q.config.settings q.jitter p None
