-- What is claimed of loss and attempts beside the contracts: both grow, and 02's examples.
use Rattle.std.specs.Prelude.{◌≡◌, Bool, true, ◌&&◌, List, [], ◌∷◌, ℕ, ◌≤◌, T, eqb}
use Rattle.std.specs.Float.{binary32}
use Rattle.std.specs.Float.Ieee.{of_bits, le}
use Rattle.packet_loss.specs.Loss.{loss_in_range}
use Rattle.packet_loss.specs.declared.PacketLoss.{PacketLoss}
use Rattle.nack_attempts.specs.Attempts.{loss_of, attempts_of}

-- more loss is no smaller k, and a larger k no fewer attempts
pub record Grow : Type 0 where
  pub loss : (p q : PacketLoss) → T (loss_in_range p) → T (loss_in_range q) → T (le p.loss q.loss) → loss_of p.loss ≤ loss_of q.loss
  pub attempts : (k k' t max : ℕ) → k ≤ k' → attempts_of k t max ≤ attempts_of k' t max

-- k, t, max attempts and n
pub record Row : Type 0 where
  pub k : ℕ
  pub t : ℕ
  pub max : ℕ
  pub n : ℕ

abbrev row : ℕ → ℕ → ℕ → ℕ → Row
row k t max n = record { k = k; t = t; max = max; n = n }

-- "With k = 500 and t = 9,900, n is 2; with k = 100 it is 1", by max attempts
abbrev pub examples : List Row
examples =
    row 500 9900 2 2
    ∷ row 500 9900 3 2
    ∷ row 500 9900 4 2
    ∷ row 100 9900 1 1
    ∷ row 100 9900 2 1
    ∷ row 100 9900 3 1
    ∷ row 100 9900 4 1
    ∷ row 500 9900 1 1
    ∷ row 9900 9999 4 4
    ∷ []

unfoldable pub hold : List Row → Bool
hold [] = true
hold (r ∷ rs) = eqb (attempts_of r.k r.t r.max) r.n && hold rs

-- an `f32` by its bits, and k
pub record LossRow : Type 0 where
  pub bits : ℕ
  pub k : ℕ

abbrev loss : ℕ → ℕ → LossRow
loss bits k = record { bits = bits; k = k }

-- 0, the values beside a hundredth and a twentieth, and 1: no `f32` is a twentieth, and the one next above it makes 501
abbrev pub losses : List LossRow
losses =
    loss 0 10
    ∷ loss 0x3c23_d70a 100
    ∷ loss 0x3c23_d70b 101
    ∷ loss 0x3d4c_cccc 500
    ∷ loss 0x3d4c_cccd 501
    ∷ loss 0x3f80_0000 9900
    ∷ []

unfoldable pub hold_losses : List LossRow → Bool
hold_losses [] = true
hold_losses (r ∷ rs) = eqb (loss_of (of_bits binary32 r.bits)) r.k && hold_losses rs

pub record RowsHold : Type 0 where
  pub attempts : hold examples ≡ true
  pub losses : hold_losses losses ≡ true
