-- One changed bit: the byte moves up or down by the bit's weight, so every field that holds the bit gets another value.
use mathlib.Core.Path.{◌≡◌, refl}
use mathlib.Core.Logic.{◌⊎◌, inl, inr, ⊎_elim}
use mathlib.Core.Bool.{Bool, true, false, cond}
use mathlib.Core.List.{List}
use Prim.Native.Nat.{ℕ, ◌+◌, ◌-◌, ◌*◌, ◌/◌, ◌%◌, ◌^◌, ◌≤◌, ◌<◌}
use native.Mathlib.Nat.{pow-le-pow_right, one-le-pow, le-div_iff_mul-le}
use native.Mathlib.Omega.{arith}
use lib.ListN.{length, length-set}
use lib.Seq.{get_or-set_same, get_or-set_other}
use borrow.Author.Tests.{eqb-true}
use Rattle.rtp_packet.specs.Header.{byte, bit}
use Rattle.rtp_packet.specs.OneBit.{flipped, flip_bit}

weight_ge : (k : ℕ) → 1 ≤ 2 ^ k
weight_ge k = one-le-pow k 2 (omega arith)

-- b moved by w
abbrev Moved : ℕ → ℕ → ℕ → Type 0
Moved w b c = (c ≡ b + w) ⊎ (c + w ≡ b)

set-bit : (i k : ℕ) (d : List ℕ) → bit i k d ≡ true → 1 * 2 ^ k ≤ byte d i
unfolding bit
set-bit i k d e =
    let odd : byte d i / 2 ^ k % 2 ≡ 1 = eqb-true (byte d i / 2 ^ k % 2) 1 e in
    (le-div_iff_mul-le (weight_ge k)).0 (omega arith)

moves : (i k : ℕ) (d : List ℕ) → Moved (2 ^ k) (byte d i) (flipped i k d)
unfolding flipped
moves i k d = by_bit (bit i k d) refl
  where
    by_bit : (t : Bool) → bit i k d ≡ t → Moved (2 ^ k) (byte d i) (cond t (byte d i - 2 ^ k) (byte d i + 2 ^ k))
    by_bit true e = inr (omega (arith, set-bit i k d e))
    by_bit false e = inl refl

-- the byte itself, version 2 with a high bit changed, and a payload type with a low one
pub flipped_differs : (i k : ℕ) (d : List ℕ) → flipped i k d ≡ byte d i → ⊥
flipped_differs i k d e = ⊎_elim (λ m. omega (arith, weight_ge k)) (λ m. omega (arith, weight_ge k)) (moves i k d)

pub flipped-version : (i k : ℕ) (d : List ℕ) → 6 ≤ k → byte d i / 64 ≡ 2 → flipped i k d / 64 ≡ 2 → ⊥
flipped-version i k d h e f =
    let w : 2 ^ 6 ≤ 2 ^ k = pow-le-pow_right (omega arith) h in
    ⊎_elim (λ m. omega arith) (λ m. omega arith) (moves i k d)

pub flipped_type : (i k : ℕ) (d : List ℕ) → k ≤ 6 → flipped i k d % 128 ≡ byte d i % 128 → ⊥
flipped_type i k d h e =
    let w : 2 ^ k ≤ 2 ^ 6 = pow-le-pow_right (omega arith) h in
    ⊎_elim (λ m. omega (arith, weight_ge k)) (λ m. omega (arith, weight_ge k)) (moves i k d)

-- ---- in the datagram

pub flip_length : (i k : ℕ) (d : List ℕ) → length (flip_bit i k d) ≡ length d
unfolding flip_bit
flip_length i k d = length-set d i (flipped i k d)

pub flip_at_lem : (i k : ℕ) (d : List ℕ) → i < length d → byte (flip_bit i k d) i ≡ flipped i k d
unfolding flip_bit
flip_at_lem i k d h = get_or-set_same d i (flipped i k d) 0 h

pub flip_other : (i k j : ℕ) (d : List ℕ) → (j ≡ i → ⊥) → byte (flip_bit i k d) j ≡ byte d j
unfolding flip_bit
flip_other i k j d h = get_or-set_other d i j (flipped i k d) 0 h
