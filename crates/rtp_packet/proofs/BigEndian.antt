-- Laws of `big_endian`, by induction on the width: how large a number in n bytes is, and what another byte does to it.
use mathlib.Core.Path.{◌≡◌, refl, sym}
use mathlib.Core.Bool.{Bool, true, false}
use mathlib.Core.List.{List}
use Prim.Native.Nat.{ℕ, zero, suc, ◌+◌, ◌*◌, ◌^◌, ◌≤◌, ◌<◌}
use native.Mathlib.Nat.{pow-suc, pow-le-pow_right, lt_of_lt_of_le}
use native.Mathlib.Omega.{arith}
use native.Mathlib.Numerals.{add-one}
use lib.Dec.{eqb}
use borrow.Author.Tests.{eqb-true, eqb-false}
use Rattle.rtp_packet.specs.Header.{byte, big_endian}

-- what is true of every slice of bytes
abbrev pub AllBytes : List ℕ → Type 0
AllBytes d = (i : ℕ) → byte d i < 256

pub big_endian_next : (n i : ℕ) (d : List ℕ) → big_endian (n + 1) i d ≡ big_endian n i d * 256 + byte d (i + n)
unfolding big_endian
big_endian_next n i d = rw add-one

pub big_endian-lt : (n i : ℕ) (d : List ℕ) → AllBytes d → big_endian n i d < 256 ^ n
unfolding big_endian
big_endian-lt zero i d all = omega arith
big_endian-lt (suc n) i d all = rw pow-suc (omega (arith, big_endian-lt n i d all, all (i + n)))

-- and so below every higher power
pub big_endian-within : (n m i : ℕ) (d : List ℕ) → n ≤ m → AllBytes d → big_endian n i d < 256 ^ m
big_endian-within n m i d h all = lt_of_lt_of_le (big_endian-lt n i d all) (pow-le-pow_right (omega arith) h)

-- ---- two lists that agree in some bytes

pub big_endian-same : (n i : ℕ) (d e : List ℕ) → ((j : ℕ) → i ≤ j → j < i + n → byte d j ≡ byte e j) → big_endian n i d ≡ big_endian n i e
unfolding big_endian
big_endian-same zero i d e same = refl
big_endian-same (suc n) i d e same =
    let front : big_endian n i d ≡ big_endian n i e = big_endian-same n i d e (λ j lo hi. same j lo (omega arith)) in
    let last : byte d (i + n) ≡ byte e (i + n) = same (i + n) (omega arith) (omega arith) in
    cc

-- one byte more or less, all others alike: another number
pub big_endian_differs : (n i j : ℕ) (d e : List ℕ) → i ≤ j → j < i + n → ((m : ℕ) → (m ≡ j → ⊥) → byte d m ≡ byte e m) → (byte d j ≡ byte e j → ⊥)
    → big_endian n i d ≡ big_endian n i e → ⊥
unfolding big_endian
big_endian_differs zero i j d e lo hi same other eq = omega arith
big_endian_differs (suc n) i j d e lo hi same other eq = by_place (eqb j (i + n)) refl (λ h. big_endian_differs n i j d e lo h same other)
  where
    by_place : (t : Bool) → eqb j (i + n) ≡ t → (j < i + n → big_endian n i d ≡ big_endian n i e → ⊥) → ⊥
    by_place true at before =
        let p : j ≡ i + n = eqb-true j (i + n) at in
        let front : big_endian n i d ≡ big_endian n i e = big_endian-same n i d e (λ m low high. same m (λ q. omega arith)) in
        other (rw p (omega arith))
    by_place false at before =
        let p : j ≡ i + n → ⊥ = eqb-false j (i + n) at in
        let last : byte d (i + n) ≡ byte e (i + n) = same (i + n) (λ q. p (sym q)) in
        before (omega arith) (omega arith)
