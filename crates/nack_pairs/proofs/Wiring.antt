-- A pair's four bytes are those of one number.
use mathlib.Core.Path.{◌≡◌, refl}
use Prim.Native.Nat.{ℕ, ◌+◌, ◌*◌, ◌/◌, ◌%◌}
use native.Mathlib.Omega.{arith}
use Rattle.std.specs.Int.{bytes_high_first}
use Rattle.nack_pairs.specs.Pairs.{pair}
use Rattle.nack_pairs.specs.Wire.{bytes_of}

pub pair_bytes : (first mask : ℕ) → bytes_high_first 4 (first % 65536 * 65536 + mask % 65536) ≡ bytes_of (pair first mask)
unfolding bytes_of
pair_bytes first mask = let n : ℕ = first % 65536 * 65536 + mask % 65536 in
    let a : n / 16777216 % 256 ≡ first / 256 % 256 = omega arith in
    let b : n / 65536 % 256 ≡ first % 256 = omega arith in
    let c : n / 256 % 256 ≡ mask / 256 % 256 = omega arith in
    let d : n % 256 ≡ mask % 256 = omega arith in
    rw (a, b, c, d) refl
