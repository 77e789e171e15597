use Rattle.std.proofs.Common.{ℕ, ◌/◌, ◌^◌, arith}
use Rattle.std.proofs.lemmas.Simd.{zip2_splat}
use Rattle.hex.specs.Hex.{lower_digits}
use Rattle.replay.proofs.LookUps.{places, found}
use Rattle.replay.proofs.digits.first_digits.Goals as goal

pub swizzle : goal.swizzle
swizzle c =
    let v = c.args.bytes in
    rw (zip2_splat (λ (a b : ℕ). a / 2 ^ b) v 16 4 c.fits-bytes.0) (places (λ (b : ℕ). b / 16) (λ b h. omega arith) v c.fits-bytes.0 c.fits-bytes.1)

pub returns : goal.returns
returns c =
    let v = c.args.bytes in
    rw (zip2_splat (λ (a b : ℕ). a / 2 ^ b) v 16 4 c.fits-bytes.0) (found (λ (b : ℕ). b / 16) (λ b h. omega arith) lower_digits 0 v (omega (arith, c.fits-bytes.0)) c.fits-bytes.1)
