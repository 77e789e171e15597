use Rattle.std.proofs.Common.{ℕ, ◌∙◌, bit_and, map, slice_index, arith}
use Rattle.std.proofs.lemmas.Nat.{and_mask}
use Rattle.std.proofs.lemmas.Simd.{zip2_splat}
use Rattle.hex.specs.Hex.{lower_digits}
use Rattle.replay.proofs.LookUps.{places, found}
use Rattle.replay.proofs.digits.second_digits.Goals as goal

pub swizzle : goal.swizzle
swizzle c =
    let v = c.args.bytes in
    rw (zip2_splat bit_and v 16 15 c.fits-bytes.0) (places (λ (b : ℕ). bit_and b 15) (λ b h. omega (arith, and_mask b 4)) v c.fits-bytes.0 c.fits-bytes.1)

pub returns : goal.returns
returns c =
    let v = c.args.bytes in
    rw (zip2_splat bit_and v 16 15 c.fits-bytes.0) (found (λ (b : ℕ). bit_and b 15) (λ b h. omega (arith, and_mask b 4)) lower_digits 0 v (omega (arith, c.fits-bytes.0)) c.fits-bytes.1)
    ∙ (λ k. map (λ (b : ℕ). slice_index lower_digits (and_mask b 4 k)) v)
