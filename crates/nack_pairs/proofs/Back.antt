-- Reading back: a number's low 16 bits in two bytes, and the mask in two more, give the pair's numbers modulo 65,536.
use mathlib.Core.Path.{◌≡◌, refl, sym, ap, ◌∙◌}
use mathlib.Core.Bool.{Bool, true, false}
use mathlib.Core.List.{List, [], ◌∷◌, ◌++◌, map}
use Prim.Native.Nat.{ℕ, zero, suc, ◌+◌, ◌*◌, ◌/◌, ◌%◌, ◌≤◌, ◌<◌}
use native.Mathlib.Omega.{arith}
use lib.Dec.{eqb}
use lib.ListN.{length, length-append, length-map}
use Rattle.words.specs.Order.{ascends}
use Rattle.words.proofs.Lists.{map-append}
use Rattle.rtp.specs.Numbers.{low_bits}
use Rattle.nack_pairs.specs.Pairs.{Pair, pairs, put_if, marked, named, named_by}
use Rattle.nack_pairs.specs.Wire.{bytes_of, wire, entries}
use Rattle.nack_pairs.specs.Reader.{named16, numbers_in}
use Rattle.nack_pairs.proofs.Chain.{Narrow, pairs-names, pairs_narrow}

marked_mod : (n a b mask : ℕ) → a % 65536 ≡ b % 65536 → map (low_bits 16) (marked n a mask) ≡ map (low_bits 16) (marked n b mask)
unfolding marked
marked_mod zero a b mask e = refl
marked_mod (suc n) a b mask e =
    let k : (a + 1) % 65536 ≡ (b + 1) % 65536 = omega arith in
    go (eqb (mask % 2) 1) (marked_mod n (a + 1) (b + 1) (mask / 2) k)
  where
    go : (t : Bool) → map (low_bits 16) (marked n (a + 1) (mask / 2)) ≡ map (low_bits 16) (marked n (b + 1) (mask / 2)) → map (low_bits 16) (put_if t a (marked n (a + 1) (mask / 2))) ≡ map (low_bits 16) (put_if t b (marked n (b + 1) (mask / 2)))
    go true i = rw (e, i)
    go false i = i

named16-is : (p : Pair) → named16 (p.first % 65536) p.mask ≡ map (low_bits 16) (named p)
unfolding named16 named
named16-is p =
    let f : p.first % 65536 % 65536 ≡ p.first % 65536 = omega arith in
    let k : (p.first % 65536 + 1) % 65536 ≡ (p.first + 1) % 65536 = omega arith in
    let m = marked_mod 16 (p.first % 65536 + 1) (p.first + 1) p.mask k in
    ap (λ (x : ℕ). x ∷ map (low_bits 16) (marked 16 (p.first % 65536 + 1) p.mask)) f ∙ ap (λ (r : List ℕ). p.first % 65536 ∷ r) m

pair-back : (p : Pair) (rest : List ℕ) → p.mask < 65536 → numbers_in (bytes_of p ++ rest) ≡ map (low_bits 16) (named p) ++ numbers_in rest
unfolding numbers_in bytes_of
pair-back p rest h =
    let f : 256 * (p.first / 256 % 256) + p.first % 256 ≡ p.first % 65536 = omega arith in
    let m : 256 * (p.mask / 256 % 256) + p.mask % 256 ≡ p.mask = omega arith in
    ap (λ (x : ℕ). named16 x (256 * (p.mask / 256 % 256) + p.mask % 256) ++ numbers_in rest) f
    ∙ ap (λ (x : ℕ). named16 (p.first % 65536) x ++ numbers_in rest) m
    ∙ ap (λ (r : List ℕ). r ++ numbers_in rest) (named16-is p)

wire-back : (ps : List Pair) → Narrow ps → numbers_in (wire ps) ≡ map (low_bits 16) (named_by ps)
unfolding wire Narrow named_by numbers_in
wire-back [] n = refl
wire-back (p ∷ ps) n =
    pair-back p (wire ps) n.0
    ∙ ap (λ (r : List ℕ). map (low_bits 16) (named p) ++ r) (wire-back ps n.1)
    ∙ sym (map-append (low_bits 16) (named p) (named_by ps))

pub entries-back : (xs : List ℕ) → ascends xs ≡ true → numbers_in (entries xs) ≡ map (low_bits 16) xs
unfolding entries
entries-back xs a = wire-back (pairs xs) (pairs_narrow xs a) ∙ ap (map (low_bits 16)) (pairs-names xs a)

-- ---- at most 17 numbers to a pair

length_marked : (n at mask : ℕ) → length (marked n at mask) ≤ n
unfolding marked
length_marked zero at mask = omega arith
length_marked (suc n) at mask = go (eqb (mask % 2) 1) (length_marked n (at + 1) (mask / 2))
  where
    go : (t : Bool) → length (marked n (at + 1) (mask / 2)) ≤ n → length (put_if t at (marked n (at + 1) (mask / 2))) ≤ suc n
    go true i = omega arith
    go false i = omega arith

pub length-named16 : (first mask : ℕ) → length (named16 first mask) ≤ 17
unfolding named16 named
length-named16 first mask = let l = length_marked 16 (first + 1) mask in rw (length-map (first ∷ marked 16 (first + 1) mask) (low_bits 16)) (omega arith)

pub numbers-room : (bytes : List ℕ) (k : ℕ) → length bytes < 4 * k + 4 → length (numbers_in bytes) ≤ 17 * k
unfolding numbers_in
numbers-room [] k h = omega arith
numbers-room (a ∷ []) k h = omega arith
numbers-room (a ∷ b ∷ []) k h = omega arith
numbers-room (a ∷ b ∷ c ∷ []) k h = omega arith
numbers-room (a ∷ b ∷ c ∷ d ∷ rest) zero h = absurd (omega arith)
numbers-room (a ∷ b ∷ c ∷ d ∷ rest) (suc k) h =
    let i = numbers-room rest k (omega arith) in
    let l = length-named16 (256 * a + b) (256 * c + d) in
    rw (length-append (named16 (256 * a + b) (256 * c + d)) (numbers_in rest)) (omega arith)
