-- How many bits two numbers differ in: none where they are equal, one where one bit was turned over, and the sum of both parts of a number in two
-- parts. So a flipped bit of payload type or sender makes a pair that is one bit away.
use mathlib.Core.Path.{◌≡◌, refl, sym, ap, ◌∙◌}
use mathlib.Core.Bool.{Bool, true, false, cond}
use mathlib.Core.List.{List}
use Prim.Native.Nat.{ℕ, zero, suc, ◌+◌, ◌-◌, ◌*◌, ◌/◌, ◌%◌, ◌^◌, ◌≤◌, ◌<◌}
use native.Mathlib.Nat.{pow-succ', one-le-pow, le-div_iff_mul-le, div-div-eq-div-mul, mul_left_comm, mod-lt, div-add-mod', zero-add}
use native.Mathlib.Omega.{arith}
use lib.Dec.{eqb}
use borrow.Author.Tests.{eqb-true, eqb-false}
use Rattle.rtp_packet.specs.Header.{byte, big_endian}
use Rattle.rtp_packet.proofs.BigEndian.{big_endian-same}
use Rattle.model.specs.Across.{bits_apart, EachByte}

pub apart_self : (w a : ℕ) → bits_apart w a a ≡ 0
unfolding bits_apart
apart_self zero a = refl
apart_self (suc w) a = omega (arith, apart_self w (a / 2))

pub apart-sym : (w a b : ℕ) → bits_apart w a b ≡ bits_apart w b a
unfolding bits_apart
apart-sym zero a b = refl
apart-sym (suc w) a b = omega (arith, apart-sym w (a / 2) (b / 2))

-- ---- one bit

-- x with its bit of weight 2^k changed
unfoldable pub flip_at : ℕ → ℕ → ℕ
flip_at k x = cond (eqb (x / 2 ^ k % 2) 1) (x - 2 ^ k) (x + 2 ^ k)

-- the lowest, and one of the half
flip_lowest : (x : ℕ) → (flip_at 0 x / 2 ≡ x / 2) × ((x + flip_at 0 x) % 2 ≡ 1)
unfolding flip_at
flip_lowest x = go (eqb (x / 2 ^ 0 % 2) 1) refl
  where
    go : (t : Bool) → eqb (x / 2 ^ 0 % 2) 1 ≡ t → (cond t (x - 2 ^ 0) (x + 2 ^ 0) / 2 ≡ x / 2) × ((x + cond t (x - 2 ^ 0) (x + 2 ^ 0)) % 2 ≡ 1)
    go true e = let odd : x / 1 % 2 ≡ 1 = eqb-true (x / 2 ^ 0 % 2) 1 e in (omega arith, omega arith)
    go false e = let even : x / 1 % 2 ≡ 1 → ⊥ = eqb-false (x / 2 ^ 0 % 2) 1 e in (omega arith, omega arith)

flip_half : (k x : ℕ) → (flip_at (suc k) x / 2 ≡ flip_at k (x / 2)) × (flip_at (suc k) x % 2 ≡ x % 2)
unfolding flip_at
flip_half k x = rw (← digit) (go (eqb (x / 2 ^ suc k % 2) 1) refl)
  where
    double : 2 ^ suc k ≡ 2 * 2 ^ k
    double = pow-succ' 2 k

    digit : x / 2 ^ suc k ≡ x / 2 / 2 ^ k
    digit = ap (λ (n : ℕ). x / n) double ∙ sym (div-div-eq-div-mul x 2 (2 ^ k))

    go : (t : Bool) → eqb (x / 2 ^ suc k % 2) 1 ≡ t
        → (cond t (x - 2 ^ suc k) (x + 2 ^ suc k) / 2 ≡ cond t (x / 2 - 2 ^ k) (x / 2 + 2 ^ k)) × (cond t (x - 2 ^ suc k) (x + 2 ^ suc k) % 2 ≡ x % 2)
    go true e =
        let odd : x / 2 ^ suc k % 2 ≡ 1 = eqb-true (x / 2 ^ suc k % 2) 1 e in
        let h : 1 * 2 ^ suc k ≤ x = (le-div_iff_mul-le (one-le-pow (suc k) 2 (omega arith))).0 (omega arith) in
        (omega (arith, double), omega (arith, double))
    go false e = (omega (arith, double), omega (arith, double))

pub flip_apart : (k w x : ℕ) → k < w → bits_apart w x (flip_at k x) ≡ 1
unfolding bits_apart
flip_apart k zero x h = absurd (omega arith)
flip_apart zero (suc w) x h = rw ((flip_lowest x).0, (flip_lowest x).1, apart_self w (x / 2))
flip_apart (suc k) (suc w) x h =
    let f = flip_half k x in
    rw (f.0, flip_apart k w (x / 2) (omega arith)) (let e : (x + flip_at (suc k) x) % 2 ≡ 0 = omega (arith, f.1) in rw e)

pub flip_small : (k w x : ℕ) → k < w → x < 2 ^ w → flip_at k x < 2 ^ w
flip_small k zero x h l = absurd (omega arith)
flip_small zero (suc w) x h l = omega (arith, (flip_lowest x).0, pow-succ' 2 w)
flip_small (suc k) (suc w) x h l = omega (arith, (flip_half k x).0, pow-succ' 2 w, flip_small k w (x / 2) (omega arith) (omega (arith, pow-succ' 2 w)))

-- ---- two parts

pub apart_parts : (v w a b x y : ℕ) → x < 2 ^ v → y < 2 ^ v → bits_apart (v + w) (a * 2 ^ v + x) (b * 2 ^ v + y) ≡ bits_apart w a b + bits_apart v x y
unfolding bits_apart
apart_parts zero w a b x y h l =
    let ea : a * 2 ^ 0 + x ≡ a = omega arith in
    let eb : b * 2 ^ 0 + y ≡ b = omega arith in
    let ew : 0 + w ≡ w = omega arith in
    rw (ea, eb, ew) (omega arith)
apart_parts (suc v) w a b x y h l =
    let double : 2 ^ suc v ≡ 2 * 2 ^ v = pow-succ' 2 v in
    let qa : a * 2 ^ suc v ≡ 2 * (a * 2 ^ v) = ap (λ (n : ℕ). a * n) double ∙ mul_left_comm a 2 (2 ^ v) in
    let qb : b * 2 ^ suc v ≡ 2 * (b * 2 ^ v) = ap (λ (n : ℕ). b * n) double ∙ mul_left_comm b 2 (2 ^ v) in
    let ea : (2 * (a * 2 ^ v) + x) / 2 ≡ a * 2 ^ v + x / 2 = omega arith in
    let eb : (2 * (b * 2 ^ v) + y) / 2 ≡ b * 2 ^ v + y / 2 = omega arith in
    let parity : ((2 * (a * 2 ^ v) + x) + (2 * (b * 2 ^ v) + y)) % 2 ≡ (x + y) % 2 = omega arith in
    let ew : suc v + w ≡ suc (v + w) = omega arith in
    rw (qa, qb, ew, parity, ea, eb, apart_parts v w a b (x / 2) (y / 2) (omega (arith, double)) (omega (arith, double))) (omega arith)

-- the w lowest bits
pub apart_low : (w a b : ℕ) → bits_apart w a b ≡ bits_apart w (a % 2 ^ w) (b % 2 ^ w)
unfolding bits_apart
apart_low w a b =
    let whole = apart_parts w 0 (a / 2 ^ w) (b / 2 ^ w) (a % 2 ^ w) (b % 2 ^ w) (mod-lt a (one-le-pow w 2 (omega arith))) (mod-lt b (one-le-pow w 2 (omega arith))) in
    let ew : w + 0 ≡ w = omega arith in
    (rw (ew, div-add-mod' a (2 ^ w), div-add-mod' b (2 ^ w)) at whole) ∙ zero-add _

-- ---- bytes

-- numbers of n bytes, alike but for one byte that is one bit away
pub apart-bytes : (n i j : ℕ) (d e : List ℕ) → EachByte d → EachByte e → i ≤ j → j < i + n → ((l : ℕ) → (l ≡ j → ⊥) → byte e l ≡ byte d l)
    → bits_apart 8 (byte d j) (byte e j) ≡ 1 → bits_apart (8 * n) (big_endian n i d) (big_endian n i e) ≡ 1
unfolding big_endian
apart-bytes zero i j d e bd be lo hi others one = absurd (omega arith)
apart-bytes (suc n) i j d e bd be lo hi others one =
    let width : 8 * suc n ≡ 8 + 8 * n = omega arith in
    rw width (apart_parts 8 (8 * n) (big_endian n i d) (big_endian n i e) (byte d (i + n)) (byte e (i + n)) (bd (i + n)) (be (i + n)) ∙ go (eqb j (i + n)) refl (λ h. apart-bytes n i j d e bd be lo h others one))
  where
    go : (t : Bool) → eqb j (i + n) ≡ t → (j < i + n → bits_apart (8 * n) (big_endian n i d) (big_endian n i e) ≡ 1)
        → bits_apart (8 * n) (big_endian n i d) (big_endian n i e) + bits_apart 8 (byte d (i + n)) (byte e (i + n)) ≡ 1
    go true q below =
        let last : j ≡ i + n = eqb-true j (i + n) q in
        rw (big_endian-same n i e d (λ l lo hi. others l (λ z. omega arith)), apart_self (8 * n) (big_endian n i d), ← last) (omega (arith, one))
    go false q below =
        let before : j ≡ i + n → ⊥ = eqb-false j (i + n) q in
        rw (others (i + n) (λ z. before (sym z)), apart_self 8 (byte d (i + n)), below (omega arith))
