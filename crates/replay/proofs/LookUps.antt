-- Sixteen look-ups at once: where the table is read for a vector of bytes, and their digits side by side.
use Rattle.std.proofs.Common.{◌≡◌, ℕ, suc, ◌+◌, ◌*◌, ◌/◌, ◌%◌, ◌<◌, ◌≤◌, List, [], ◌∷◌, ◌++◌, map, length, slice_index, get_or, refl, sym, subst, ap, ◌∙◌, arith, w8, Fits}
use Rattle.std.proofs.lemmas.List.{ext_get_or, length-map}
use Rattle.std.proofs.lemmas.List.FromFn.{get_or-map-range_with_len, length-map-range_with_len}
use Rattle.std.proofs.lemmas.Simd.{swz_l, SwzOk, SwzOk-from_below, get_or-swz_l_below}
use Rattle.std.specs.List.{range_with_len}
use Rattle.hex.specs.Hex.{encode_with}
use lib.Lanes.{Each1, pick_l}

module _ (g : ℕ → ℕ) (small : (b : ℕ) → b < 256 → g b < 16) where
  each_below : (v : List ℕ) → Each1 (Fits w8) v → Each1 (λ (j : ℕ). j < 16) (map g v)
  each_below [] f = tt
  each_below (b ∷ v) f = (small b f.0.fits, each_below v f.1)

  -- places in a table of sixteen
  pub places : (v : List ℕ) → length v ≡ 16 → Each1 (Fits w8) v → SwzOk w8 16 16 0 (map g v)
  places v e f = SwzOk-from_below w8 16 1 16 0 (map g v) refl (omega (arith, length-map v g)) (each_below v f)

  -- what is found there
  pub found : (t : List ℕ) (i : ℕ) (v : List ℕ) → i + length v ≤ 16 → Each1 (Fits w8) v
      → swz_l w8 16 t i (map g v) ≡ map (λ (b : ℕ). slice_index t (g b)) v
  found t i [] l f = refl
  found t i (b ∷ v) l f =
      let here : 16 * ((i + 0) / 16) + g b ≡ g b = omega arith in
      let one = get_or-swz_l_below w8 16 t i (map g (b ∷ v)) 0 (omega arith) (small b f.0.fits) ∙ ap (λ (n : ℕ). slice_index t n) here in
      let rest = found t (suc i) v (omega arith) f.1 in
      λ k. one k ∷ rest k

one_by_one : (v : List ℕ) → length v ≡ 16 → map (λ (i : ℕ). get_or v i 0) (range_with_len 0 16) ≡ v
one_by_one v e =
    let at : ℕ → ℕ = λ i. get_or v i 0 in
    let long = length-map-range_with_len at 0 16 in
    ext_get_or 0 _ _ (long ∙ sym e) (λ i h. get_or-map-range_with_len at 0 16 i i 0 (omega (arith, long)) (omega arith))

-- one of each sixteen in turn
abbrev in_turn : List ℕ
in_turn =
    0 ∷ 16 ∷ 1 ∷ 17 ∷ 2 ∷ 18 ∷ 3 ∷ 19 ∷ 4 ∷ 20 ∷ 5 ∷ 21 ∷ 6 ∷ 22 ∷ 7 ∷ 23 ∷ 8 ∷ 24 ∷ 9 ∷ 25 ∷ 10 ∷ 26 ∷ 11 ∷ 27 ∷ 12 ∷ 28 ∷ 13 ∷ 29 ∷ 14 ∷ 30 ∷ 15 ∷ 31 ∷ []

abbrev digits_in_turn : List ℕ → List ℕ → List ℕ
digits_in_turn t v = pick_l 0 (map (λ (b : ℕ). slice_index t (b / 16)) v ++ map (λ (b : ℕ). slice_index t (b % 16)) v) in_turn

-- the two digits of each byte, side by side
pub side_by_side : (t v : List ℕ) → length v ≡ 16 → digits_in_turn t v ≡ encode_with t v
unfolding encode_with
side_by_side t v e = subst (λ (w : List ℕ). digits_in_turn t w ≡ encode_with t w) (one_by_one v e) refl
