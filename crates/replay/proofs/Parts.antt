-- HEX part by part: what is written of it, and what is left.
use Rattle.std.proofs.Common.{◌≡◌, ℕ, zero, suc, ◌+◌, ◌-◌, ◌*◌, ◌/◌, ◌%◌, ◌≤◌, List, [], ◌∷◌, ◌++◌, take, drop, length, slice_index, refl, sym, ap, ◌∙◌, arith}
use Rattle.std.proofs.lemmas.List.{append_assoc, append-nil, take-append-drop, drop-drop, drop_all, take_all, length-drop, length-take-le}
use Rattle.std.proofs.Math.Seq.{take-append_seam}
use Rattle.std.proofs.lemmas.Simd.{take_more_put_chunk}
use Rattle.hex.proofs.HexLemmas.{length-encode_with}
use Rattle.hex.specs.Hex.{encode_with}
use borrow.Rule.Slice.PartMut.{put_mid}
use lib.Lanes.{chunk, put_chunk}

-- HEX of bytes one behind the other
pub of_both : (t a b : List ℕ) → encode_with t (a ++ b) ≡ encode_with t a ++ encode_with t b
unfolding encode_with
of_both t [] b = refl
of_both t (x ∷ a) b = ap (λ (l : List ℕ). slice_index t (x / 16) ∷ slice_index t (x % 16) ∷ l) (of_both t a b)

-- the HEX of the first n bytes is the first 2 n digits
pub of_first : (t : List ℕ) (n : ℕ) (s : List ℕ) → take (2 * n) (encode_with t s) ≡ encode_with t (take n s)
unfolding encode_with
of_first t zero s = refl
of_first t (suc n) [] = take_all (2 * suc n) [] (omega arith)
of_first t (suc n) (x ∷ s) =
    let two : 2 * suc n ≡ suc (suc (2 * n)) = omega arith in
    ap (λ (k : ℕ). take k (encode_with t (x ∷ s))) two ∙ ap (λ (l : List ℕ). slice_index t (x / 16) ∷ slice_index t (x % 16) ∷ l) (of_first t n s)

-- the digits of bytes that others follow
pub of_front : (t r z : List ℕ) → take (2 * length r) (encode_with t (r ++ z)) ≡ encode_with t r
of_front t r z = of_first t (length r) (r ++ z) ∙ ap (encode_with t) (take-append_seam r z)

-- sixteen bytes more are written
pub next_written : (t s text made : List ℕ) (i : ℕ) → 16 * i + 16 ≤ length s → length text ≡ 2 * length s → made ≡ encode_with t (chunk (16 * i) 16 s)
    → take (32 * i) text ++ encode_with t (drop (16 * i) s) ≡ encode_with t s
    → take (32 * (i + 1)) (put_chunk (32 * i) text made) ++ encode_with t (drop (16 * (i + 1)) s) ≡ encode_with t s
next_written t s text made i fits long is written =
    let left : List ℕ = drop (16 * i) s in
    let rest : List ℕ = encode_with t (drop (16 * (i + 1)) s) in
    let front : List ℕ = take (32 * i) text in
    let step : drop 16 left ≡ drop (16 * (i + 1)) s = drop-drop 16 (16 * i) s ∙ ap (λ (n : ℕ). drop n s) (omega arith) in
    let both : encode_with t left ≡ made ++ rest =
    ap (encode_with t) (sym (take-append-drop 16 left)) ∙ of_both t (take 16 left) (drop 16 left) ∙ (λ k. sym is k ++ encode_with t (step k)) in
    let size : length made ≡ 32 = ap length is ∙ length-encode_with t (take 16 left) ∙ omega (arith, length-take-le 16 left (omega (arith, length-drop (16 * i) s))) in
    let stored = take_more_put_chunk (32 * i) text made (32 * (i + 1)) (omega (arith, size)) (omega (arith, long)) in
    ap (λ (l : List ℕ). l ++ rest) stored ∙ append_assoc front made rest ∙ ap (λ (l : List ℕ). front ++ l) (sym both) ∙ written

-- the bytes after the last sixteen are written
pub last_written : (t s text made : List ℕ) (n : ℕ) → 16 * n ≤ length s → length text ≡ 2 * length s → made ≡ encode_with t (drop (16 * n) s)
    → take (32 * n) text ++ encode_with t (drop (16 * n) s) ≡ encode_with t s
    → put_mid (32 * n) (length text - 32 * n) text made ≡ encode_with t s
last_written t s text made n fits long is written =
    let none : drop (length text - 32 * n) (drop (32 * n) text) ≡ [] = drop_all (length text - 32 * n) (drop (32 * n) text) (omega (arith, length-drop (32 * n) text)) in
    ap (λ (l : List ℕ). take (32 * n) text ++ (made ++ l)) none ∙ (λ k. take (32 * n) text ++ (append-nil made ∙ is) k) ∙ written

-- nothing is left
pub all_written : (t s text : List ℕ) (n : ℕ) → length s ≤ 16 * n → length text ≡ 2 * length s
    → take (32 * n) text ++ encode_with t (drop (16 * n) s) ≡ encode_with t s → text ≡ encode_with t s
unfolding encode_with
all_written t s text n none long written =
    let left : encode_with t (drop (16 * n) s) ≡ [] = ap (encode_with t) (drop_all (16 * n) s none) in
    let whole : take (32 * n) text ++ encode_with t (drop (16 * n) s) ≡ text =
    ap (λ (l : List ℕ). take (32 * n) text ++ l) left ∙ append-nil (take (32 * n) text) ∙ take_all (32 * n) text (omega arith) in
    sym whole ∙ written
