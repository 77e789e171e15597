-- Numbers and words in bytes: what `bytes_of` and `word_bytes` write, `big_endian` and `words_at` read, wherever it stands in a list, and the other way round.
use mathlib.Core.Path.{◌≡◌, refl, sym, ap, ◌∙◌}
use mathlib.Core.List.{List, [], ◌∷◌, ◌++◌, append_assoc}
use Prim.Native.Nat.{ℕ, zero, suc, ◌+◌, ◌*◌, ◌/◌, ◌%◌, ◌^◌, ◌≤◌, ◌<◌}
use native.Mathlib.Nat.{pow-suc, add_assoc}
use native.Mathlib.Omega.{arith}
use lib.ListN.{length, take, drop, length-append, length-drop, get_or-append, take-append-drop}
use lib.Seq.{get_or-append-add, get_or_at, get_or-drop, take-suc, take-add, drop-drop}
use Rattle.rtp_packet.specs.Header.{byte, big_endian}
use Rattle.rtp_packet.specs.Layout.{bytes_of, word_bytes, words_at, EachBelow}
use Rattle.rtp_packet.proofs.BigEndian.{big_endian-same, big_endian-lt}

-- ---- one number

pub length-bytes_of : (n x : ℕ) → length (bytes_of n x) ≡ n
unfolding bytes_of
length-bytes_of zero x = refl
length-bytes_of (suc n) x = simp (length-append, length-bytes_of n) (omega arith)

-- in the first part of a list, and in the second
front : (n i : ℕ) (a b : List ℕ) → i + n ≤ length a → big_endian n i (a ++ b) ≡ big_endian n i a
front n i a b h = big_endian-same n i (a ++ b) a (λ j lo hi. get_or-append a b 0 j (omega arith))

past : (n i : ℕ) (a b : List ℕ) → big_endian n (length a + i) (a ++ b) ≡ big_endian n i b
unfolding big_endian
past zero i a b = refl
past (suc n) i a b = rw (past n i a b, add_assoc (length a) i n, get_or-append-add a b (i + n) 0)

number_back : (n x : ℕ) → x < 256 ^ n → big_endian n 0 (bytes_of n x) ≡ x
unfolding big_endian bytes_of
number_back zero x h = omega arith
number_back (suc n) x h =
    let q : x < 256 ^ n * 256 = rw pow-suc at h in
    let small : x / 256 < 256 ^ n = omega arith in
    let head : big_endian n 0 (bytes_of n (x / 256) ++ (x % 256 ∷ [])) ≡ x / 256 =
    front n 0 (bytes_of n (x / 256)) (x % 256 ∷ []) (omega (arith, length-bytes_of n (x / 256))) ∙ number_back n (x / 256) small in
    let last : byte (bytes_of n (x / 256) ++ (x % 256 ∷ [])) (0 + n) ≡ x % 256 =
    get_or_at (bytes_of n (x / 256)) (x % 256) [] 0 (0 + n) (omega (arith, length-bytes_of n (x / 256))) in
    rw (head, last) (omega arith)

-- a number that is written after a and before b
pub number_at : (n x : ℕ) (a b : List ℕ) (i : ℕ) → length a ≡ i → x < 256 ^ n → big_endian n i (a ++ (bytes_of n x ++ b)) ≡ x
number_at n x a b i e h =
    let here : length a + 0 ≡ i = omega arith in
    rw (← here) (past n 0 a (bytes_of n x ++ b) ∙ front n 0 (bytes_of n x) b (omega (arith, length-bytes_of n x)) ∙ number_back n x h)

-- and back: the bytes of the number that stands at i
pub bytes-at : (n i : ℕ) (d : List ℕ) → EachBelow 256 d → i + n ≤ length d → bytes_of n (big_endian n i d) ≡ take n (drop i d)
unfolding big_endian bytes_of
bytes-at zero i d small h = refl
bytes-at (suc n) i d small h =
    let b : byte d (i + n) < 256 = small (i + n) in
    let up : (big_endian n i d * 256 + byte d (i + n)) / 256 ≡ big_endian n i d = omega arith in
    let low : (big_endian n i d * 256 + byte d (i + n)) % 256 ≡ byte d (i + n) = omega arith in
    rw (up, low, bytes-at n i d small (omega arith), ← (get_or-drop i d n 0)) (sym (take-suc (drop i d) n 0 (omega (arith, length-drop i d))))

-- ---- words

pub length-word_bytes : (ws : List ℕ) → length (word_bytes ws) ≡ 4 * length ws
unfolding word_bytes
length-word_bytes [] = refl
length-word_bytes (w ∷ ws) = simp (length-append, length-bytes_of, length-word_bytes ws) (omega arith)

pub length-words_at : (n i : ℕ) (d : List ℕ) → length (words_at n i d) ≡ n
unfolding words_at
length-words_at zero i d = refl
length-words_at (suc n) i d = ap suc (length-words_at n (i + 4) d)

pub words_back : (ws a b : List ℕ) (i : ℕ) → length a ≡ i → EachBelow (2 ^ 32) ws → words_at (length ws) i (a ++ (word_bytes ws ++ b)) ≡ ws
unfolding words_at word_bytes
words_back [] a b i e small = refl
words_back (w ∷ ws) a b i e small =
    let list : a ++ ((bytes_of 4 w ++ word_bytes ws) ++ b) ≡ (a ++ bytes_of 4 w) ++ (word_bytes ws ++ b) = simp append_assoc in
    let next : length (a ++ bytes_of 4 w) ≡ i + 4 = simp (length-append, length-bytes_of) (omega arith) in
    let first : big_endian 4 i (a ++ ((bytes_of 4 w ++ word_bytes ws) ++ b)) ≡ w = simp append_assoc (number_at 4 w a (word_bytes ws ++ b) i e (small 0)) in
    let rest : words_at (length ws) (i + 4) (a ++ ((bytes_of 4 w ++ word_bytes ws) ++ b)) ≡ ws =
    rw list (words_back ws (a ++ bytes_of 4 w) b (i + 4) next (λ j. small (suc j))) in
    cc

pub words-at : (n i : ℕ) (d : List ℕ) → EachBelow 256 d → i + 4 * n ≤ length d → word_bytes (words_at n i d) ≡ take (4 * n) (drop i d)
unfolding words_at word_bytes
words-at zero i d small h = refl
words-at (suc n) i d small h =
    let size : 4 * suc n ≡ 4 + 4 * n = omega arith in
    let one : bytes_of 4 (big_endian 4 i d) ≡ take 4 (drop i d) = bytes-at 4 i d small (omega arith) in
    let more : word_bytes (words_at n (i + 4) d) ≡ take (4 * n) (drop (i + 4) d) = words-at n (i + 4) d small (omega arith) in
    let both : take (4 * suc n) (drop i d) ≡ take 4 (drop i d) ++ take (4 * n) (drop (i + 4) d) = rw (size, take-add 4 (4 * n) (drop i d), drop-drop 4 i d) in
    ap (λ (l : List ℕ). l ++ word_bytes (words_at n (i + 4) d)) one ∙ ap (λ (l : List ℕ). take 4 (drop i d) ++ l) more ∙ sym both

pub words-below : (n i : ℕ) (d : List ℕ) → EachBelow 256 d → EachBelow (2 ^ 32) (words_at n i d)
unfolding words_at
words-below zero i d small j = omega arith
words-below (suc n) i d small zero = big_endian-lt 4 i d small
words-below (suc n) i d small (suc j) = words-below n (i + 4) d small j

-- ---- a list from its parts

pub joined : (n i k : ℕ) (d : List ℕ) → i + n ≡ k → take n (drop i d) ++ drop k d ≡ drop i d
joined n i k d e = rw (← e, ← (drop-drop n i d)) (take-append-drop n (drop i d))
