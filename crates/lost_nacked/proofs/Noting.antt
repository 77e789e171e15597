-- `append` and `note_lost`: of the gaps passed, those NACKed just once stand behind the others, but for the first `skip`; and what goes out
-- before and is skipped then is what is dropped from the front of all.
use mathlib.Core.Path.{◌≡◌, refl, sym, ap, ◌∙◌}
use mathlib.Core.Bool.{Bool, true, false}
use mathlib.Core.List.{List, [], ◌∷◌, ◌++◌, map, append_assoc, append-nil}
use Prim.Native.Nat.{ℕ, ◌+◌, ◌*◌, ◌-◌, ◌≤◌, ◌<◌, min}
use native.Mathlib.Omega.{arith}
use lib.Dec.{leb}
use lib.ListN.{length, take, drop, get_or, replicate, length-append, length-map, length-drop, drop_of_length-le}
use lib.Seq.{take_all, drop-nil, drop-append-le, drop-append-add}
use borrow.Author.Tests.{leb-true, leb-false, eq-eqb, ne_eqb}
use Rattle.words.specs.Words.{over, written, cut}
use Rattle.words.specs.Blocks.{laid}
use Rattle.words.proofs.Lists.{map-append, map-drop}
use Rattle.words.proofs.Records.{records_laid, holds-length, holds-drop, holds_pushed}
use Rattle.words.proofs.Forms.{records_of}
use Rattle.model.specs.Lists.{keep}
use Rattle.model.specs.Records.{Gap, Remembered}
use Rattle.model.specs.Rules.{once, max_lost_nacked, latest, remember, remembered_after}
use Rattle.model.specs.Storage.{gap_words, remembered_words, remembered_words_of, remembered_of, gap_of_words, gaps_of}
use Rattle.model.proofs.Lists.{length-keep}
use Rattle.model.proofs.Laid.{remembered-held, remembered_coded, length-remembered_of, length-gaps_of}
use Rattle.packet_gaps.proofs.Laws.{no_gap, read_is}
use Rattle.packet_gaps.proofs.Writing.{keep_next, keep_skip, keep-around}
use Rattle.lost_nacked.specs.Remembered.{RememberedIn}

-- a slice in which a list was laid down holds it
module _ (cap n : ℕ) (rs : List Remembered) (s : List ℕ) (e : s ≡ laid remembered_words_of cap rs) (l : length rs ≡ n) (h : remembered_words * n ≤ cap) where
  pub laid-is : remembered_of s n ≡ rs
  unfolding remembered_of records_of
  laid-is = ap (λ (z : List ℕ). remembered_of z n) e ∙ records_laid remembered_coded cap n rs l

  pub laid-length : length s ≡ cap
  laid-length = holds-length (remembered-held e l h)

  pub laid_in : RememberedIn s n
  laid_in = record { room = omega (arith, laid-length); held = rw (laid-length, laid-is) e }

-- ---- `append`

unfoldable pub passed : List ℕ → ℕ → ℕ → List Gap
passed gaps lost i = keep once (take i (gaps_of gaps lost))

-- g was read at place i of the gaps: what one turn adds to those passed
module _ (gaps : List ℕ) (lost i : ℕ) (g : Gap) (e : g ≡ gap_of_words (take gap_words (drop (gap_words * i) gaps))) (h : i < lost) where
  inside : i < length (gaps_of gaps lost)
  inside = rw length-gaps_of h

  here : get_or (gaps_of gaps lost) i no_gap ≡ g
  here = sym (read_is gaps lost i g e h)

  not-once : (g.nacks ≡ 1 → ⊥) → passed gaps lost (i + 1) ≡ passed gaps lost i
  unfolding passed
  not-once o = keep_skip once no_gap (gaps_of gaps lost) i inside (ap once here ∙ ne_eqb g.nacks 1 o)

  pub count_skip : (g.nacks ≡ 1 → ⊥) → length (passed gaps lost (i + 1)) ≡ length (passed gaps lost i)
  count_skip o = ap length (not-once o)

  module _ (o : g.nacks ≡ 1) where
    more : passed gaps lost (i + 1) ≡ passed gaps lost i ++ (g ∷ [])
    unfolding passed
    more = keep_next once no_gap (gaps_of gaps lost) i inside (ap once here ∙ eq-eqb g.nacks 1 o) ∙ ap (λ (x : Gap). keep once (take i (gaps_of gaps lost)) ++ (x ∷ [])) here

    pub count_more : length (passed gaps lost (i + 1)) ≡ length (passed gaps lost i) + 1
    count_more = ap length more ∙ length-append (passed gaps lost i) (g ∷ [])

    -- there are more of them than were passed
    pub within : length (passed gaps lost i) + 1 ≤ length (keep once (gaps_of gaps lost))
    unfolding passed
    within =
        let a = keep-around once no_gap (gaps_of gaps lost) i inside (ap once here ∙ eq-eqb g.nacks 1 o) in
        omega (arith, ap length a ∙ length-append (keep once (take i (gaps_of gaps lost))) (get_or (gaps_of gaps lost) i no_gap ∷ keep once (drop (i + 1) (gaps_of gaps lost))))

pub count_none : (gaps : List ℕ) (lost : ℕ) → length (passed gaps lost 0) ≡ 0
unfolding passed keep
count_none gaps lost = refl

pub count_all : (gaps : List ℕ) (lost i : ℕ) → lost ≤ i → length (passed gaps lost i) ≡ length (keep once (gaps_of gaps lost))
unfolding passed
count_all gaps lost i h = ap (λ (l : List Gap). length (keep once l)) (take_all i (gaps_of gaps lost) (omega (arith, length-gaps_of gaps lost)))

-- no more than fit a word
pub count_few : (gaps : List ℕ) (lost : ℕ) → length (keep once (gaps_of gaps lost)) ≤ lost
count_few gaps lost = omega (arith, length-keep once (gaps_of gaps lost), length-gaps_of gaps lost)

pub ruleset counting = (count_none, count_skip, count_more, within, count_all, count_few)

unfoldable pub noted : List ℕ → ℕ → List ℕ → ℕ → ℕ → ℕ → List Remembered
noted s₀ n gaps lost skip i = remembered_of s₀ n ++ map remember (drop skip (passed gaps lost i))

length-noted : (s₀ : List ℕ) (n : ℕ) (gaps : List ℕ) (lost skip i : ℕ) → length (noted s₀ n gaps lost skip i) ≡ n + (length (passed gaps lost i) - skip)
unfolding noted
length-noted s₀ n gaps lost skip i =
    let k = passed gaps lost i in
    length-append (remembered_of s₀ n) (map remember (drop skip k)) ∙ omega (arith, length-remembered_of s₀ n, length-map (drop skip k) remember, length-drop skip k)

pub record Noting (s₀ s : List ℕ) (n : ℕ) (gaps : List ℕ) (lost skip i seen : ℕ) : Type 0 where
  pub counts : seen ≡ length (passed gaps lost i)
  pub room : remembered_words * (n + (length (keep once (gaps_of gaps lost)) - skip)) ≤ length s₀
  pub same : length s ≡ length s₀
  pub held : s ≡ laid remembered_words_of (length s₀) (noted s₀ n gaps lost skip i)

pub noting_none : (s₀ : List ℕ) (n : ℕ) (gaps : List ℕ) (lost skip : ℕ) → RememberedIn s₀ n → remembered_words * (n + (length (keep once (gaps_of gaps lost)) - skip)) ≤ length s₀
    → Noting s₀ s₀ n gaps lost skip 0 0
unfolding noted passed keep
noting_none s₀ n gaps lost skip k r =
    let e : drop skip (keep once []) ≡ [] = drop-nil skip in
    record { counts = refl; room = r; same = refl; held = rw (e, append-nil) k.held }

module _ {s₀ s : List ℕ} {n : ℕ} {gaps : List ℕ} {lost skip i seen : ℕ} (c : Noting s₀ s n gaps lost skip i seen) (h : i < lost) (g : Gap)
    (e : g ≡ gap_of_words (take gap_words (drop (gap_words * i) gaps))) where
  k : List Gap
  k = passed gaps lost i

  -- where as many are noted of both, the same are
  again : (j : ℕ) → drop skip (passed gaps lost j) ≡ drop skip (passed gaps lost i) → noted s₀ n gaps lost skip i ≡ noted s₀ n gaps lost skip j
  unfolding noted
  again j f = ap (λ (l : List Gap). remembered_of s₀ n ++ map remember l) (sym f)

  pub noting_pass : (g.nacks ≡ 1 → ⊥) → Noting s₀ s n gaps lost skip (i + 1) seen
  noting_pass o =
      let f : passed gaps lost (i + 1) ≡ passed gaps lost i = not-once gaps lost i g e h o in
      record { counts = c.counts ∙ sym (ap length f); room = c.room; same = c.same; held = c.held ∙ ap (laid remembered_words_of (length s₀)) (again (i + 1) (ap (drop skip) f)) }

  module _ (o : g.nacks ≡ 1) where
    counted : seen + 1 ≡ length (passed gaps lost (i + 1))
    counted = omega (arith, c.counts, count_more gaps lost i g e h o)

    -- no more of them than fit a word
    pub noting_few : seen < lost
    noting_few = omega (arith, c.counts, within gaps lost i g e h o, count_few gaps lost)

    pub noting_skip : seen < skip → Noting s₀ s n gaps lost skip (i + 1) (seen + 1)
    unfolding k
    noting_skip z =
        let a : drop skip (passed gaps lost (i + 1)) ≡ [] = drop_of_length-le (passed gaps lost (i + 1)) {i = skip} (omega (arith, counted)) in
        let b : drop skip k ≡ [] = drop_of_length-le k {i = skip} (omega (arith, c.counts)) in
        record { counts = counted; room = c.room; same = c.same; held = c.held ∙ ap (laid remembered_words_of (length s₀)) (again (i + 1) (a ∙ sym b)) }

    module _ (z : skip ≤ seen) where
      enough : skip ≤ length k
      unfolding k
      enough = omega (arith, c.counts)

      pub noting_room : remembered_words * (n + (seen - skip)) + remembered_words ≤ length s
      unfolding k
      noting_room = omega (arith, c.room, c.same, c.counts, within gaps lost i g e h o)

      pushed : noted s₀ n gaps lost skip i ++ (remember g ∷ []) ≡ noted s₀ n gaps lost skip (i + 1)
      unfolding noted k
      pushed =
          let m = drop skip k in
          append_assoc (remembered_of s₀ n) (map remember m) (remember g ∷ [])
          ∙ ap (λ (l : List Remembered). remembered_of s₀ n ++ l) (sym (map-append remember m (g ∷ [])))
          ∙ ap (λ (l : List Gap). remembered_of s₀ n ++ map remember l) (sym (ap (drop skip) (more gaps lost i g e h o) ∙ drop-append-le skip k (g ∷ []) enough))

      pub noting_push : (u : List ℕ) → u ≡ written (remembered_words * (n + (seen - skip))) (remembered_words_of (remember g)) s → Noting s₀ u n gaps lost skip (i + 1) (seen + 1)
      unfolding k
      noting_push u w =
          let xs = noted s₀ n gaps lost skip i in
          let ys = noted s₀ n gaps lost skip (i + 1) in
          let lx : length xs ≡ n + (seen - skip) = length-noted s₀ n gaps lost skip i ∙ omega (arith, c.counts) in
          let ly : length ys ≡ n + (seen - skip) + 1 = length-noted s₀ n gaps lost skip (i + 1) ∙ omega (arith, counted, z) in
          let fit : remembered_words * (n + (seen - skip)) + remembered_words ≤ length s₀ = omega (arith, noting_room, c.same) in
          let held : u ≡ laid remembered_words_of (length s₀) ys =
          w
          ∙ holds_pushed (remembered-held c.held lx (omega arith)) (remember g)
          ∙ ap (laid remembered_words_of (length s₀)) pushed in
          record { counts = counted; room = c.room; same = laid-length (length s₀) (n + (seen - skip) + 1) ys u held ly (omega arith); held = held }

pub noting_all : {s₀ s : List ℕ} {n : ℕ} {gaps : List ℕ} {lost skip i seen : ℕ} → Noting s₀ s n gaps lost skip i seen → lost ≤ i
    → s ≡ laid remembered_words_of (length s₀) (remembered_of s₀ n ++ map remember (drop skip (keep once (gaps_of gaps lost))))
unfolding noted passed
noting_all {s₀} {n = n} {gaps} {lost} {skip} {i} c h =
    let e : take i (gaps_of gaps lost) ≡ gaps_of gaps lost = take_all i (gaps_of gaps lost) (omega (arith, length-gaps_of gaps lost)) in
    c.held ∙ ap (λ (l : List Gap). laid remembered_words_of (length s₀) (remembered_of s₀ n ++ map remember (drop skip (keep once l)))) e

-- ---- `note_lost`

-- what is dropped of both lists is dropped of the two in a row
drop_both : (excess out : ℕ) (rs ms : List Remembered) → out ≡ min excess (length rs) → drop out rs ++ drop (excess - out) ms ≡ drop excess (rs ++ ms)
drop_both excess out rs ms e = go (leb excess (length rs)) refl
  where
    go : (b : Bool) → leb excess (length rs) ≡ b → drop out rs ++ drop (excess - out) ms ≡ drop excess (rs ++ ms)
    go true f =
        let h : excess ≤ length rs = leb-true excess (length rs) f in
        let a : out ≡ excess = omega arith in
        let z : excess - excess ≡ 0 = omega arith in
        rw (a, z) (sym (drop-append-le excess rs ms h))
    go false f =
        let h : length rs < excess = leb-false excess (length rs) f in
        let a : drop out rs ≡ [] = drop_of_length-le rs {i = out} (omega arith) in
        let z : length rs + (excess - out) ≡ excess = omega arith in
        rw a (sym (ap (λ (k : ℕ). drop k (rs ++ ms)) (sym z) ∙ drop-append-add rs ms (excess - out)))

module _ (s : List ℕ) (n : ℕ) (gaps : List ℕ) (lost more excess out : ℕ) (k : RememberedIn s n) (em : more ≡ length (keep once (gaps_of gaps lost)))
    (ee : excess ≡ n + more - max_lost_nacked) (eo : out ≡ min excess n) where
  rs : List Remembered
  rs = remembered_of s n

  ms : List Remembered
  ms = map remember (keep once (gaps_of gaps lost))

  length_rs : length rs ≡ n
  unfolding rs
  length_rs = length-remembered_of s n

  length_both : length (rs ++ ms) ≡ n + more
  unfolding ms
  length_both = length-append rs ms ∙ omega (arith, length_rs, em, length-map (keep once (gaps_of gaps lost)) remember)

  noted-is : remembered_after true (gaps_of gaps lost) (remembered_of s n) ≡ drop excess (rs ++ ms)
  unfolding remembered_after latest rs ms
  noted-is = ap (λ (j : ℕ). drop j (rs ++ ms)) (ap (λ (j : ℕ). j - max_lost_nacked) length_both ∙ sym ee)

  pub note_count : n + more - excess ≡ length (remembered_after true (gaps_of gaps lost) (remembered_of s n))
  note_count = sym (ap length noted-is ∙ length-drop excess (rs ++ ms) ∙ ap (λ (j : ℕ). j - excess) length_both)

  -- after the drain
  module _ (u : List ℕ) (eu : u ≡ over (cut 0 (remembered_words * out) (take (remembered_words * n) s) ++ replicate (remembered_words * out) 0) s) where
    drained : u ≡ laid remembered_words_of (length s) (drop out rs)
    unfolding rs
    drained = eu ∙ holds-drop (remembered-held k.held length_rs k.room) out (omega arith)

    length-drained : length (drop out rs) ≡ n - out
    length-drained = length-drop out rs ∙ ap (λ (j : ℕ). j - out) length_rs

    fits : remembered_words * (n - out) ≤ length s
    fits = omega (arith, k.room)

    pub note_in : RememberedIn u (n - out)
    note_in = laid_in (length s) (n - out) (drop out rs) u drained length-drained fits

    pub note_length : length u ≡ length s
    note_length = laid-length (length s) (n - out) (drop out rs) u drained length-drained fits

    pub note_words : (v : List ℕ) → v ≡ laid remembered_words_of (length u) (remembered_of u (n - out) ++ map remember (drop (excess - out) (keep once (gaps_of gaps lost))))
        → v ≡ laid remembered_words_of (length s) (remembered_after true (gaps_of gaps lost) (remembered_of s n))
    unfolding ms
    note_words v e =
        let a : remembered_of u (n - out) ≡ drop out rs = laid-is (length s) (n - out) (drop out rs) u drained length-drained fits in
        let o : out ≡ min excess (length rs) = eo ∙ ap (min excess) (sym length_rs) in
        e
        ∙ rw (note_length, a, map-drop remember (excess - out) (keep once (gaps_of gaps lost)))
        (ap (laid remembered_words_of (length s)) (drop_both excess out rs ms o ∙ sym noted-is))

pub ruleset noting = (noting_room, noting_all)

pub ruleset noted_lost = (count_few, note_count, note_in, note_length, note_words)
