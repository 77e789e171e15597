-- The line that is written reads back, and no other of version 2 reads as the same settings: field by field, and each field by the law of
-- `columns`.
use mathlib.Core.Path.{◌≡◌, refl, sym, ap, ◌∙◌}
use mathlib.Core.Bool.{Bool, true, false, cond, not, ◌&&◌}
use mathlib.Core.List.{List, [], ◌∷◌, ◌++◌, append_assoc}
use Prim.Native.Nat.{ℕ, ◌+◌, ◌*◌, ◌-◌, ◌^◌, ◌≤◌, ◌<◌}
use native.Mathlib.Omega.{arith}
use Rattle.std.proofs.lemmas.Bool.{lt-ltb, le-ltb, le-leb, leb-true, eq-eqb, ne_eqb, eqb-true, and_parts}
use lib.Dec.{leb, ltb, eqb}
use lib.ListN.{length, take, drop, get_or, set, replicate, length-append, length-take, length-drop, take-append-drop, drop_of_length-le}
use lib.Seq.{take_at, take_all, drop_at, drop-drop, drop-cons, get_or_at, length-take-le}
use Rattle.words.specs.Words.{over, written}
use borrow.Rule.Slice.PartMut.{mid_of, put_mid}
use Rattle.words.proofs.Over.{take-over, over_more, length_over}
use Rattle.words.proofs.Moves.{written_next, part_written}
use Rattle.columns.specs.Columns.{decimal_up_to, justified, field_number}
use Rattle.std.specs.Prelude.{None, Some, Option, Ok, Err}
use Rattle.columns.proofs.Filling.{length-justified}
use Rattle.columns.proofs.Both.{read_back, inverse}
use Rattle.refusals.specs.Refusals.{SETTINGS, OUTPUT, settings_line, line_version}
use Rattle.config.specs.declared.Settings.{Settings}
use Rattle.config.specs.Valid.{settings_valid}
use Rattle.settings_line.specs.Fields.{numbers_of, settings_of, zeros_outside, line_valid}
use Rattle.settings_line.specs.Line.{fields, line_of, outcome, write_line, same, begins, numbers_in, line_numbers, taken, without_window, read_first, read_second, read_line}
use Rattle.settings_line.specs.Claims.{Only, AsTheOpening}
use Rattle.settings_line.proofs.Numbered.{length_fields, numbers-back, Readable, numbers-only}
use Rattle.settings_line.proofs.Ranges.{mode_most, settings_back, numbers_again, first_eight, numbers-held, narrow}

-- ---- the version's field

same_refl : (s : List ℕ) → same s s ≡ true
unfolding same
same_refl [] = refl
same_refl (a ∷ s) = rw (eq-eqb a a refl, same_refl s)

same-eq : (s t : List ℕ) → same s t ≡ true → s ≡ t
unfolding same
same-eq [] [] e = refl
same-eq [] (b ∷ t) e = absurd (let z : ◌≡◌ {A = ℕ} 0 1 = cc in omega arith)
same-eq (a ∷ s) [] e = absurd (let z : ◌≡◌ {A = ℕ} 0 1 = cc in omega arith)
same-eq (a ∷ s) (b ∷ t) e = let h = and_parts (eqb a b) (same s t) e in cc (eqb-true a b h.0, same-eq s t h.1)

one_digit : (v : ℕ) → v < 10 → replicate 11 32 ++ ((48 + v) ∷ []) ≡ justified 12 v
unfolding justified decimal_up_to
one_digit v h = rw (lt-ltb v 10 h)

begun : (v : ℕ) (line : List ℕ) → v < 10 → begins v line ≡ true → take 12 line ≡ justified 12 v
unfolding begins
begun v line h e = same-eq (take 12 line) (replicate 11 32 ++ ((48 + v) ∷ [])) e ∙ one_digit v h

-- whether a line begins with a version is whether its first field is that number
module _ (v : ℕ) (line : List ℕ) (h : v < 10) where
  begun_reads : begins v line ≡ true → field_number (take 12 line) ≡ Some v
  begun_reads e = ap field_number (begun v line h e) ∙ read_back 12 v (omega arith) (omega arith) (omega arith)

  begins_own : take 12 line ≡ justified 12 v → begins v line ≡ true
  unfolding begins
  begins_own t =
      let u : take 12 line ≡ replicate 11 32 ++ ((48 + v) ∷ []) = t ∙ sym (one_digit v h) in
      rw u (same_refl (replicate 11 32 ++ ((48 + v) ∷ [])))

  pub begins-short : length line < 12 → false ≡ begins v line
  begins-short l = go (begins v line) refl
    where
      go : (t : Bool) → begins v line ≡ t → false ≡ begins v line
      go false e = sym e
      go true e = absurd (omega (arith, ap length (begun v line h e), length-justified 12 v, ap length (take_all 12 line (omega arith))))

  pub begins-none : field_number (take 12 line) ≡ None → false ≡ begins v line
  begins-none f = go (begins v line) refl
    where
      go : (t : Bool) → begins v line ≡ t → false ≡ begins v line
      go false e = sym e
      go true e = absurd (let z : ◌≡◌ {A = ℕ} 0 1 = cc (begun_reads e) in omega arith)

  pub begins-some : (n : ℕ) → 12 ≤ length line → field_number (take 12 line) ≡ Some n → eqb n v ≡ begins v line
  begins-some n l f = go (eqb n v) (begins v line) refl refl
    where
      text : n ≡ v → begins v line ≡ true
      text e =
          let t : take 12 line ≡ justified 12 v = ((inverse (take 12 line) n).only f).text ∙ rw (length-take-le 12 line l, e) in
          begins_own t

      go : (x y : Bool) → eqb n v ≡ x → begins v line ≡ y → eqb n v ≡ begins v line
      go true true p q = cc
      go false false p q = cc
      go true false p q = let z : false ≡ true = cc (text (eqb-true n v p)) in cc
      go false true p q = let z : n ≡ v = cc (begun_reads q) in cc (eq-eqb n v z)

-- a line begins with one version at most
other-version : (line : List ℕ) → begins 2 line ≡ true → begins 1 line ≡ false
other-version line e =
    let l : 12 ≤ length line = omega (arith, ap length (begun 2 line (omega arith) e), length-justified 12 2, length-take 12 line) in
    sym (begins-some 1 line (omega arith) 2 l (begun_reads 2 line (omega arith) e))

-- ---- what is written is read back

module _ (s : Settings) where
  line_is : line_of s ≡ justified 12 2 ++ (fields (numbers_of s) ++ (10 ∷ []))
  unfolding line_of fields
  line_is = append_assoc (justified 12 2) (fields (numbers_of s)) (10 ∷ [])

  eleven : length (numbers_of s) ≡ 11
  unfolding numbers_of
  eleven = refl

  pub length_line : length (line_of s) ≡ 145
  unfolding line_of
  length_line = omega (arith, length-append (fields (2 ∷ numbers_of s)) (10 ∷ []), length_fields (2 ∷ numbers_of s), eleven)

  line_begins : begins 2 (line_of s) ≡ true
  line_begins = begins_own 2 (line_of s) (omega arith) (ap (take 12) line_is ∙ take_at (justified 12 2) (fields (numbers_of s) ++ (10 ∷ [])) 12 (length-justified 12 2))

  line_end : get_or (line_of s) 144 0 ≡ 10
  unfolding line_of
  line_end = get_or_at (fields (2 ∷ numbers_of s)) 10 [] 0 144 (omega (arith, length_fields (2 ∷ numbers_of s), eleven))

  line_numbers_lem : settings_valid s ≡ true → line_numbers 11 (line_of s) ≡ Some (numbers_of s)
  unfolding line_numbers
  line_numbers_lem e =
      let d : drop 12 (line_of s) ≡ fields (numbers_of s) ++ (10 ∷ []) = ap (drop 12) line_is ∙ drop_at (justified 12 2) (fields (numbers_of s) ++ (10 ∷ [])) 12 (length-justified 12 2) in
      let b : numbers_in 11 (fields (numbers_of s) ++ (10 ∷ [])) ≡ Some (numbers_of s) = rw eleven at (numbers-back (numbers_of s) (10 ∷ []) (numbers-held s e)) in
      rw (length_line, line_end, d) b

  mode-first : get_or (numbers_of s) 0 0 ≤ 2
  unfolding numbers_of
  mode-first = mode_most s.mode

  pub line_back : line_valid s ≡ true → read_line (line_of s) ≡ Ok s
  unfolding read_line read_second taken line_valid
  line_back e =
      let b = and_parts (settings_valid s) (zeros_outside (numbers_of s)) e in
      rw (other-version (line_of s) line_begins, line_begins, line_numbers_lem b.0, le-leb (get_or (numbers_of s) 0 0) 2 mode-first, b.1, settings_back s, b.0)

pub made_back : (s : Settings) (out : List ℕ) → (write_line s out).answer ≡ Ok 145 → read_line (take 145 (write_line s out).output) ≡ Ok s
unfolding write_line
made_back s out e = go (line_valid s) (ltb (length out) 145) refl refl e
  where
    go : (x y : Bool) → line_valid s ≡ x → ltb (length out) 145 ≡ y
        → (cond (not x) (outcome (Err SETTINGS) out) (cond y (outcome (Err OUTPUT) out) (outcome (Ok 145) (over (line_of s) out)))).answer ≡ Ok 145
        → read_line (take 145 (cond (not x) (outcome (Err SETTINGS) out) (cond y (outcome (Err OUTPUT) out) (outcome (Ok 145) (over (line_of s) out)))).output) ≡ Ok s
    go false y p q e = let z : ◌≡◌ {A = ℕ} 0 1 = cc in absurd (omega arith)
    go true true p q e = let z : ◌≡◌ {A = ℕ} 0 1 = cc in absurd (omega arith)
    go true false p q e =
        let t : take 145 (over (line_of s) out) ≡ line_of s = take-over 145 (line_of s) out (omega (arith, length_line s)) ∙ take_all 145 (line_of s) (omega (arith, length_line s)) in
        ap read_line t ∙ line_back s p

-- ---- only that line is read

record Parts (line ns : List ℕ) : Type 0 where
  size : length line ≡ 145
  feed : get_or line 144 0 ≡ 10
  numbers : numbers_in 11 (drop 12 line) ≡ Some ns

parts : (line ns : List ℕ) → line_numbers 11 line ≡ Some ns → Parts line ns
unfolding line_numbers
parts line ns e = go (eqb (length line) 145) (eqb (get_or line 144 0) 10) refl refl e
  where
    go : (x y : Bool) → eqb (length line) 145 ≡ x → eqb (get_or line 144 0) 10 ≡ y → cond (x && y) (numbers_in 11 (drop 12 line)) None ≡ Some ns → Parts line ns
    go true true p q e = record { size = eqb-true (length line) 145 p; feed = eqb-true (get_or line 144 0) 10 q; numbers = e }
    go true false p q e = let z : ◌≡◌ {A = ℕ} 0 1 = cc in absurd (omega arith)
    go false y p q e = let z : ◌≡◌ {A = ℕ} 0 1 = cc in absurd (omega arith)

-- a line of version 2 is its version, its fields and the line feed
line_of-parts : (line ns : List ℕ) → begins 2 line ≡ true → Parts line ns → line ≡ justified 12 2 ++ (fields ns ++ (10 ∷ []))
line_of-parts line ns b p =
    let size : length line ≡ 145 = p.size in
    let r : Readable 11 (drop 12 line) ns = numbers-only 11 (drop 12 line) ns (omega (arith, length-drop 12 line)) p.numbers in
    let f : drop 132 (drop 12 line) ≡ 10 ∷ [] = drop-drop 132 12 line ∙ drop-cons line 144 0 (omega arith) ∙ rw (p.feed, drop_of_length-le line {i = 145} (omega arith)) in
    sym (take-append-drop 12 line)
    ∙ rw (begun 2 line (omega arith) b) (ap (λ (t : List ℕ). justified 12 2 ++ t) (sym (take-append-drop 132 (drop 12 line)) ∙ rw (f, r.text)))

-- numbers that are taken: the version has their mode, zeros stand where they must, and the settings are in range
record Fit (version : ℕ) (ns : List ℕ) (s : Settings) : Type 0 where
  known : get_or ns 0 0 ≤ version
  zeros : zeros_outside ns ≡ true
  ranges : settings_valid (settings_of ns) ≡ true
  made : settings_of ns ≡ s

fit : (version : ℕ) (ns : List ℕ) (s : Settings) → taken version ns ≡ Ok s → Fit version ns s
unfolding taken
fit version ns s e = go (leb (get_or ns 0 0) version) (zeros_outside ns) (settings_valid (settings_of ns)) refl refl refl e
  where
    go : (x y z : Bool) → leb (get_or ns 0 0) version ≡ x → zeros_outside ns ≡ y → settings_valid (settings_of ns) ≡ z → cond (x && y && z) (Ok (settings_of ns)) (Err SETTINGS) ≡ Ok s → Fit version ns s
    go true true true p q r e = record { known = leb-true (get_or ns 0 0) version p; zeros = q; ranges = r; made = cc }
    go true true false p q r e = let z : ◌≡◌ {A = ℕ} 0 1 = cc in absurd (omega arith)
    go true false z p q r e = let z : ◌≡◌ {A = ℕ} 0 1 = cc in absurd (omega arith)
    go false y z p q r e = let z : ◌≡◌ {A = ℕ} 0 1 = cc in absurd (omega arith)

pub line_only : (s : Settings) (line : List ℕ) → begins 2 line ≡ true → read_line line ≡ Ok s → Only s line
unfolding read_line read_second line_valid
line_only s line b e = go (line_numbers 11 line) refl (rw (other-version line b, b) at e)
  where
    settled : (ns : List ℕ) → line_numbers 11 line ≡ Some ns → Fit 2 ns s → Only s line
    settled ns l f =
        let k = parts line ns l in
        let t : settings_of ns ≡ s = f.made in
        let c : length ns ≡ 11 = (numbers-only 11 (drop 12 line) ns (omega (arith, length-drop 12 line, k.size)) k.numbers).count in
        let n : ns ≡ numbers_of s = sym (numbers_again ns c f.known f.zeros) ∙ ap numbers_of t in
        record {
          valid = rw (← t, f.ranges, t, ← n, f.zeros);
          made = line_of-parts line ns b k ∙ ap (λ (m : List ℕ). justified 12 2 ++ (fields m ++ (10 ∷ []))) n ∙ sym (line_is s);
        }

    go : (o : Option (List ℕ)) → line_numbers 11 line ≡ o → read_second o ≡ Ok s → Only s line
    go None l e = let z : ◌≡◌ {A = ℕ} 0 1 = cc in absurd (omega arith)
    go (Some ns) l e = settled ns l (fit 2 ns s e)

-- ---- the opening

first-opens : (s : Settings) (o : Option (List ℕ)) → read_first o ≡ Ok s → settings_valid s ≡ true
unfolding read_first
first-opens s None e = let z : ◌≡◌ {A = ℕ} 0 1 = cc in absurd (omega arith)
first-opens s (Some ns) e = let f = fit 1 (without_window ns) s e in rw f.made at f.ranges

second_opens : (s : Settings) (o : Option (List ℕ)) → read_second o ≡ Ok s → settings_valid s ≡ true
unfolding read_second
second_opens s None e = let z : ◌≡◌ {A = ℕ} 0 1 = cc in absurd (omega arith)
second_opens s (Some ns) e = let f = fit 2 ns s e in rw f.made at f.ranges

read-opens : (s : Settings) (line : List ℕ) → read_line line ≡ Ok s → settings_valid s ≡ true
unfolding read_line
read-opens s line e = go (begins 1 line) (begins 2 line) e
  where
    go : (x y : Bool) → cond x (read_first (line_numbers 9 line)) (cond y (read_second (line_numbers 11 line)) (Err line_version)) ≡ Ok s → settings_valid s ≡ true
    go true y e = first-opens s (line_numbers 9 line) e
    go false true e = second_opens s (line_numbers 11 line) e
    go false false e = let z : ◌≡◌ {A = ℕ} 0 1 = cc in absurd (omega arith)

pub opening : AsTheOpening
unfolding write_line line_valid
opening = record { opens = read-opens; writes = λ s out v z h. rw (v, z, le-ltb (length out) 145 h) }

-- ---- the reader's cases

module _ (k : ℕ) (line : List ℕ) where
  pub wrong_length : (length line ≡ 12 * (k + 1) + 1 → ⊥) → line_numbers k line ≡ None
  unfolding line_numbers
  wrong_length h = rw (ne_eqb (length line) (12 * (k + 1) + 1) h)

  module _ (l : length line ≡ 12 * (k + 1) + 1) where
    pub wrong_feed : (get_or line (12 * (k + 1)) 0 ≡ 10 → ⊥) → line_numbers k line ≡ None
    unfolding line_numbers
    wrong_feed h = rw (eq-eqb (length line) (12 * (k + 1) + 1) l, ne_eqb (get_or line (12 * (k + 1)) 0) 10 h)

    pub right_line : get_or line (12 * (k + 1)) 0 ≡ 10 → numbers_in k (take (length line - 12) (drop 12 line)) ≡ line_numbers k line
    unfolding line_numbers
    right_line h =
        rw (take_all (length line - 12) (drop 12 line) (omega (arith, length-drop 12 line)), eq-eqb (length line) (12 * (k + 1) + 1) l, eq-eqb (get_or line (12 * (k + 1)) 0) 10 h)

-- what the checks of `is_version` and of `line_numbers` need
pub ruleset version = (begins-short, begins-none, begins-some)

pub ruleset whole_line = (wrong_length, wrong_feed, right_line)

pub first_taken : (o : Option (List ℕ)) (vs : List ℕ) → o ≡ Some vs → length vs ≡ 9
    → taken 1 (get_or vs 0 0 ∷ get_or vs 1 0 ∷ get_or vs 2 0 ∷ get_or vs 3 0 ∷ get_or vs 4 0 ∷ get_or vs 5 0 ∷ get_or vs 6 0 ∷ get_or vs 7 0 ∷ 0 ∷ 0 ∷ 0 ∷ []) ≡ read_first o
unfolding read_first
first_taken o vs e l = rw (e, first_eight vs l)

pub second_taken : (o : Option (List ℕ)) (vs : List ℕ) → o ≡ Some vs → taken 2 vs ≡ read_second o
unfolding read_second
second_taken o vs e = rw e

-- a number that 32 bits do not hold is out of range
pub too_wide : (version : ℕ) (ns : List ℕ) → ((get_or ns 1 0 < 2 ^ 32) × (get_or ns 7 0 < 2 ^ 32) → ⊥) → Err SETTINGS ≡ taken version ns
unfolding taken
too_wide version ns h = go (leb (get_or ns 0 0) version && zeros_outside ns) (settings_valid (settings_of ns)) refl
  where
    go : (x y : Bool) → settings_valid (settings_of ns) ≡ y → Err SETTINGS ≡ cond (x && y) (Ok (settings_of ns)) (Err SETTINGS)
    go x true e = let w = narrow ns e in absurd (h (omega (arith, w.0), omega (arith, w.1)))
    go true false e = refl
    go false false e = refl

-- 20
pub first_unread : (o : Option (List ℕ)) → o ≡ None → Err settings_line ≡ read_first o
unfolding read_first
first_unread o e = rw e

pub second_unread : (o : Option (List ℕ)) → o ≡ None → Err settings_line ≡ read_second o
unfolding read_second
second_unread o e = rw e

-- ---- the writer's line, its line feed last

fed : (s : Settings) (out : List ℕ) → 145 ≤ length out → set (over (fields (2 ∷ numbers_of s)) out) 144 10 ≡ over (line_of s) out
unfolding line_of
fed s out h =
    let q : List ℕ = fields (2 ∷ numbers_of s) ++ (10 ∷ []) in
    let l : length (fields (2 ∷ numbers_of s)) ≡ 144 = omega (arith, length_fields (2 ∷ numbers_of s), eleven s) in
    let lq : length q ≡ 145 = omega (arith, length-append (fields (2 ∷ numbers_of s)) (10 ∷ [])) in
    let t : take 144 q ≡ fields (2 ∷ numbers_of s) = take_at (fields (2 ∷ numbers_of s)) (10 ∷ []) 144 l in
    let g : 10 ≡ get_or q 144 0 = sym (get_or_at (fields (2 ∷ numbers_of s)) 10 [] 0 144 l) in
    sym (ap (λ (x : List ℕ). set (over x out) 144 10) t) ∙ over_more q out 144 10 (omega arith) (omega arith) g ∙ ap (λ (x : List ℕ). over x out) (take_all 145 q (omega arith))

-- the version, and the numbers after it
pub by-fields : (s : Settings) (n out v y : List ℕ) → 145 ≤ length out → n ≡ numbers_of s → v ≡ written 0 (justified 12 2) out → y ≡ over (fields n) (mid_of 12 (length v - 12) v)
    → set (put_mid 12 (length v - 12) v y) 144 10 ≡ over (line_of s) out
unfolding fields written
by-fields s n out v y h e p w =
    let l : length v ≡ length out = ap length p ∙ length_over (justified 12 2) out (omega (arith, length-justified 12 2)) in
    let k : length (fields n) ≡ 132 = omega (arith, length_fields n, ap length e, eleven s) in
    ap (λ (t : List ℕ). set t 144 10)
    (part_written 12 (length v) (fields n) v y (omega arith) (omega arith) (omega arith) w
    ∙ rw (e, p) (written_next (justified 12 2) (fields (numbers_of s)) out 12 (length-justified 12 2)))
    ∙ fed s out h

-- what the check of `write_line` needs
pub ruleset written_line = (by-fields, opening)
