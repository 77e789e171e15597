-- Fields of twelve columns, one after the other: written, and read number by number. One field is the law of `columns`.
use mathlib.Core.Path.{◌≡◌, refl, sym, ap, ◌∙◌}
use mathlib.Core.List.{List, [], ◌∷◌, ◌++◌, append_assoc, append-nil}
use Prim.Native.Nat.{ℕ, zero, suc, ◌+◌, ◌*◌, ◌-◌, ◌≤◌, ◌<◌}
use native.Mathlib.Numerals.{add-one}
use native.Mathlib.Omega.{arith}
use lib.ListN.{length, take, drop, get_or, set, length-append, length-drop, length-set}
use lib.Seq.{take-suc, take_all, take_at, drop_at, take-add, take-suc-set, drop-drop, length-take-le}
use Rattle.words.specs.Words.{over, written}
use Rattle.words.proofs.Over.{over_nil}
use Rattle.words.proofs.Moves.{written_next}
use Rattle.columns.specs.Columns.{justified, field_number}
use Rattle.std.specs.Prelude.{None, Some, Option}
use Rattle.columns.proofs.Filling.{length-justified}
use Rattle.columns.proofs.Both.{read_back, inverse}
use Rattle.settings_line.specs.Line.{fields, prepend, with_number, numbers_in}

-- ---- written

fields_more : (ns : List ℕ) (n : ℕ) → fields (ns ++ (n ∷ [])) ≡ fields ns ++ justified 12 n
unfolding fields
fields_more [] n = append-nil (justified 12 n)
fields_more (m ∷ ns) n = ap (λ (t : List ℕ). justified 12 m ++ t) (fields_more ns n) ∙ sym (append_assoc (justified 12 m) (fields ns) (justified 12 n))

pub length_fields : (ns : List ℕ) → length (fields ns) ≡ 12 * length ns
unfolding fields
length_fields [] = refl
length_fields (n ∷ ns) = omega (arith, length-append (justified 12 n) (fields ns), length-justified 12 n, length_fields ns)

-- s is d with the fields of the first i numbers written over its front
pub putting_more : (ns d s y : List ℕ) (i : ℕ) → s ≡ over (fields (take i ns)) d → i < length ns → y ≡ written (12 * i) (justified 12 (get_or ns i 0)) s
    → y ≡ over (fields (take (i + 1) ns)) d
putting_more ns d s y i p h e =
    let t : take (i + 1) ns ≡ take i ns ++ (get_or ns i 0 ∷ []) = rw (add-one i) (take-suc ns i 0 h) in
    let l : length (fields (take i ns)) ≡ 12 * i = omega (arith, length_fields (take i ns), length-take-le i ns (omega arith)) in
    e ∙ rw (p, t, fields_more (take i ns) (get_or ns i 0)) (written_next (fields (take i ns)) (justified 12 (get_or ns i 0)) d (12 * i) l)

pub putting_none : (d : List ℕ) → d ≡ over (fields []) d
unfolding fields
putting_none d = sym (over_nil d)

pub putting_all : (ns d s : List ℕ) (i : ℕ) → s ≡ over (fields (take i ns)) d → length ns ≤ i → s ≡ over (fields ns) d
putting_all ns d s i p h = p ∙ ap (λ (t : List ℕ). over (fields t) d) (take_all i ns h)

-- ---- read

prepend_nil : (o : Option (List ℕ)) → prepend [] o ≡ o
unfolding prepend
prepend_nil None = refl
prepend_nil (Some ws) = refl

prepend-prepend : (vs ws : List ℕ) (o : Option (List ℕ)) → prepend vs (prepend ws o) ≡ prepend (vs ++ ws) o
unfolding prepend
prepend-prepend vs ws None = refl
prepend-prepend vs ws (Some us) = ap Some (sym (append_assoc vs ws us))

-- the first i of k places hold the numbers of the first i fields
pub record Gathering (s : List ℕ) (k : ℕ) (values : List ℕ) (i : ℕ) : Type 0 where
  pub room : 12 * k ≤ length s
  pub same : length values ≡ k
  pub left : numbers_in k s ≡ prepend (take i values) (numbers_in (k - i) (drop (12 * i) s))

pub gathering_none : (s : List ℕ) (k : ℕ) (values : List ℕ) → 12 * k ≤ length s → length values ≡ k → Gathering s k values 0
gathering_none s k values h l =
    let z : k - 0 ≡ k = omega arith in
    record { room = h; same = l; left = rw z (sym (prepend_nil (numbers_in k s))) }

module _ (s : List ℕ) (k : ℕ) (values : List ℕ) (i : ℕ) (g : Gathering s k values i) (h : i < k) where
  next : numbers_in (k - i) (drop (12 * i) s) ≡ with_number (field_number (take 12 (drop (12 * i) s))) (numbers_in (k - (i + 1)) (drop (12 * (i + 1)) s))
  unfolding numbers_in
  next =
      let e : k - i ≡ suc (k - (i + 1)) = omega arith in
      let m : 12 * (i + 1) ≡ 12 * i + 12 = omega arith in
      rw (e, drop-drop 12 (12 * i) s, m)

  pub gathering_more : (n : ℕ) → field_number (take 12 (drop (12 * i) s)) ≡ Some n → Gathering s k (set values i n) (i + 1)
  unfolding with_number
  gathering_more n e =
      let same : length values ≡ k = g.same in
      let t : take (i + 1) (set values i n) ≡ take i values ++ (n ∷ []) = rw (add-one i) (take-suc-set values i n (omega arith)) in
      record {
        room = g.room;
        same = length-set values i n ∙ same;
        left = g.left ∙ rw (next, e, prepend-prepend (take i values) (n ∷ []), t);
      }

  pub gathering_wrong : field_number (take 12 (drop (12 * i) s)) ≡ None → None ≡ numbers_in k s
  unfolding with_number prepend
  gathering_wrong e = sym (g.left ∙ rw (next, e))

pub gathering_all : (s : List ℕ) (k : ℕ) (values : List ℕ) (i : ℕ) → Gathering s k values i → k ≤ i → Some values ≡ numbers_in k s
unfolding numbers_in prepend
gathering_all s k values i g h =
    let z : k - i ≡ 0 = omega arith in
    let same : length values ≡ k = g.same in
    sym (g.left ∙ rw (z, take_all i values (omega arith), append-nil))

-- beside what is gathered, the fields that are left: those after the first i
pub record Parting (s : List ℕ) (k : ℕ) (values : List ℕ) (i : ℕ) (rest : List ℕ) (size : ℕ) : Type 0 where
  pub held : Gathering s k values i
  pub after : rest ≡ drop (12 * i) s
  pub wide : size ≡ 12

pub parting_none : (s : List ℕ) (k : ℕ) (values rest : List ℕ) (size : ℕ) → 12 * k ≤ length s → length values ≡ k → rest ≡ s → size ≡ 12 → Parting s k values 0 rest size
parting_none s k values rest size h l r w = record { held = gathering_none s k values h l; after = r; wide = w }

module _ {s : List ℕ} {k : ℕ} {values : List ℕ} {i : ℕ} {rest : List ℕ} {size : ℕ} (p : Parting s k values i rest size) (h : i < k) where
  pub parting_left : length rest < size → ⊥
  parting_left l =
      let e : length rest ≡ length s - 12 * i = ap length p.after ∙ length-drop (12 * i) s in
      omega (arith, p.wide, p.held.room)

  module _ (x rest' : List ℕ) (c : rest ≡ x ++ rest') (l : length x ≡ size) where
    part : x ≡ take 12 (drop (12 * i) s)
    part = sym (take_at x rest' 12 (l ∙ p.wide)) ∙ ap (take 12) (sym c ∙ p.after)

    pub parting_more : (size' n : ℕ) → size' ≡ size → field_number x ≡ Some n → Parting s k (set values i n) (i + 1) rest' size'
    parting_more size' n w e =
        let m : 12 * i + 12 ≡ 12 * (i + 1) = omega arith in
        record {
          held = gathering_more s k values i p.held h n (ap field_number (sym part) ∙ e);
          after = sym (drop_at x rest' 12 (l ∙ p.wide)) ∙ ap (drop 12) (sym c ∙ p.after) ∙ drop-drop 12 (12 * i) s ∙ ap (λ (j : ℕ). drop j s) m;
          wide = w ∙ p.wide;
        }

    pub parting_wrong : field_number x ≡ None → None ≡ numbers_in k s
    parting_wrong e = gathering_wrong s k values i p.held h (ap field_number (sym part) ∙ e)

-- what the checks of `numbers_in` and of `write_numbers` need
pub ruleset gathered = (gathering_wrong, gathering_all)

pub ruleset put = (putting_none, putting_more, putting_all)

-- ---- both ways

-- each is held by twelve columns
unfoldable pub Held : List ℕ → Type 0
Held [] = Unit
Held (n ∷ ns) = (n < 1000000000000) × Held ns

pub numbers-back : (ns rest : List ℕ) → Held ns → numbers_in (length ns) (fields ns ++ rest) ≡ Some ns
unfolding fields numbers_in with_number prepend Held
numbers-back [] rest h = refl
numbers-back (n ∷ ns) rest h =
    let a : (justified 12 n ++ fields ns) ++ rest ≡ justified 12 n ++ (fields ns ++ rest) = append_assoc (justified 12 n) (fields ns) rest in
    let l : length (justified 12 n) ≡ 12 = length-justified 12 n in
    let b : n < 1000000000000 = h.0 in
    rw (a, take_at (justified 12 n) (fields ns ++ rest) 12 l, drop_at (justified 12 n) (fields ns ++ rest) 12 l, read_back 12 n (omega arith) b (omega arith), numbers-back ns rest h.1)

-- only what would be written is read
pub record Readable (k : ℕ) (s ns : List ℕ) : Type 0 where
  pub count : length ns ≡ k
  pub text : take (12 * k) s ≡ fields ns

pub numbers-only : (k : ℕ) (s ns : List ℕ) → 12 * k ≤ length s → numbers_in k s ≡ Some ns → Readable k s ns
unfolding fields numbers_in with_number prepend
numbers-only zero s ns h e = let z : [] ≡ ns = cc in record { count = sym (ap length z); text = ap fields z }
numbers-only (suc k) s ns h e =
    go (numbers-only k (drop 12 s)) (field_number (take 12 s)) (numbers_in k (drop 12 s)) refl refl e
  where
    go : ((ms : List ℕ) → 12 * k ≤ length (drop 12 s) → numbers_in k (drop 12 s) ≡ Some ms → Readable k (drop 12 s) ms) → (o : Option ℕ) (m : Option (List ℕ)) → field_number (take 12 s) ≡ o → numbers_in k (drop 12 s) ≡ m → with_number o m ≡ Some ns → Readable (suc k) s ns
    go ih None m p q e = let z : ◌≡◌ {A = ℕ} 0 1 = cc in absurd (omega arith)
    go ih (Some n) None p q e = let z : ◌≡◌ {A = ℕ} 0 1 = cc in absurd (omega arith)
    go ih (Some n) (Some ms) p q e =
        let z : n ∷ ms ≡ ns = cc in
        let r : Readable k (drop 12 s) ms = ih ms (omega (arith, length-drop 12 s)) q in
        let l : length (take 12 s) ≡ 12 = length-take-le 12 s (omega arith) in
        let t : take 12 s ≡ justified 12 n = ((inverse (take 12 s) n).only p).text ∙ ap (λ (w : ℕ). justified w n) l in
        let m : 12 * suc k ≡ 12 + 12 * k = omega arith in
        record { count = sym (ap length z) ∙ ap suc r.count; text = rw (m, take-add 12 (12 * k) s, t, r.text) (ap fields z) }
