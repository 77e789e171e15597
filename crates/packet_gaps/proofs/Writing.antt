-- The loops that NACK the gaps that are due: the first i gaps are as after the call and the others as before it (`Nacked`). `poll_nacks` has
-- written the numbers of those that were due so far (`Polling`), `poll_wire` the entries that name them (`Wiring`).
use mathlib.Core.Path.{◌≡◌, refl, sym, ap, ◌∙◌, subst}
use mathlib.Core.Bool.{Bool, true, false, cond}
use mathlib.Core.List.{List, [], ◌∷◌, ◌++◌, map, append_assoc, append-nil}
use Prim.Native.Nat.{ℕ, zero, suc, ◌+◌, ◌-◌, ◌*◌, ◌^◌, ◌≤◌, ◌<◌}
use native.Mathlib.Omega.{arith}
use lib.Dec.{T, ltb}
use lib.Ieee.Bits.{is_true}
use lib.ListN.{length, take, drop, get_or, set, length-append, length-map, length-take, length-drop, take-append-drop, drop_of_length-le}
use lib.Seq.{take_all, length-take-le, set_at, get_or_at}
use Rattle.words.specs.Words.{over, written}
use Rattle.words.specs.Blocks.{laid}
use Rattle.words.specs.Order.{leads, ascends}
use Rattle.words.proofs.Loops.{Writing, writing_none, writing_more, writing_all}
use Rattle.words.proofs.Lists.{map-append}
use Rattle.words.proofs.Ordered.{and_left, and_right}
use Rattle.words.proofs.Records.{Holds, holds-length, holds_at, holds-set}
use Rattle.nack_pairs.specs.declared.Naming.{Naming}
use Rattle.nack_pairs.specs.Wire.{entry_bytes, bytes_of, entries}
use Rattle.nack_pairs.specs.Naming.{Follows, opened, named_next}
use Rattle.nack_pairs.proofs.Writing.{Named, named_none, named_follows, next_bytes, named_more, named-bytes}
use Rattle.config.specs.declared.NackTimings.{NackTimings}
use Rattle.model.specs.Lists.{keep, some?, every?}
use Rattle.model.specs.Records.{Gap, gap_numbers}
use Rattle.model.specs.Rules.{due, full, nacked, nacked_if_due, nack_due, truncated}
use Rattle.model.specs.Storage.{gap_words, gap_words_of, gap_of_words, gaps_of}
use Rattle.model.proofs.Lists.{length-keep, rising_of_ascends, ascends_of_rising, rising_keep}
use Rattle.model.proofs.Laid.{gap_wide, gaps-held, gap_coded, length-gaps_of}
use Rattle.packet_gaps.specs.Gaps.{GapsIn, instants_fit}
use Rattle.packet_gaps.proofs.Laws.{no_gap, gap_at}
use Rattle.std.proofs.lemmas.Bool.{or_parts}
use Rattle.packet_gaps.proofs.Turns.{every-at, drop_next, take_next}

-- ---- those that pass a test, one more at a time

module _ {A : Type 0} (p : A → Bool) where
  pub keep_append : (a b : List A) → keep p (a ++ b) ≡ keep p a ++ keep p b
  unfolding keep
  keep_append [] b = refl
  keep_append (x ∷ a) b = go (p x) (keep_append a b)
    where
      go : (c : Bool) → keep p (a ++ b) ≡ keep p a ++ keep p b → cond c (x ∷ keep p (a ++ b)) (keep p (a ++ b)) ≡ cond c (x ∷ keep p a) (keep p a) ++ keep p b
      go true e = ap (λ (l : List A). x ∷ l) e
      go false e = e

  -- the one at place i, if it passes, follows those before it
  module _ (d : A) (xs : List A) (i : ℕ) (h : i < length xs) where
    pub keep_next : p (get_or xs i d) ≡ true → keep p (take (i + 1) xs) ≡ keep p (take i xs) ++ (get_or xs i d ∷ [])
    unfolding keep
    keep_next e = ap (keep p) (take_next d xs i h) ∙ keep_append (take i xs) (get_or xs i d ∷ []) ∙ rw e

    pub keep_skip : p (get_or xs i d) ≡ false → keep p (take (i + 1) xs) ≡ keep p (take i xs)
    unfolding keep
    keep_skip e = ap (keep p) (take_next d xs i h) ∙ keep_append (take i xs) (get_or xs i d ∷ []) ∙ rw (e, append-nil)

    pub keep-around : p (get_or xs i d) ≡ true → keep p xs ≡ keep p (take i xs) ++ (get_or xs i d ∷ keep p (drop (i + 1) xs))
    unfolding keep
    keep-around e =
        ap (keep p) (sym (take-append-drop i xs)) ∙ keep_append (take i xs) (drop i xs) ∙ ap (λ (l : List A). keep p (take i xs) ++ keep p l) (drop_next d xs i h) ∙ rw e

-- of those that pass q none passes p
pub none-at : {A : Type 0} (q p : A → Bool) (xs : List A) (d : A) (i : ℕ) → some? p (keep q xs) ≡ false → i < length xs → q (get_or xs i d) ≡ true → p (get_or xs i d) ≡ false
unfolding some? keep
none-at q p [] d i e h a = absurd (omega arith)
none-at q p (x ∷ xs) d zero e h a = let f : some? p (x ∷ keep q xs) ≡ false = rw a at e in (or_parts (p x) (some? p (keep q xs)) f).0
none-at q p (x ∷ xs) d (suc i) e h a = go (λ f. none-at q p xs d i f (omega arith) a) (q x) e
  where
    go : (some? p (keep q xs) ≡ false → p (get_or xs i d) ≡ false) → (b : Bool) → some? p (cond b (x ∷ keep q xs) (keep q xs)) ≡ false → p (get_or xs i d) ≡ false
    go ih true f = ih (or_parts (p x) (some? p (keep q xs)) f).1
    go ih false f = ih f

abbrev gap_number : Gap → ℕ
gap_number g = g.number

-- the gaps with the first i as after the call
unfoldable pub polled : NackTimings → ℕ → List Gap → ℕ → List Gap
polled t now gs i = nack_due t now (take i gs) ++ drop i gs

length-polled : (t : NackTimings) (now : ℕ) (s : List ℕ) (n i : ℕ) → length (polled t now (gaps_of s n) i) ≡ n
unfolding polled
length-polled t now s n i =
    let gs = gaps_of s n in
    let lg = length-gaps_of s n in
    let lm = length-map (take i gs) (nacked_if_due t now) in
    simp (length-append, length-drop) (omega (arith, length-take i gs))

-- ---- the gaps, in both loops

pub record Nacked (t : NackTimings) (now : ℕ) (s₀ s : List ℕ) (n i : ℕ) : Type 0 where
  pub kept : GapsIn s₀ n
  pub upto : i ≤ n
  pub same : length s ≡ length s₀
  pub held : s ≡ laid gap_words_of (length s₀) (polled t now (gaps_of s₀ n) i)

pub nacked-none : (t : NackTimings) (now : ℕ) (s₀ : List ℕ) (n : ℕ) → GapsIn s₀ n → Nacked t now s₀ s₀ n 0
unfolding polled
nacked-none t now s₀ n k = record { kept = k; upto = omega arith; same = refl; held = k.held }

-- those that were due so far
abbrev due_in : NackTimings → ℕ → List ℕ → ℕ → ℕ → List Gap
due_in t now s n i = keep (due t now) (take i (gaps_of s n))

few-due : (t : NackTimings) (now : ℕ) (s : List ℕ) (n i : ℕ) → i ≤ n → length (due_in t now s n i) ≤ i
few-due t now s n i h = omega (arith, length-keep (due t now) (take i (gaps_of s n)), length-take-le i (gaps_of s n) (omega (arith, length-gaps_of s n)))

module _ {t : NackTimings} {now : ℕ} {s₀ s : List ℕ} {n i : ℕ} (c : Nacked t now s₀ s n i) (h : i < n) where
  xs : List Gap
  xs = gaps_of s₀ n

  x : Gap
  unfolding xs
  x = get_or xs i no_gap

  pub inside : i < length (gaps_of s₀ n)
  inside = rw length-gaps_of h

  -- the list that stands in s, around place i
  before : List Gap
  unfolding xs
  before = nack_due t now (take i xs)

  around : polled t now xs i ≡ before ++ (x ∷ drop (i + 1) xs)
  unfolding xs x before polled
  around = ap (λ (l : List Gap). before ++ l) (drop_next no_gap xs i inside)

  length_before : length before ≡ i
  unfolding xs before
  length_before = length-map (take i xs) (nacked_if_due t now) ∙ length-take-le i xs (omega (arith, inside))

  here : Holds gap_words (length s₀) gap_words_of s n (polled t now xs i)
  unfolding xs
  here = gaps-held c.held (length-polled t now s₀ n i) c.kept.room

  due_one : due t now x ≡ true → nacked_if_due t now x ≡ nacked now x
  unfolding nacked_if_due
  due_one d = rw d

  due-none : due t now x ≡ false → nacked_if_due t now x ≡ x
  unfolding nacked_if_due
  due-none d = rw d

  next : (y : Gap) → nacked_if_due t now x ≡ y → before ++ (y ∷ drop (i + 1) xs) ≡ polled t now xs (i + 1)
  unfolding xs x before polled
  next y e = sym (rw (take_next no_gap xs i inside, map-append, append_assoc, e))

  -- the turn reads g there
  module _ {g : Gap} (e : g ≡ gap_of_words (take gap_words (drop (gap_words * i) s))) where
    nacked_here : g ≡ get_or (gaps_of s₀ n) i no_gap
    unfolding xs x
    nacked_here =
        let w : take gap_words (drop (gap_words * i) s) ≡ gap_words_of (get_or (polled t now xs i) i no_gap) = holds_at here i no_gap h in
        let v : get_or (polled t now xs i) i no_gap ≡ x = ap (λ (l : List Gap). get_or l i no_gap) around ∙ get_or_at before x (drop (i + 1) xs) no_gap i length_before in
        let w₀ : List ℕ = take gap_words (drop (gap_words * i) s₀) in
        let y : x ≡ gap_of_words w₀ = gap_at s₀ n i h in
        e ∙ ap gap_of_words (w ∙ ap gap_words_of (v ∙ y)) ∙ gap_coded.back (gap_of_words w₀) ∙ sym y

    pub fits_here : every? instants_fit (gaps_of s₀ n) ≡ true → instants_fit g ≡ true
    unfolding xs x
    fits_here a = ap instants_fit nacked_here ∙ every-at instants_fit xs no_gap i a inside

    -- and finds it due, or not
    module _ {r : Bool} (er : r ≡ due t now g) where
      pub due_here : {b : Bool} → r ≡ b → due t now (get_or (gaps_of s₀ n) i no_gap) ≡ b
      unfolding xs x
      due_here z = ap (due t now) (sym nacked_here) ∙ sym er ∙ z

      pub room_here : some? full (keep (due t now) (gaps_of s₀ n)) ≡ false → r ≡ true → full g ≡ false
      unfolding xs x
      room_here a z = ap full nacked_here ∙ none-at (due t now) full xs no_gap i a inside (due_here z)

      nacked-due : {y : Gap} {u : List ℕ} → r ≡ true → y ≡ nacked now g → u ≡ written (gap_words * i) (gap_words_of y) s → Nacked t now s₀ u n (i + 1)
      unfolding xs x
      nacked-due {y} {u} z ey eu =
          let f : nacked_if_due t now x ≡ y = due_one (due_here z) ∙ ap (nacked now) (sym nacked_here) ∙ sym ey in
          let held : u ≡ laid gap_words_of (length s₀) (polled t now xs (i + 1)) =
          eu
          ∙ holds-set here i y (gap_wide y) h
          ∙ ap (laid gap_words_of (length s₀)) (ap (λ (l : List Gap). set l i y) around ∙ set_at before x (drop (i + 1) xs) y i length_before ∙ next y f) in
          record { kept = c.kept; upto = omega arith; same = holds-length (gaps-held held (length-polled t now s₀ n (i + 1)) c.kept.room); held = held }

      nacked_skip : r ≡ false → Nacked t now s₀ s n (i + 1)
      unfolding xs x
      nacked_skip z = record { kept = c.kept; upto = omega arith; same = c.same; held = c.held ∙ ap (laid gap_words_of (length s₀)) (around ∙ next x (due-none (due_here z))) }

module _ {t : NackTimings} {now : ℕ} {s₀ s : List ℕ} {n i : ℕ} (c : Nacked t now s₀ s n i) (h : n ≤ i) where
  all : take i (gaps_of s₀ n) ≡ gaps_of s₀ n
  all = take_all i (gaps_of s₀ n) (omega (arith, length-gaps_of s₀ n))

  all_due : due_in t now s₀ n i ≡ keep (due t now) (gaps_of s₀ n)
  all_due = ap (keep (due t now)) all

  pub nacked_all : s ≡ laid gap_words_of (length s₀) (nack_due t now (gaps_of s₀ n))
  unfolding polled
  nacked_all =
      let e : drop i (gaps_of s₀ n) ≡ [] = drop_of_length-le (gaps_of s₀ n) {i = i} (omega (arith, length-gaps_of s₀ n)) in
      c.held ∙ rw (all, e, append-nil)

-- ---- `poll_nacks`

pub record Polling (t : NackTimings) (now : ℕ) (s₀ out₀ s out : List ℕ) (n i count : ℕ) : Type 0 where
  pub gaps : Nacked t now s₀ s n i
  pub fewer : count ≤ i
  pub room : n ≤ length out₀
  pub counted : count ≡ length (keep (due t now) (take i (gaps_of s₀ n)))
  pub numbers : Writing (map truncated (keep (due t now) (gaps_of s₀ n))) out₀ out (length (keep (due t now) (gaps_of s₀ n))) count

pub polling_none : (t : NackTimings) (now : ℕ) (s₀ out₀ : List ℕ) (n : ℕ) → GapsIn s₀ n → n ≤ length out₀ → Polling t now s₀ out₀ s₀ out₀ n 0 0
unfolding keep
polling_none t now s₀ out₀ n k r =
    let gs = gaps_of s₀ n in
    let q = keep (due t now) gs in
    record {
      gaps = nacked-none t now s₀ n k;
      fewer = omega arith;
      room = r;
      counted = refl;
      numbers = writing_none (map truncated q) out₀ (length q) (omega (arith, length-map q truncated)) (omega (arith, length-keep (due t now) gs, length-gaps_of s₀ n));
    }

module _ {t : NackTimings} {now : ℕ} {s₀ out₀ s out : List ℕ} {n i count : ℕ} (c : Polling t now s₀ out₀ s out n i count) (h : i < n)
    {g : Gap} (e : g ≡ gap_of_words (take gap_words (drop (gap_words * i) s))) {r : Bool} (er : r ≡ due t now g) where
  at : i < length (gaps_of s₀ n)
  at = inside c.gaps h

  pub polling_due : {y : Gap} {u o : List ℕ} {v : ℕ} → r ≡ true → y ≡ nacked now g → u ≡ written (gap_words * i) (gap_words_of y) s → v ≡ truncated g
      → o ≡ set out count v → Polling t now s₀ out₀ u o n (i + 1) (count + 1)
  unfolding x
  polling_due {y} {u} {o} {v} z ey eu ev eo =
      let d = due_here c.gaps h e er z in
      let xs = gaps_of s₀ n in
      let x = get_or xs i no_gap in
      let p = due t now in
      let k = keep p (take i xs) in
      let q = keep p xs in
      let kn : keep p (take (i + 1) xs) ≡ k ++ (x ∷ []) = keep_next p no_gap xs i at d in
      let ln : length (keep p (take (i + 1) xs)) ≡ length k + 1 = ap length kn ∙ length-append k (x ∷ []) in
      let ka : q ≡ k ++ (x ∷ keep p (drop (i + 1) xs)) = keep-around p no_gap xs i at d in
      let lq : length q ≡ length k + suc (length (keep p (drop (i + 1) xs))) = ap length ka ∙ length-append k (x ∷ keep p (drop (i + 1) xs)) in
      let lk : length (map truncated k) ≡ count = length-map k truncated ∙ sym c.counted in
      let vx : v ≡ get_or (map truncated q) count 0 =
      ev ∙ ap truncated (nacked_here c.gaps h e)
      ∙ sym (ap (λ (l : List Gap). get_or (map truncated l) count 0) ka ∙ ap (λ (l : List ℕ). get_or l count 0) (map-append truncated k (x ∷ keep p (drop (i + 1) xs))) ∙ get_or_at (map truncated k) (truncated x) (map truncated (keep p (drop (i + 1) xs))) 0 count lk) in
      let w : Writing (map truncated q) out₀ (set out count v) (length q) (count + 1) = writing_more (map truncated q) out₀ out (length q) count v c.numbers (omega (arith, c.counted)) vx in
      record {
        gaps = nacked-due c.gaps h e er z ey eu;
        fewer = omega (arith, c.fewer);
        room = c.room;
        counted = omega (arith, ln, c.counted);
        numbers = rw eo w;
      }

  pub polling_skip : r ≡ false → Polling t now s₀ out₀ s out n (i + 1) count
  polling_skip z =
      record {
        gaps = nacked_skip c.gaps h e er z;
        fewer = omega (arith, c.fewer);
        room = c.room;
        counted = c.counted ∙ ap length (sym (keep_skip (due t now) no_gap (gaps_of s₀ n) i at (due_here c.gaps h e er z)));
        numbers = c.numbers;
      }

module _ {t : NackTimings} {now : ℕ} {s₀ out₀ s out : List ℕ} {n i count : ℕ} (c : Polling t now s₀ out₀ s out n i count) (h : n ≤ i) where
  pub polling_count : count ≡ length (keep (due t now) (gaps_of s₀ n))
  polling_count = c.counted ∙ ap length (all_due c.gaps h)

  pub polling_out : out ≡ over (map truncated (keep (due t now) (gaps_of s₀ n))) out₀
  polling_out =
      let q = keep (due t now) (gaps_of s₀ n) in
      writing_all (map truncated q) out₀ out (length q) count c.numbers (omega (arith, polling_count))
      ∙ ap (λ (l : List ℕ). over l out₀) (take_all (length q) (map truncated q) (omega (arith, length-map q truncated)))

-- ---- `poll_wire`

pub record Wiring (t : NackTimings) (now : ℕ) (s₀ out₀ s out : List ℕ) (n i : ℕ) (named : Naming) : Type 0 where
  pub gaps : Nacked t now s₀ s n i
  pub room : entry_bytes * n ≤ length out₀
  pub entries : Named (gap_numbers (keep (due t now) (take i (gaps_of s₀ n)))) named out₀ out

pub wiring_none : (t : NackTimings) (now : ℕ) (s₀ out₀ : List ℕ) (n : ℕ) (named : Naming) → GapsIn s₀ n → entry_bytes * n ≤ length out₀ → named.bytes ≡ 0 → Wiring t now s₀ out₀ s₀ out₀ n 0 named
unfolding keep
wiring_none t now s₀ out₀ n named k r z = record { gaps = nacked-none t now s₀ n k; room = r; entries = named_none named out₀ z }

ascends_front : (xs ys : List ℕ) → ascends (xs ++ ys) ≡ true → ascends xs ≡ true
unfolding ascends leads
ascends_front [] ys a = refl
ascends_front (x ∷ []) ys a = refl
ascends_front (x ∷ y ∷ xs) ys a =
    rw (and_left (ltb x y) (ascends (y ∷ xs ++ ys)) a) (ascends_front (y ∷ xs) ys (and_right (ltb x y) (ascends (y ∷ xs ++ ys)) a))

-- those due among the first i ascend, as all gaps do
due-ascend : (p : Gap → Bool) (l : List Gap) (i : ℕ) → ascends (gap_numbers l) ≡ true → ascends (gap_numbers (keep p (take i l))) ≡ true
due-ascend p l i a =
    let r = rising_keep gap_number p (rising_of_ascends gap_number l (subst T (sym a) tt)) in
    let k : keep p l ≡ keep p (take i l) ++ keep p (drop i l) = ap (keep p) (sym (take-append-drop i l)) ∙ keep_append p (take i l) (drop i l) in
    let e : gap_numbers (keep p l) ≡ gap_numbers (keep p (take i l)) ++ gap_numbers (keep p (drop i l)) = ap gap_numbers k ∙ map-append gap_number (keep p (take i l)) (keep p (drop i l)) in
    ascends_front (gap_numbers (keep p (take i l))) (gap_numbers (keep p (drop i l))) (ap ascends (sym e) ∙ is_true _ (ascends_of_rising gap_number (keep p l) r))

module _ {t : NackTimings} {now : ℕ} {s₀ out₀ s out : List ℕ} {n i : ℕ} {named : Naming} (c : Wiring t now s₀ out₀ s out n i named) (h : i < n)
    {g : Gap} (e : g ≡ gap_of_words (take gap_words (drop (gap_words * i) s))) {r : Bool} (er : r ≡ due t now g) where
  -- the numbers named so far
  abbrev sofar : List ℕ
  sofar = gap_numbers (due_in t now s₀ n i)

  few : length sofar ≤ i
  few = omega (arith, length-map (due_in t now s₀ n i) gap_number, few-due t now s₀ n i (omega arith))

  -- the gap at place i is due, and v is its number
  module _ {v : ℕ} (z : r ≡ true) (ev : v ≡ g.number) where
    one_more : gap_numbers (due_in t now s₀ n (i + 1)) ≡ sofar ++ (v ∷ [])
    unfolding x
    one_more =
        let x = get_or (gaps_of s₀ n) i no_gap in
        ap gap_numbers (keep_next (due t now) no_gap (gaps_of s₀ n) i (inside c.gaps h) (due_here c.gaps h e er z))
        ∙ map-append gap_number (due_in t now s₀ n i) (x ∷ [])
        ∙ ap (λ (k : ℕ). sofar ++ (k ∷ [])) (sym (ev ∙ ap gap_number (nacked_here c.gaps h e)))

    pub wiring_follows : ascends (gap_numbers (gaps_of s₀ n)) ≡ true → entry_bytes * n < 2 ^ 64 → Follows named v
    wiring_follows a l = named_follows c.entries v (ap ascends (sym one_more) ∙ due-ascend (due t now) (gaps_of s₀ n) (i + 1) a) (omega (arith, few))

    pub wiring_room : (named_next named v).bytes ≤ length out
    wiring_room = omega (arith, few, next_bytes c.entries v, c.entries.same, c.room)

    pub wiring_due : {y : Gap} {u o : List ℕ} {m : Naming} → y ≡ nacked now g → u ≡ written (gap_words * i) (gap_words_of y) s
        → m ≡ named_next named v → o ≡ written (m.bytes - entry_bytes) (bytes_of (opened m)) out → Wiring t now s₀ out₀ u o n (i + 1) m
    wiring_due {y} {u} {o} {m} ey eu em eo =
        record {
          gaps = nacked-due c.gaps h e er z ey eu;
          room = c.room;
          entries = rw one_more (named_more c.entries m o v (omega (arith, few, c.room)) em eo);
        }

  pub wiring_skip : r ≡ false → Wiring t now s₀ out₀ s out n (i + 1) named
  wiring_skip z =
      let k = keep_skip (due t now) no_gap (gaps_of s₀ n) i (inside c.gaps h) (due_here c.gaps h e er z) in
      record { gaps = nacked_skip c.gaps h e er z; room = c.room; entries = rw k c.entries }

module _ {t : NackTimings} {now : ℕ} {s₀ out₀ s out : List ℕ} {n i : ℕ} {named : Naming} (c : Wiring t now s₀ out₀ s out n i named) (h : n ≤ i) where
  wiring_all : Named (gap_numbers (keep (due t now) (gaps_of s₀ n))) named out₀ out
  wiring_all = subst (λ (l : List Gap). Named (gap_numbers l) named out₀ out) (all_due c.gaps h) c.entries

  pub wiring_bytes : named.bytes ≡ length (entries (gap_numbers (keep (due t now) (gaps_of s₀ n))))
  wiring_bytes = named-bytes wiring_all

  pub wiring_out : out ≡ over (entries (gap_numbers (keep (due t now) (gaps_of s₀ n)))) out₀
  wiring_out = wiring_all.written

-- what the loops ask of the gap of a turn, and leave
pub ruleset polling = (fits_here, polling_count, polling_out, nacked_all)

pub ruleset wiring = (fits_here, room_here, wiring_room, wiring_bytes, wiring_out, nacked_all)
