-- Settings and their numbers are one thing where zeros stand outside the mode, and those of settings that refusal 1 takes are held by twelve
-- columns.
use mathlib.Core.Path.{◌≡◌, refl, sym, ap, ◌∙◌}
use mathlib.Core.Bool.{Bool, true, ◌&&◌, ◌||◌}
use mathlib.Core.List.{List, [], ◌∷◌}
use Prim.Native.Nat.{ℕ, zero, suc, ◌+◌, ◌≤◌}
use native.Mathlib.Omega.{arith}
use Rattle.std.proofs.lemmas.Bool.{eqb-true, and_parts}
use lib.Dec.{T, leb, eqb, leb→le}
use lib.Ieee.Fits.{and_l, and_r}
use lib.ListN.{length, take, drop, get_or}
use lib.Seq.{drop-cons, take_all}
use Rattle.config.specs.declared.RtpInboundStreamDynamicConfig.{RtpInboundStreamDynamicConfig}
use Rattle.config.specs.declared.RtpInboundStreamSortedQueueMode.TheVariants.{Fixed, Dynamic}
use Rattle.config.specs.declared.RtpInboundQueueMode.{RtpInboundQueueMode}
use Rattle.config.specs.declared.RtpInboundQueueMode.TheVariants.{Passthrough, SortedQueue}
use Rattle.config.specs.declared.Settings.{Settings}
use Rattle.config.specs.Mode.{mode_of, mode_number, no_dynamic, dynamic_of}
use Rattle.config.specs.Valid.{longest, most_attempts, dynamic_valid, mode_valid, settings_valid}
use Rattle.config.proofs.Facts.{Usable, usable}
use Rattle.config.proofs.Mode.{mode-back}
use Rattle.settings_line.specs.Fields.{numbers_of, settings_of, zeros_outside}
use Rattle.settings_line.proofs.Numbered.{Held}

-- ---- tests

pub holds : {b : Bool} → b ≡ true → T b
holds e = rw e tt

-- ---- settings and numbers

number_back : (n : ℕ) (d : RtpInboundStreamDynamicConfig) → n ≤ 2 → mode_number (mode_of n d) ≡ n
unfolding mode_of mode_number
number_back zero d h = refl
number_back (suc zero) d h = refl
number_back (suc (suc zero)) d h = refl
number_back (suc (suc (suc n))) d h = absurd (omega arith)

pub mode_most : (m : RtpInboundQueueMode) → mode_number m ≤ 2
unfolding mode_number
mode_most Passthrough = omega arith
mode_most (SortedQueue Fixed) = omega arith
mode_most (SortedQueue (Dynamic d)) = omega arith

pub settings_back : (s : Settings) → settings_of (numbers_of s) ≡ s
unfolding settings_of numbers_of
settings_back s =
    ap (λ (m : RtpInboundQueueMode). record { mode = m; clock_rate = s.clock_rate; max_entries = s.max_entries; max_gaps = s.max_gaps; delay = s.delay; initial_nack_delay = s.initial_nack_delay; default_nack_resend_delay = s.default_nack_resend_delay; max_nack_attempts = s.max_nack_attempts }) (mode-back s.mode)

-- a list by its places
gets : ℕ → ℕ → List ℕ → List ℕ
gets zero j ns = []
gets (suc k) j ns = get_or ns j 0 ∷ gets k (suc j) ns

by-places : (k j : ℕ) (ns : List ℕ) → j + k ≤ length ns → take k (drop j ns) ≡ gets k j ns
unfolding gets
by-places zero j ns h = refl
by-places (suc k) j ns h = rw (drop-cons ns j 0 (omega arith)) (ap (λ (t : List ℕ). get_or ns j 0 ∷ t) (by-places k (suc j) ns (omega arith)))

-- the numbers of version 1 that are kept, and those of version 2
pub first_eight : (ns : List ℕ) → length ns ≡ 9 → take 8 ns ≡ get_or ns 0 0 ∷ get_or ns 1 0 ∷ get_or ns 2 0 ∷ get_or ns 3 0 ∷ get_or ns 4 0 ∷ get_or ns 5 0 ∷ get_or ns 6 0 ∷ get_or ns 7 0 ∷ []
unfolding gets
first_eight ns l = by-places 8 0 ns (omega arith)

all_eleven : (ns : List ℕ) → length ns ≡ 11 → ns ≡ get_or ns 0 0 ∷ get_or ns 1 0 ∷ get_or ns 2 0 ∷ get_or ns 3 0 ∷ get_or ns 4 0 ∷ get_or ns 5 0 ∷ get_or ns 6 0 ∷ get_or ns 7 0 ∷ get_or ns 8 0 ∷ get_or ns 9 0 ∷ get_or ns 10 0 ∷ []
unfolding gets
all_eleven ns l = sym (take_all 11 ns (omega arith)) ∙ by-places 11 0 ns (omega arith)

-- what mode 2 has, read and written: outside it, zeros
dynamic_back : (n min max t : ℕ) → n ≤ 2 → (eqb n 2 || (eqb min 0 && eqb max 0 && eqb t 0)) ≡ true
    → dynamic_of (mode_of n (record { min = min; max = max; target_recovery = t })) ≡ record { min = min; max = max; target_recovery = t }
unfolding mode_of no_dynamic dynamic_of
dynamic_back zero min max t h e =
    let p = and_parts (eqb min 0 && eqb max 0) (eqb t 0) e in
    let q = and_parts (eqb min 0) (eqb max 0) p.0 in
    rw (eqb-true min 0 q.0, eqb-true max 0 q.1, eqb-true t 0 p.1)
dynamic_back (suc zero) min max t h e =
    let p = and_parts (eqb min 0 && eqb max 0) (eqb t 0) e in
    let q = and_parts (eqb min 0) (eqb max 0) p.0 in
    rw (eqb-true min 0 q.0, eqb-true max 0 q.1, eqb-true t 0 p.1)
dynamic_back (suc (suc zero)) min max t h e = refl
dynamic_back (suc (suc (suc n))) min max t h e = absurd (omega arith)

pub numbers_again : (ns : List ℕ) → length ns ≡ 11 → get_or ns 0 0 ≤ 2 → zeros_outside ns ≡ true → numbers_of (settings_of ns) ≡ ns
unfolding settings_of numbers_of zeros_outside
numbers_again ns l h z =
    let d = dynamic_back (get_or ns 0 0) (get_or ns 8 0) (get_or ns 9 0) (get_or ns 10 0) h (and_parts (eqb (get_or ns 0 0) 1 || eqb (get_or ns 4 0) 0) (eqb (get_or ns 0 0) 2 || (eqb (get_or ns 8 0) 0 && eqb (get_or ns 9 0) 0 && eqb (get_or ns 10 0) 0)) z).1 in
    rw (number_back (get_or ns 0 0) (record { min = get_or ns 8 0; max = get_or ns 9 0; target_recovery = get_or ns 10 0 }) h, d) (sym (all_eleven ns l))

-- ---- ranges

attempts_most : (m : RtpInboundQueueMode) → most_attempts m ≤ 255
unfolding most_attempts
attempts_most Passthrough = omega arith
attempts_most (SortedQueue Fixed) = omega arith
attempts_most (SortedQueue (Dynamic d)) = omega arith

-- what mode 2 has, at most
record Own (d : RtpInboundStreamDynamicConfig) : Type 0 where
  min_most : d.min ≤ longest
  max_most : d.max ≤ longest
  target_most : d.target_recovery ≤ 9999

own : (m : RtpInboundQueueMode) → T (mode_valid m) → Own (dynamic_of m)
unfolding mode_valid dynamic_valid no_dynamic dynamic_of
own Passthrough t = record { min_most = omega arith; max_most = omega arith; target_most = omega arith }
own (SortedQueue Fixed) t = record { min_most = omega arith; max_most = omega arith; target_most = omega arith }
own (SortedQueue (Dynamic d)) t =
    let p = and_l (leb d.min d.max && leb d.max longest) (leb d.target_recovery 9999) t in
    let low : d.min ≤ d.max = leb→le d.min d.max (and_l (leb d.min d.max) (leb d.max longest) p) in
    let high : d.max ≤ longest = leb→le d.max longest (and_r (leb d.min d.max) (leb d.max longest) p) in
    record { min_most = omega arith; max_most = high; target_most = leb→le d.target_recovery 9999 (and_r (leb d.min d.max && leb d.max longest) (leb d.target_recovery 9999) t) }

pub numbers-held : (s : Settings) → settings_valid s ≡ true → Held (numbers_of s)
unfolding numbers_of Held
numbers-held s e =
    let u : Usable s = usable s (holds e) in
    let m = mode_most s.mode in
    let a = attempts_most s.mode in
    let o : Own (dynamic_of s.mode) = own s.mode u.mode in
    (omega arith, (omega arith, (omega arith, (omega arith, (omega arith, (omega arith, (omega arith, (omega arith, (omega arith, (omega arith, (omega arith, tt)))))))))))

-- the fields that the record keeps in 32 bits
pub narrow : (ns : List ℕ) → settings_valid (settings_of ns) ≡ true → (get_or ns 1 0 ≤ 1000000) × (get_or ns 7 0 ≤ 255)
unfolding settings_of
narrow ns e =
    let u : Usable (settings_of ns) = usable (settings_of ns) (holds e) in
    let a = attempts_most (settings_of ns).mode in
    (u.rate, omega arith)
