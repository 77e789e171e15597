-- What check 16 says of the three lists stays true as the clock goes on, gaps open and close, a packet comes to wait, and the front goes out.
use mathlib.Core.Path.{◌≡◌, refl, sym, ◌∙◌}
use mathlib.Core.Logic.{◌≢◌}
use mathlib.Core.Bool.{not}
use mathlib.Core.List.{List, ◌∷◌, ◌++◌, map}
use Prim.Native.Nat.{ℕ, suc, ◌-◌, ◌≤◌, ◌<◌}
use native.Mathlib.Omega.{arith}
use lib.Dec.{T, nltb→le}
use Rattle.std.specs.Prelude.{Option, None, Some}
use Rattle.config.specs.declared.RtpInboundQueueMode.{RtpInboundQueueMode}
use Rattle.config.specs.declared.RtpInboundQueueMode.TheVariants.{Passthrough, SortedQueue}
use Rattle.model.specs.Lists.{some?}
use Rattle.model.specs.Records.{Entry, Gap, Remembered}
use Rattle.model.specs.Rules.{is, below, without, gaps_from, between, fresh}
use Rattle.model.specs.Push.{insert_sorted}
use Rattle.model.proofs.Lists.{eqb_no, Each, each_first, each_rest, each_imp, each_both, each_append, each_keep, each_kept, each_map, Rising, rising_first, rising_rest, rising_keep, rising_append, rising_map, each_following, rising_following, each_insert, rising_insert, holds_of_some}
use Rattle.model.proofs.Sound.{Reached, Under, Ahead, Returned, By, GapIn, EntryIn, RememberedIn, Apart, ListsIn}

-- ---- one element

by-later : {clock now : ℕ} (i : Option ℕ) → clock ≤ now → By clock i → By now i
unfolding By
by-later None le b = tt
by-later (Some i) le b = omega arith

-- what a higher highest number leaves as it is
reached_raised : (h : Option ℕ) (n k : ℕ) → ((j : ℕ) → Reached h j → j < n) → Reached h k → Reached (Some n) k
unfolding Reached
reached_raised None n k up r = absurd r
reached_raised (Some h) n k up r = omega (arith, up h (omega arith))

under_raised : (h : Option ℕ) (n k : ℕ) → ((j : ℕ) → Reached h j → j < n) → Under h k → Under (Some n) k
unfolding Reached Under
under_raised None n k up r = absurd r
under_raised (Some h) n k up r = omega (arith, up h (omega arith))

reached_of_under : (h : Option ℕ) (n : ℕ) → Under h n → Reached h n
unfolding Reached Under
reached_of_under None n u = u
reached_of_under (Some h) n u = omega arith

returned_raised : (h r : Option ℕ) (n : ℕ) → ((j : ℕ) → Reached h j → j < n) → Returned h r → Returned (Some n) r
unfolding Returned
returned_raised h None n up t = tt
returned_raised h (Some k) n up t = reached_raised h n k up t

-- a number above all that was reached is above the last returned
ahead_new : (mode : RtpInboundQueueMode) (h r : Option ℕ) (n : ℕ) → ((j : ℕ) → Reached h j → j < n) → Returned h r → Ahead mode r n
unfolding Ahead Returned
ahead_new Passthrough h r n up t = tt
ahead_new (SortedQueue sorted) h None n up t = tt
ahead_new (SortedQueue sorted) h (Some k) n up t = up k t

-- and any above the one that goes out
ahead_of_front : (mode : RtpInboundQueueMode) (k n : ℕ) → k < n → Ahead mode (Some k) n
unfolding Ahead
ahead_of_front Passthrough k n lt = tt
ahead_of_front (SortedQueue sorted) k n lt = lt

-- ---- the lists

module _ {clock : ℕ} {highest : Option ℕ} {mode : RtpInboundQueueMode} {returned : Option ℕ} {gaps : List Gap} {entries : List Entry} {remembered : List Remembered} (l : ListsIn clock highest mode returned gaps entries remembered) where
  pub later : {now : ℕ} → clock ≤ now → ListsIn now highest mode returned gaps entries remembered
  later le =
      record {
        returned_in = l.returned_in;
        gaps_rise = l.gaps_rise;
        gaps_in = each_imp (λ g h. record { under = h.under; ahead = h.ahead; detected-by = omega arith; nacked-by = omega arith }) l.gaps_in;
        entries_rise = l.entries_rise;
        entries_in = each_imp (λ e h. record { reached = h.reached; ahead = h.ahead; timestamp-fits = h.timestamp-fits; came_by = by-later e.arrival le h.came_by; payload-fits = h.payload-fits }) l.entries_in;
        apart = l.apart;
        remembered_in = each_imp (λ r h. record { number_fits = h.number_fits; nacked-by = omega arith }) l.remembered_in;
      }

  -- a part of the gaps
  pub fewer : {part : List Gap} → ((P : Gap → Type 0) → Each P gaps → Each P part) → Rising (λ (g : Gap). g.number) part → ListsIn clock highest mode returned part entries remembered
  fewer sub rise =
      record { returned_in = l.returned_in; gaps_rise = rise; gaps_in = sub _ l.gaps_in; entries_rise = l.entries_rise; entries_in = l.entries_in; apart = each_imp (λ e a. sub _ a) l.apart; remembered_in = l.remembered_in }

  -- other gaps with the same numbers
  pub changed : (f : Gap → Gap) → ((g : Gap) → (f g).number ≡ g.number) → ((g : Gap) → GapIn clock highest mode returned g → GapIn clock highest mode returned (f g)) → ListsIn clock highest mode returned (map f gaps) entries remembered
  changed f same stays =
      record {
        returned_in = l.returned_in;
        gaps_rise = rising_map _ _ f same l.gaps_rise;
        gaps_in = each_map f (each_imp stays l.gaps_in);
        entries_rise = l.entries_rise;
        entries_in = l.entries_in;
        apart = each_imp (λ e a. each_map {P = λ (g : Gap). g.number ≢ e.number} f (each_imp (λ g ne q. ne (sym (same g) ∙ q)) a)) l.apart;
        remembered_in = l.remembered_in;
      }

  -- other remembered numbers
  pub remembering : {other : List Remembered} → Each (RememberedIn clock) other → ListsIn clock highest mode returned gaps entries other
  remembering h =
      record { returned_in = l.returned_in; gaps_rise = l.gaps_rise; gaps_in = l.gaps_in; entries_rise = l.entries_rise; entries_in = l.entries_in; apart = l.apart; remembered_in = h }

  -- a packet comes to wait
  put : (e : Entry) → EntryIn clock highest mode returned e → Apart gaps e.number → Each (λ (x : Entry). x.number ≢ e.number) entries → ListsIn clock highest mode returned gaps (insert_sorted e entries) remembered
  put e h a other =
      record { returned_in = l.returned_in; gaps_rise = l.gaps_rise; gaps_in = l.gaps_in; entries_rise = rising_insert e other l.entries_rise; entries_in = each_insert e h l.entries_in; apart = each_insert e a l.apart; remembered_in = l.remembered_in }

  -- a new highest number
  raise : (n : ℕ) → ((j : ℕ) → Reached highest j → j < n) → ListsIn clock (Some n) mode returned gaps entries remembered
  raise n up =
      record {
        returned_in = returned_raised highest returned n up l.returned_in;
        gaps_rise = l.gaps_rise;
        gaps_in = each_imp (λ g h. record { under = under_raised highest n g.number up h.under; ahead = h.ahead; detected-by = h.detected-by; nacked-by = h.nacked-by }) l.gaps_in;
        entries_rise = l.entries_rise;
        entries_in = each_imp (λ e h. record { reached = reached_raised highest n e.number up h.reached; ahead = h.ahead; timestamp-fits = h.timestamp-fits; came_by = h.came_by; payload-fits = h.payload-fits }) l.entries_in;
        apart = l.apart;
        remembered_in = l.remembered_in;
      }

  -- the front goes out, with the gaps that are then not ahead
  pub out : {e : Entry} {es : List Entry} {part : List Gap} → entries ≡ e ∷ es → ((P : Gap → Type 0) → Each P gaps → Each P part) → Rising (λ (g : Gap). g.number) part
      → Each (λ (g : Gap). Ahead mode (Some e.number) g.number) part → ListsIn clock highest mode (Some e.number) part es remembered
  unfolding Returned
  out {e} {es} {part} is_front sub rise ahead =
      let front-in : Each (EntryIn clock highest mode returned) (e ∷ es) = rw is_front at l.entries_in in
      let front-rise : Rising (λ (e : Entry). e.number) (e ∷ es) = rw is_front at l.entries_rise in
      let front-apart : Each (λ (e : Entry). Apart gaps e.number) (e ∷ es) = rw is_front at l.apart in
      record {
        returned_in = (each_first front-in).reached;
        gaps_rise = rise;
        gaps_in = each_imp (λ g h. record { under = h.0.under; ahead = h.1; detected-by = h.0.detected-by; nacked-by = h.0.nacked-by }) (each_both (sub _ l.gaps_in) ahead);
        entries_rise = rising_rest _ front-rise;
        entries_in =
            each_imp (λ x h. record { reached = h.0.reached; ahead = ahead_of_front mode e.number x.number h.1; timestamp-fits = h.0.timestamp-fits; came_by = h.0.came_by; payload-fits = h.0.payload-fits })
            (each_both (each_rest front-in) (rising_first _ front-rise));
        apart = each_imp (λ x a. sub _ a) (each_rest front-apart);
        remembered_in = l.remembered_in;
      }

-- ---- where a media packet stands

module _ {clock : ℕ} {highest : Option ℕ} {mode : RtpInboundQueueMode} {returned : Option ℕ} {gaps : List Gap} {entries : List Entry} {remembered : List Remembered} (l : ListsIn clock highest mode returned gaps entries remembered) where
  -- a number among the gaps
  pub reached_gap : (n : ℕ) → T (some? (is n) gaps) → Reached highest n
  reached_gap n t = reached_of_under highest n (holds_of_some (Under highest) n gaps t (each_imp (λ g h. h.under) l.gaps_in))

  -- the gap of its number closes
  pub fill : (e : Entry) → EntryIn clock highest mode returned e → T (some? (is e.number) gaps) → ListsIn clock highest mode returned (without e.number gaps) (insert_sorted e entries) remembered
  unfolding without is
  fill e h t =
      let n = e.number in
      put (fewer l (λ P k. each_keep (λ (g : Gap). not (is n g)) k) (rising_keep _ (λ (g : Gap). not (is n g)) l.gaps_rise)) e h
      (each_imp (λ g k. eqb_no g.number n k) (each_kept (λ (g : Gap). not (is n g)) gaps))
      (each_imp (λ x a q. holds_of_some (λ (k : ℕ). k ≢ x.number) n gaps t a (sym q)) l.apart)

  -- it is above all that was reached
  above_all : (n : ℕ) → ((j : ℕ) → Reached highest j → j < n) → Each (λ (x : Entry). x.number ≢ n) entries
  above_all n up = each_imp (λ x h q. absurd (omega (arith, up x.number h.reached))) l.entries_in

  -- it comes to wait, and no gap opens
  pub come : (e : Entry) → EntryIn clock (Some e.number) mode returned e → ((j : ℕ) → Reached highest j → j < e.number) → ListsIn clock (Some e.number) mode returned gaps (insert_sorted e entries) remembered
  come e h up =
      let n = e.number in
      put (raise l n up) e h (each_imp (λ g k q. absurd (omega (arith, up g.number (reached_of_under highest g.number k.under)))) l.gaps_in) (above_all n up)

-- `gaps_from` keeps the gaps above the front, which is none of them
pub from-ahead : (mode : RtpInboundQueueMode) (n : ℕ) (gaps : List Gap) → Apart gaps n → Each (λ (g : Gap). Ahead mode (Some n) g.number) (gaps_from n gaps)
unfolding gaps_from below
from-ahead mode n gaps a =
    each_imp (λ g h. ahead_of_front mode n g.number (omega (arith, h.0, nltb→le g.number n h.1)))
    (each_both (each_keep (λ (g : Gap). not (below n g)) a) (each_kept (λ (g : Gap). not (below n g)) gaps))

module _ {now h : ℕ} {mode : RtpInboundQueueMode} {returned : Option ℕ} {gaps : List Gap} {entries : List Entry} {remembered : List Remembered} (l : ListsIn now (Some h) mode returned gaps entries remembered) where
  -- the numbers between the highest and a higher one become gaps
  opened : (n : ℕ) → h < n → ListsIn now (Some n) mode returned (gaps ++ map (fresh now) (between h n)) entries remembered
  unfolding between fresh Reached Under
  opened n lt =
      let r = raise l n (λ j k. omega arith) in
      let new = each_following (suc h) (n - suc h) in
      record {
        returned_in = r.returned_in;
        gaps_rise =
            rising_append _ (suc h) l.gaps_rise (rising_map _ _ (fresh now) (λ k. refl) (rising_following (suc h) (n - suc h)))
            (each_imp (λ g k. omega (arith, k.under)) l.gaps_in)
            (each_map (fresh now) (each_imp (λ k b. b.0) new));
        gaps_in =
            each_append r.gaps_in
            (each_map (fresh now) (each_imp (λ k b. record { under = omega arith; ahead = ahead_new mode (Some h) returned k (λ j c. omega arith) l.returned_in; detected-by = omega arith; nacked-by = omega arith }) new));
        entries_rise = r.entries_rise;
        entries_in = r.entries_in;
        apart = each_imp (λ e k. each_append k.1 (each_map (fresh now) (each_imp (λ j b q. absurd (omega (arith, k.0.reached))) new))) (each_both l.entries_in l.apart);
        remembered_in = r.remembered_in;
      }

  pub step : (e : Entry) → EntryIn now (Some e.number) mode returned e → h < e.number
      → ListsIn now (Some e.number) mode returned (gaps ++ map (fresh now) (between h e.number)) (insert_sorted e entries) remembered
  unfolding between fresh Reached Under
  step e k lt =
      let n = e.number in
      put (opened n lt) e k
      (each_append (each_imp (λ g b q. absurd (omega (arith, b.under))) l.gaps_in) (each_map (fresh now) (each_imp (λ j b q. absurd (omega arith)) (each_following (suc h) (n - suc h)))))
      (above_all l n (λ j r. omega arith))
