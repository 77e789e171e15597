-- What stands above the last returned number, and what does not: check 16 says that entries and gaps do in sorted mode; the numbers handed out and
-- those remembered never do, which runs along from call to call. So numbers are handed out ascending, and the queue's test of what is too late
-- agrees with the book, which has no such test.
use mathlib.Core.Path.{◌≡◌, refl, sym, ap, ◌∙◌, subst}
use mathlib.Core.Bool.{Bool, true, false, not}
use mathlib.Core.List.{List, [], ◌∷◌, ◌++◌}
use Prim.Native.Nat.{ℕ, ◌≤◌, ◌<◌}
use native.Mathlib.Omega.{arith}
use lib.Arith.{le→nltb}
use lib.Ieee.Fits.{and_l, and_r, and_i}
use lib.Dec.{T, T_not, not_T, ltb, leb→le, le→leb, ltb→lt, lt→ltb}
use lib.Ieee.Bits.{cond_no}
use Rattle.std.specs.Prelude.{Option, None, Some}
use Rattle.config.specs.declared.RtpInboundQueueMode.{RtpInboundQueueMode}
use Rattle.config.specs.declared.RtpInboundStreamSortedQueueMode.{RtpInboundStreamSortedQueueMode}
use Rattle.config.specs.declared.RtpInboundQueueMode.TheVariants.{Passthrough, SortedQueue}
use Rattle.words.specs.Order.{leads, ascends}
use Rattle.model.specs.Lists.{keep, some?}
use Rattle.rtp.specs.Opt.{number_of, at_most}
use Rattle.model.specs.Records.{Gap, Remembered, State, highest_of}
use Rattle.model.specs.Rules.{is, below, gaps_below, Place, other, place_of, is_of, forget_first, latest, remember, remembered_after, lost_below_of}
use Rattle.model.specs.Push.{passed, media_place}
use Rattle.model.proofs.Lists.{by_cases, no_eqb, Each, none, more, each_first, each_rest, each_imp, each_append, each_kept, holds_of_some}
use Rattle.model.proofs.Sound.{Reached, Ahead, Returned, ListsOf}
use Rattle.model.proofs.SoundPoll.{each_remembered}

-- ---- a number that is not above the last returned

-- has no place
passed-other : (mode : RtpInboundQueueMode) (r highest : Option ℕ) (gaps : List Gap) (n : ℕ)
    → T (passed mode r n) → Returned highest r → (T (some? (is n) gaps) → Ahead mode r n) → place_of highest gaps n ≡ other
unfolding passed at_most Returned Reached Ahead place_of
passed-other Passthrough r highest gaps n t u f = absurd t
passed-other (SortedQueue sorted) None highest gaps n t u f = absurd t
passed-other (SortedQueue sorted) (Some m) None gaps n t u f = absurd u
passed-other (SortedQueue sorted) (Some m) (Some h) gaps n t u f =
    cond_no (ltb h n) _ _ (le→nltb h n (omega (arith, leb→le n m t)))
    ∙ cond_no (some? (is n) gaps) _ _ (not_T (some? (is n) gaps) (λ v. absurd (omega (arith, f v, leb→le n m t))))

module _ (s : State) (l : ListsOf s) where
  pub gap-ahead : (n : ℕ) → T (some? (is n) s.gaps) → Ahead s.queue.config.settings.mode (number_of s.queue.returned) n
  gap-ahead n t =
      holds_of_some (Ahead s.queue.config.settings.mode (number_of s.queue.returned)) n s.gaps t (each_imp (λ g h. h.ahead) l.gaps_in)

  -- so the queue's place of a media number is the book's
  pub same_place : (n : ℕ) → media_place s n ≡ place_of (highest_of s.queue.last) s.gaps n
  unfolding media_place
  same_place n =
      by_cases (λ (p : Place). p ≡ place_of (highest_of s.queue.last) s.gaps n) (passed s.queue.config.settings.mode (number_of s.queue.returned) n)
      (λ t.
      sym
      (passed-other s.queue.config.settings.mode (number_of s.queue.returned) (highest_of s.queue.last) s.gaps n t l.returned_in (gap-ahead n)))
      (λ t. refl)

-- ---- numbers handed out, and remembered

-- of the last returned, the numbers handed out and those remembered
unfoldable pub Past : RtpInboundQueueMode → Option ℕ → List ℕ → List Remembered → Type 0
Past Passthrough r out l = l ≡ []
Past (SortedQueue sorted) r out l = T (ascends out) × (Each (λ (n : ℕ). T (at_most n r)) out × Each (λ (x : Remembered). T (at_most x.number r)) l)

abbrev pub PastOf : RtpInboundQueueMode → List ℕ → State → Type 0
PastOf mode out s = Past mode (number_of s.queue.returned) out s.remembered

pub past_none : (mode : RtpInboundQueueMode) → Past mode None [] []
unfolding Past ascends
past_none Passthrough = refl
past_none (SortedQueue sorted) = (tt, (none, none))

pub past_ascends : (sorted : RtpInboundStreamSortedQueueMode) (r : Option ℕ) (out : List ℕ) (l : List Remembered) → Past (SortedQueue sorted) r out l → T (ascends out)
unfolding Past
past_ascends sorted r out l p = p.0

-- ---- the last returned moves on

before : (sorted : RtpInboundStreamSortedQueueMode) (r : Option ℕ) (w n : ℕ) → Ahead (SortedQueue sorted) r w → T (at_most n r) → n < w
unfolding Ahead at_most
before sorted None w n a t = absurd t
before sorted (Some m) w n a t = omega (arith, leb→le n m t)

at_most_lem : (w n : ℕ) → n ≤ w → T (at_most n (Some w))
unfolding at_most
at_most_lem w n le = le→leb n w le

module _ (sorted : RtpInboundStreamSortedQueueMode) (r : Option ℕ) (w : ℕ) (a : Ahead (SortedQueue sorted) r w) where
  stays : (n : ℕ) → T (at_most n r) → T (at_most n (Some w))
  stays n t = let lt : n < w = before sorted r w n a t in at_most_lem w n (omega arith)

  remembered-stay : {l : List Remembered} → Each (λ (x : Remembered). T (at_most x.number r)) l → Each (λ (x : Remembered). T (at_most x.number (Some w))) l
  remembered-stay h = each_imp (λ x t. stays x.number t) h

-- to a number above it
pub past_advance : (mode : RtpInboundQueueMode) (r : Option ℕ) (w : ℕ) (out : List ℕ) (l : List Remembered) → Ahead mode r w → Past mode r out l → Past mode (Some w) out l
unfolding Past
past_advance Passthrough r w out l a p = p
past_advance (SortedQueue sorted) r w out l a p = (p.0, (each_imp (stays sorted r w a) p.1.0, remembered-stay sorted r w a p.1.1))

ascends_more : (l : List ℕ) (w : ℕ) → T (ascends l) → Each (λ (n : ℕ). n < w) l → T (ascends (l ++ (w ∷ [])))
unfolding ascends leads
ascends_more [] w a h = tt
ascends_more (x ∷ []) w a h = and_i (ltb x w) true (lt→ltb x w (each_first h)) tt
ascends_more (x ∷ y ∷ ys) w a h =
    and_i (ltb x y) (ascends (y ∷ (ys ++ (w ∷ [])))) (and_l (ltb x y) (ascends (y ∷ ys)) a) (ascends_more (y ∷ ys) w (and_r (ltb x y) (ascends (y ∷ ys)) a) (each_rest h))

-- the lost gaps that are remembered are below the one handed out
each_lost : (w : ℕ) (gaps : List Gap) → Each (λ (g : Gap). T (at_most g.number (Some w))) (gaps_below w gaps)
unfolding gaps_below below
each_lost w gaps =
    each_imp (λ g t. let lt : g.number < w = ltb→lt g.number w t in at_most_lem w g.number (omega arith)) (each_kept (below w) gaps)

none-remembered : (has : Bool) → remembered_after has [] [] ≡ []
unfolding remembered_after latest keep
none-remembered false = refl
none-remembered true = refl

-- w, which is above it, is handed out
pub past_hand : (mode : RtpInboundQueueMode) (r : Option ℕ) (w : ℕ) (out : List ℕ) (l : List Remembered) (has : Bool) (gaps : List Gap) → Ahead mode r w → Past mode r out l
    → Past mode (Some w) (out ++ (w ∷ [])) (remembered_after has (lost_below_of mode w gaps) l)
unfolding Past lost_below_of remember
past_hand Passthrough r w out l has gaps a p = ap (remembered_after has []) p ∙ none-remembered has
past_hand (SortedQueue sorted) r w out l has gaps a p = (
  ascends_more out w p.0 (each_imp (λ n t. before sorted r w n a t) p.1.0),
  (
    each_append (each_imp (stays sorted r w a) p.1.0) (more (at_most_lem w w (omega arith)) none),
    each_remembered (λ (x : Remembered). T (at_most x.number (Some w))) has (each_lost w gaps) (remembered-stay sorted r w a p.1.1),
  ),
)

-- ---- a repair that came too late

each_forget_first : {P : Remembered → Type 0} (n : ℕ) {l : List Remembered} → Each P l → Each P (forget_first n l)
unfolding forget_first
each_forget_first n none = none
each_forget_first {P} n (more {x = x} h k) = by_cases (Each P) (is_of n x) (λ t. k) (λ t. more h (each_forget_first n k))

none_left : (n : ℕ) → forget_first n [] ≡ []
unfolding forget_first
none_left n = refl

pub past_forget : (mode : RtpInboundQueueMode) (r : Option ℕ) (n : ℕ) (out : List ℕ) (l : List Remembered) → Past mode r out l → Past mode r out (forget_first n l)
unfolding Past
past_forget Passthrough r n out l p = ap (forget_first n) p ∙ none_left n
past_forget (SortedQueue sorted) r n out l p = (p.0, (p.1.0, each_forget_first n p.1.1))

-- a number that was not passed is not remembered: it gives no sample, and none is forgotten
not-remembered : (mode : RtpInboundQueueMode) (r : Option ℕ) (n : ℕ) (out : List ℕ) (l : List Remembered) → T (not (passed mode r n)) → Past mode r out l → Each (λ (x : Remembered). T (not (is_of n x))) l
unfolding Past passed is_of
not-remembered Passthrough r n out l t p = rw p none
not-remembered (SortedQueue sorted) r n out l t p =
    each_imp (λ x u. no_eqb x.number n (λ e. T_not (at_most n r) t (subst (λ (m : ℕ). T (at_most m r)) e u))) p.1.1

absent_keep : (n : ℕ) {l : List Remembered} → Each (λ (x : Remembered). T (not (is_of n x))) l → keep (is_of n) l ≡ []
unfolding keep
absent_keep n none = refl
absent_keep n (more {x = x} h k) = cond_no (is_of n x) _ _ h ∙ absent_keep n k

absent_forget : (n : ℕ) {l : List Remembered} → Each (λ (x : Remembered). T (not (is_of n x))) l → forget_first n l ≡ l
unfolding forget_first
absent_forget n none = refl
absent_forget n (more {x = x} h k) = cond_no (is_of n x) _ _ h ∙ ap (λ (l : List Remembered). x ∷ l) (absent_forget n k)

module _ (mode : RtpInboundQueueMode) (r : Option ℕ) (n : ℕ) (out : List ℕ) (l : List Remembered) (t : T (not (passed mode r n))) (p : Past mode r out l) where
  pub no_sample : keep (is_of n) l ≡ []
  no_sample = absent_keep n (not-remembered mode r n out l t p)

  pub none-forgotten : forget_first n l ≡ l
  none-forgotten = absent_forget n (not-remembered mode r n out l t p)
