-- What holds of the book alone after each call, whatever it heard: of each number there are as many in the five lists together as in the run
-- from the first to the highest. Every move takes a number out of one list and puts it into another, or adds it to a list and to the run.
use mathlib.Core.Path.{◌≡◌, refl, ap, ◌∙◌}
use mathlib.Core.Bool.{Bool, true, false, cond}
use mathlib.Core.List.{List, [], ◌∷◌, ◌++◌, map}
use Prim.Native.Nat.{ℕ, suc, ◌+◌, ◌-◌, ◌≤◌, ◌<◌}
use native.Mathlib.Omega.{arith}
use lib.Dec.{T, ltb, leb, ltb→lt}
use lib.ListN.{length}
use Rattle.rtp_packet.specs.Header.{sequence_number, payload_of}
use Rattle.rtp_packet.specs.Original.{original_number}
use Rattle.model.specs.declared.Config.{Config}
use Rattle.config.specs.declared.Settings.{Settings}
use Rattle.model.specs.Lists.{following, some?}
use Rattle.model.specs.Records.{gap_numbers}
use Rattle.model.specs.Rules.{is, gaps_below, Place, first, near, far, fills, place_of, waits, between, fresh, gaps_after, max_gap_size, overfull, given_up_of, lost_below_of}
use Rattle.model.specs.Calls.{Call, media, repair, poll, poll_nack, nack_wire, timeout_receive, timeout_nack, rtx_stats, highest_received}
use Rattle.model.proofs.Lists.{by_cases, numbers-fresh}
use Rattle.book.specs.Book.{Heard, refused, accepted, Span, none, from_to, highest, Book, empty, span_after, forgotten_by, arrive, push_out_of, within_depth, on_media, recover, not_missing, on_repair, give_up, take_lowest, on_poll, nack_all, read, enter, all_of, expected}
use Rattle.book.proofs.Count.{same, count, count_append, count-put_in, count_one, count_cons, count_nil, following_append, count-following-le}
use Rattle.book.proofs.Gaps.{numbers_append, numbers-nack_due, count-below, count-given-up, count-lost-below, some-counted, count-without}

-- how often n stands in the five lists
unfoldable pub total : ℕ → Book → ℕ
total n b = count n b.handed + count n b.waiting + count n (gap_numbers b.missing) + count n b.lost + count n b.forgotten

unfoldable pub Ordered : Span → Type 0
Ordered none = Unit {0}
Ordered (from_to f h) = f ≤ h

pub record Tally (b : Book) : Type 0 where
  pub tally : (n : ℕ) → total n b ≡ count n (expected b)
  pub ordered : Ordered b.span

pub tally_empty : Tally empty
unfolding empty total expected all_of Ordered count
tally_empty = record { tally = λ n. refl; ordered = tt }

-- a run has a number once
expected-once : (n : ℕ) (s : Span) → count n (all_of s) ≤ 1
unfolding all_of count
expected-once n none = omega arith
expected-once n (from_to f h) = count-following-le n f (suc h - f)

-- ---- the run grows

-- from h to n by the numbers between, and n
grown : (f h n : ℕ) → f ≤ h → h < n → following f (suc n - f) ≡ following f (suc h - f) ++ (between h n ++ (n ∷ []))
unfolding between following
grown f h n ok lt =
    ap (following f) e₁
    ∙ following_append f (suc h - f) (suc (n - suc h))
    ∙ ap (λ (l : List ℕ). following f (suc h - f) ++ l) (ap (λ (x : ℕ). following x (suc (n - suc h))) e₂ ∙ ap (following (suc h)) e₃ ∙ following_append (suc h) (n - suc h) 1 ∙ ap (λ (x : ℕ). following (suc h) (n - suc h) ++ (x ∷ [])) e₄)
  where
    e₁ : suc n - f ≡ (suc h - f) + suc (n - suc h)
    e₁ = omega arith

    e₂ : f + (suc h - f) ≡ suc h
    e₂ = omega arith

    e₃ : suc (n - suc h) ≡ (n - suc h) + 1
    e₃ = omega arith

    e₄ : suc h + (n - suc h) ≡ n
    e₄ = omega arith

count-grown : (k f h n : ℕ) → f ≤ h → h < n → count k (following f (suc n - f)) ≡ count k (following f (suc h - f)) + (count k (between h n) + same k n)
count-grown k f h n ok lt =
    omega (arith, ap (count k) (grown f h n ok lt), count_append k (following f (suc h - f)) (between h n ++ (n ∷ [])), count_append k (between h n) (n ∷ []), count_one k n)

pub run_of_one : (k n : ℕ) → count k (following n (suc n - n)) ≡ same k n
unfolding following
run_of_one k n = ap (λ (x : ℕ). count k (following n x)) e ∙ count_one k n
  where
    e : suc n - n ≡ 1
    e = omega arith

-- ---- a packet arrives

module _ (now n : ℕ) (b : Book) (t : Tally b) where
  -- a missing number is missing once
  missing-once : T (some? (is n) b.missing) → count n (gap_numbers b.missing) ≡ 1
  unfolding total expected
  missing-once m = omega (arith, t.tally n, expected-once n b.span, some-counted n b.missing m)

  tally_fills : T (some? (is n) b.missing) → Tally (arrive now n fills b)
  unfolding arrive total expected gaps_after span_after forgotten_by
  tally_fills m =
      record {
        tally = λ k. omega (arith, t.tally k, count-put_in k n b.waiting, count-without n k b.missing (missing-once m), count_append k b.forgotten [], count_nil k);
        ordered = t.ordered;
      }

  tally_first : b.span ≡ none → Tally (arrive now n first b)
  unfolding arrive total expected all_of gaps_after span_after forgotten_by Ordered
  tally_first e =
      record {
        tally = λ k. omega (arith, rw e at (t.tally k), count-put_in k n b.waiting, run_of_one k n, count_append k b.forgotten [], count_nil k);
        ordered = omega arith;
      }

  module _ (f h : ℕ) (e : b.span ≡ from_to f h) (lt : h < n) where
    in_order : f ≤ h
    unfolding Ordered
    in_order = rw e at t.ordered

    tally_up : (k : ℕ) → total k b + (count k (between h n) + same k n) ≡ count k (all_of (from_to f n))
    unfolding expected all_of
    tally_up k = omega (arith, t.tally k, ap (λ (s : Span). count k (all_of s)) e, count-grown k f h n in_order lt)

    tally_near : Tally (arrive now n (near h) b)
    unfolding arrive expected total gaps_after span_after forgotten_by Ordered
    tally_near =
        rw e (record {
          tally = λ k. omega (arith, tally_up k, count-put_in k n b.waiting, missing_more k, count_append k b.forgotten [], count_nil k);
          ordered = omega (arith, in_order);
        })
      where
        missing_more : (k : ℕ) → count k (gap_numbers (b.missing ++ map (fresh now) (between h n))) ≡ count k (gap_numbers b.missing) + count k (between h n)
        missing_more k = rw (numbers_append, numbers-fresh, count_append)

    tally_far : Tally (arrive now n (far h) b)
    unfolding arrive expected total gaps_after span_after forgotten_by Ordered
    tally_far =
        rw e (record {
          tally =
              λ k.
              omega (arith, tally_up k, count-put_in k n b.waiting, count_append k b.forgotten (gap_numbers b.missing ++ between h n), count_append k (gap_numbers b.missing) (between h n), count_nil k);
          ordered = omega (arith, in_order);
        })

-- ---- a number goes out

tally_push_out : (l : List ℕ) (b : Book) → b.waiting ≡ l → Tally b → Tally (push_out_of l b)
unfolding push_out_of total expected
tally_push_out [] b e t = t
tally_push_out (w ∷ ws) b e t =
    record {
      tally =
          λ k.
          omega (arith, t.tally k, ap (count k) e, count_cons k w ws, count-below w k b.missing, count_append k b.forgotten (w ∷ gap_numbers (gaps_below w b.missing)), count_cons k w (gap_numbers (gaps_below w b.missing)));
      ordered = t.ordered;
    }

tally_within_depth : (set : Settings) (b : Book) → Tally b → Tally (within_depth set b)
unfolding within_depth
tally_within_depth set b t = by_cases Tally (overfull set (length b.waiting)) (λ u. tally_push_out b.waiting b refl t) (λ u. t)

tally_give_up : (c : Config) (b : Book) → Tally b → Tally (give_up c b)
unfolding give_up total expected
tally_give_up c b t =
    record {
      tally =
          λ k.
          omega (arith, t.tally k, count-given-up c.settings c.settings.mode k b.missing, count_append k b.lost (gap_numbers (given_up_of c.settings b.missing)));
      ordered = t.ordered;
    }

tally_take_lowest : (c : Config) (l : List ℕ) (b : Book) → b.waiting ≡ l → Tally b → Tally (take_lowest c l b)
unfolding take_lowest total expected
tally_take_lowest c [] b e t = t
tally_take_lowest c (w ∷ ws) b e t =
    record {
      tally =
          λ k.
          omega (arith, t.tally k, ap (count k) e, count_cons k w ws, count-lost-below c.settings.mode w k b.missing, count_append k b.handed (w ∷ []), count_one k w, count_append k b.lost (gap_numbers (lost_below_of c.settings.mode w b.missing)));
      ordered = t.ordered;
    }

-- ---- each call

tally_media : (c : Config) (now n : ℕ) (b : Book) (s : Span) → b.span ≡ s → Tally b → Tally (on_media c now n (place_of (highest s) b.missing n) b)
unfolding on_media place_of highest waits
tally_media c now n b none e t = tally_within_depth c.settings _ (tally_first now n b t e)
tally_media c now n b (from_to f h) e t =
    by_cases arrives (ltb h n)
    (λ u.
    by_cases arrives (leb (n - h) max_gap_size)
    (λ v. tally_within_depth c.settings _ (tally_near now n b t f h e (ltb→lt h n u)))
    (λ v. tally_within_depth c.settings _ (tally_far now n b t f h e (ltb→lt h n u))))
    (λ u.
    by_cases arrives (some? (is n) b.missing) (λ v. tally_within_depth c.settings _ (tally_fills now n b t v)) (λ v. t))
  where
    arrives : Place → Type 0
    arrives p = Tally (cond (waits p) (within_depth c.settings (arrive now n p b)) b)

tally_repair : (now n : ℕ) (b : Book) → Tally b → Tally (on_repair now n b)
unfolding on_repair recover not_missing total expected
tally_repair now n b t =
    by_cases Tally (some? (is n) b.missing)
    (λ m.
    record {
      tally = λ k. omega (arith, t.tally k, count-put_in k n b.waiting, count-without n k b.missing (missing-once now n b t m));
      ordered = t.ordered;
    })
    (λ m. record { tally = t.tally; ordered = t.ordered })

tally_poll : (c : Config) (out : Bool) (b : Book) → Tally b → Tally (on_poll c out b)
unfolding on_poll give_up
tally_poll c true b t = tally_take_lowest c b.waiting (give_up c b) refl (tally_give_up c b t)
tally_poll c false b t = tally_give_up c b t

tally_nack_all : (c : Config) (now : ℕ) (b : Book) → Tally b → Tally (nack_all c now b)
unfolding nack_all total expected
tally_nack_all c now b t = record { tally = λ k. rw numbers-nack_due (t.tally k); ordered = t.ordered }

pub tally_enter : (c : Config) (k : Call) (heard : Heard) (b : Book) → Tally b → Tally (enter c k heard b)
unfolding enter
tally_enter c k refused b t = t
tally_enter c (media now d) (accepted out) b t = tally_media c now (read b (sequence_number d)) b b.span refl t
tally_enter c (repair now d) (accepted out) b t = tally_repair now (read b (original_number (payload_of d))) b t
tally_enter c (poll now lent) (accepted out) b t = tally_poll c out b t
tally_enter c (poll_nack now lent) (accepted out) b t = tally_nack_all c now (give_up c b) (tally_give_up c b t)
tally_enter c (nack_wire now lent) (accepted out) b t = tally_nack_all c now (give_up c b) (tally_give_up c b t)
tally_enter c (timeout_receive now) (accepted out) b t = t
tally_enter c (timeout_nack now) (accepted out) b t = t
tally_enter c rtx_stats (accepted out) b t = t
tally_enter c highest_received (accepted out) b t = t
