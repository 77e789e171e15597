-- Demand 3 over runs of states. After every run the tally gives the two lists, since two sorted lists that count alike are equal; the rest runs
-- along from call to call. A refused call changes nothing, and one that is taken leaves a sound state.
use mathlib.Core.Path.{◌≡◌, refl, sym, ap, ◌∙◌, subst}
use mathlib.Core.Logic.{◌↔◌, inl}
use mathlib.Core.List.{List, [], ◌++◌, map, append-nil}
use Prim.Native.Nat.{ℕ, suc, ◌+◌, ◌-◌}
use native.Mathlib.Omega.{arith}
use lib.Dec.{T}
use lib.Ieee.Bits.{is_true}
use lib.ListN.{length, length-append}
use Rattle.words.specs.Order.{ascends}
use Rattle.rtp.specs.Numbers.{low_bits}
use Rattle.rtp.specs.Opt.{number_of}
use Rattle.config.specs.declared.RtpInboundQueueMode.{RtpInboundQueueMode}
use Rattle.config.specs.declared.RtpInboundQueueMode.TheVariants.{Passthrough, SortedQueue}
use Rattle.model.specs.declared.Config.{Config}
use Rattle.model.specs.Records.{Gap, State, new_state, new_queue, gap_numbers, highest_of}
use Rattle.model.specs.Calls.{Call, taken, answered}
use Rattle.model.proofs.Lists.{ascends_of_rising}
use Rattle.model.proofs.Sound.{Sound, ListsOf}
use Rattle.model.proofs.SoundTest.{sound_to}
use Rattle.model.proofs.SoundCalls.{new_sound, taken-sound}
use Rattle.book.specs.Sorted.{put_all_in, sort}
use Rattle.book.specs.Book as B
use Rattle.book.specs.Book.{Span, none, from_to, Book, empty, enter, all_of, expected, accounted}
use Rattle.book.specs.States.{hear, given, View, opened, after, Next, stays, moves, Ran, opening, further, InOrder, HoldsIn, StepTo, EveryRunOfStates}
use Rattle.book.proofs.Count.{count, count_append, count-put_all_in, count-sort, Sorted, sorted_put_all_in, sorted_sort, sorted_same, sorted_following, none-counted}
use Rattle.book.proofs.Tally.{total, Tally, tally_empty, tally_enter}
use Rattle.book.proofs.Past.{PastOf, past_none, past_ascends}
use Rattle.book.proofs.Same.{Same, same_taken}
use Rattle.book.proofs.Moved.{out_of, given_out, moved-taken, past_taken, enter-forgets}

-- ---- the two lists

span_sorted : (s : Span) → Sorted (all_of s)
unfolding all_of Sorted
span_sorted none = tt
span_sorted (from_to f h) = sorted_following f (suc h - f)

module _ (b : Book) (t : Tally b) where
  count-accounted : (n : ℕ) → count n (accounted b) + count n b.forgotten ≡ count n (expected b)
  unfolding accounted total
  count-accounted n =
      omega (
        arith,
        t.tally n,
        count_append n b.handed (b.waiting ++ (gap_numbers b.missing ++ b.lost)),
        count_append n b.waiting (gap_numbers b.missing ++ b.lost),
        count_append n (gap_numbers b.missing) b.lost,
      )

  whole : expected b ≡ put_all_in b.forgotten (sort (accounted b))
  unfolding expected
  whole =
      sorted_same (expected b) (put_all_in b.forgotten (sort (accounted b))) (span_sorted b.span) (sorted_put_all_in b.forgotten (sort (accounted b)) (sorted_sort (accounted b)))
      (λ n. omega (arith, count-accounted n, count-put_all_in n b.forgotten (sort (accounted b)), count-sort n (accounted b)))

  exactly : (expected b ≡ sort (accounted b)) ↔ (b.forgotten ≡ [])
  unfolding put_all_in
  exactly = (
    (λ e. none-counted b.forgotten (λ n. omega (arith, count-accounted n, count-sort n (accounted b), ap (count n) e))),
    (λ e. whole ∙ ap (λ (l : List ℕ). put_all_in l (sort (accounted b))) e),
  )

-- ---- what runs along

pub record Inv (c : Config) (s : State) (b : Book) (returned : List ℕ) : Type 0 where
  pub tally : Tally b
  pub same : Same c s b
  past : PastOf c.settings.mode b.handed s
  returned_are : returned ≡ map (low_bits 16) b.handed
  lost_are : s.queue.counters.lost ≡ length b.lost

inv_new : (c : Config) → Inv c (new_state c) empty []
unfolding new_state new_queue empty B.highest highest_of number_of
inv_new c =
    record {
      tally = tally_empty;
      same = record { config = refl; entries = refl; gaps = refl; highest = refl; estimate = refl; remembered = refl };
      past = past_none c.settings.mode;
      returned_are = refl;
      lost_are = refl;
    }

inv_taken : (k : Call) {c : Config} {s : State} {b : Book} {r : List ℕ} → ListsOf s → Inv c s b r → Inv c (taken k s) (enter c k (hear (answered k s)) b) (r ++ given (answered k s))
inv_taken k {c} {s} {b} {r} f i =
    let m = moved-taken k i.same in
    record {
      tally = tally_enter c k (hear (answered k s)) b i.tally;
      same = same_taken k i.same f i.past;
      past = past_taken k i.same f i.past;
      returned_are = rw (i.returned_are, given_out, m.handed) (sym (mathlib.Core.List.map-append _ b.handed (out_of k s)));
      lost_are = omega (arith, m.counted, i.lost_are, ap length m.lost, length-append b.lost m.newly);
    }

in_order : (mode : RtpInboundQueueMode) (s : State) (out : List ℕ) → PastOf mode out s → InOrder mode out
unfolding InOrder
in_order Passthrough s out p = tt
in_order (SortedQueue sorted) s out p = past_ascends sorted (number_of s.queue.returned) out s.remembered p

-- ---- runs

-- what runs along, for this theorem and for others over runs
pub record Kept (c : Config) (x : View) : Type 0 where
  pub sound : Sound x.state
  pub inv : Inv c x.state x.book x.returned

kept_next : {c : Config} {x : View} {k : Call} {y : View} → Kept c x → Next c x k y → Kept c y
unfolding after
kept_next r stays = r
kept_next {x = x} {k = k} r (moves e) = record { sound = taken-sound k x.state r.sound e; inv = inv_taken k r.sound.lists_in r.inv }

pub kept : {c : Config} {x : View} → Ran c x → Kept c x
unfolding opened
kept {c} (opening v) = record { sound = new_sound c (subst T (sym v) tt); inv = inv_new c }
kept (further r n) = kept_next (kept r) n

holds : {c : Config} {x : View} → Kept c x → HoldsIn c x
holds {c} {x} r =
    let i = r.inv in
    record {
      exactly = exactly x.book i.tally;
      whole = whole x.book i.tally;
      entries = i.same.entries;
      gaps = i.same.gaps;
      highest_number = i.same.highest;
      lost_counted = i.lost_are;
      returned = i.returned_are;
      in_order = in_order c.settings.mode x.state x.book.handed i.past;
      waiting_ascends = subst (λ (l : List ℕ). T (ascends l)) i.same.entries (ascends_of_rising _ _ r.sound.lists_in.entries_rise);
      missing_ascends = subst (λ (l : List Gap). T (ascends (gap_numbers l))) i.same.gaps (ascends_of_rising _ _ r.sound.lists_in.gaps_rise);
    }

step : {c : Config} {x : View} {k : Call} {y : View} → Kept c x → Next c x k y → StepTo c x k y
unfolding after
step {x = x} r stays = record { newly = []; lost = sym (append-nil x.book.lost); counted = omega arith; forgets = inl refl }
step {c} {x} {k = k} r (moves e) =
    let m = moved-taken k r.inv.same in
    record { newly = m.newly; lost = m.lost; counted = m.counted; forgets = enter-forgets c k (hear (answered k x.state)) x.book }

pub every_run_of_states : EveryRunOfStates
every_run_of_states =
    record {
      sound_state = λ c x r. ((kept r).inv.same.config, is_true _ (sound_to x.state (kept r).sound));
      holds = λ c x r. holds (kept r);
      steps = λ c x y k r n. step (kept r) n;
    }
