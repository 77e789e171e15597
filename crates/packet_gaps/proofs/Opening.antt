-- The loop of `open_between`: each turn writes one gap behind the others, so that the gaps from the first number to the next are open.
use mathlib.Core.Path.{◌≡◌, refl, ap, ◌∙◌}
use mathlib.Core.List.{List, [], ◌∷◌, ◌++◌, map, append_assoc, append-nil}
use Prim.Native.Nat.{ℕ, zero, suc, ◌+◌, ◌*◌, ◌-◌, ◌≤◌, ◌<◌}
use native.Mathlib.Omega.{arith}
use lib.ListN.{length, length-append, length-map}
use Rattle.words.specs.Words.{written}
use Rattle.words.specs.Blocks.{laid}
use Rattle.words.proofs.Lists.{map-append}
use Rattle.words.proofs.Records.{holds-length, holds_pushed}
use Rattle.model.specs.Lists.{following}
use Rattle.model.specs.Records.{Gap}
use Rattle.model.specs.Rules.{between, fresh}
use Rattle.model.specs.Storage.{gap_words, gap_words_of, gaps_of}
use Rattle.model.proofs.Lists.{length-following}
use Rattle.model.proofs.Laid.{gaps-held, length-gaps_of}
use Rattle.packet_gaps.specs.Gaps.{GapsIn}

following_next : (a k : ℕ) → following a (suc k) ≡ following a k ++ ((a + k) ∷ [])
unfolding following
following_next a zero = let e : a ≡ a + 0 = omega arith in ap (λ (v : ℕ). v ∷ []) e
following_next a (suc k) =
    let e : suc a + k ≡ a + suc k = omega arith in
    ap (λ (l : List ℕ). a ∷ l) (following_next (suc a) k ∙ ap (λ (v : ℕ). following (suc a) k ++ (v ∷ [])) e)

-- k gaps from the first number on are open
unfoldable pub opened : List ℕ → ℕ → ℕ → ℕ → ℕ → List Gap
opened s₀ n first at k = gaps_of s₀ n ++ map (fresh at) (following first k)

length-opened : (s₀ : List ℕ) (n first at k : ℕ) → length (opened s₀ n first at k) ≡ n + k
unfolding opened
length-opened s₀ n first at k =
    length-append (gaps_of s₀ n) (map (fresh at) (following first k))
    ∙ rw (length-gaps_of s₀ n, length-map (following first k) (fresh at), length-following first k)

opened_next : (s₀ : List ℕ) (n first at k : ℕ) → opened s₀ n first at k ++ (fresh at (first + k) ∷ []) ≡ opened s₀ n first at (suc k)
unfolding opened
opened_next s₀ n first at k = rw (append_assoc, following_next first k, map-append)

-- k of them are
pub record Opening (s₀ s : List ℕ) (n first x at k : ℕ) : Type 0 where
  pub room : gap_words * (n + (x - first)) ≤ length s₀
  pub same : length s ≡ length s₀
  pub held : s ≡ laid gap_words_of (length s₀) (opened s₀ n first at k)

pub opening-none : {s₀ : List ℕ} {n first x at : ℕ} → GapsIn s₀ n → gap_words * (n + (x - first)) ≤ length s₀ → Opening s₀ s₀ n first x at 0
unfolding opened following
opening-none k r = record { room = r; same = refl; held = rw append-nil k.held }

pub opening_more : {s₀ s t : List ℕ} {n first x at k : ℕ} → Opening s₀ s n first x at k → k < x - first
    → t ≡ written (gap_words * (n + k)) (gap_words_of (fresh at (first + k))) s → Opening s₀ t n first x at (k + 1)
opening_more {s₀} {s} {t} {n} {first} {x} {at} {k} o l e =
    let room : gap_words * (n + (x - first)) ≤ length s₀ = o.room in
    let z : suc k ≡ k + 1 = omega arith in
    let ly : length (opened s₀ n first at (k + 1)) ≡ n + (k + 1) = length-opened s₀ n first at (k + 1) in
    let held : t ≡ laid gap_words_of (length s₀) (opened s₀ n first at (k + 1)) =
    e
    ∙ holds_pushed (gaps-held o.held (length-opened s₀ n first at k) (omega arith)) (fresh at (first + k))
    ∙ ap (laid gap_words_of (length s₀)) (opened_next s₀ n first at k ∙ ap (opened s₀ n first at) z) in
    record { room = room; same = holds-length (gaps-held held ly (omega arith)); held = held }

pub opening_all : (h : ℕ) {s₀ s : List ℕ} {n x at k : ℕ} → Opening s₀ s n (h + 1) x at k → k ≡ x - (h + 1)
    → s ≡ laid gap_words_of (length s₀) (gaps_of s₀ n ++ map (fresh at) (between h x))
unfolding opened between
opening_all h o e =
    let f : h + 1 ≡ suc h = omega arith in
    rw f at (rw e at o.held)

pub ruleset opening = (opening-none, opening_more, opening_all)
