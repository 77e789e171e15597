-- Lists of numbers: a number put in its place, a list sorted, repeats kept.
use Rattle.std.specs.Prelude.{cond, List, [], ◌∷◌, ℕ, leb}

-- n before the first of the list that is not below it: in an ascending list, n in its place
unfoldable pub put_in : ℕ → List ℕ → List ℕ
put_in n [] = n ∷ []
put_in n (x ∷ xs) = cond (leb n x) (n ∷ x ∷ xs) (x ∷ put_in n xs)

-- each number of the first list put into the second
unfoldable pub put_all_in : List ℕ → List ℕ → List ℕ
unfolding put_in
put_all_in [] l = l
put_all_in (x ∷ xs) l = put_in x (put_all_in xs l)

-- the list in ascending order
unfoldable pub sort : List ℕ → List ℕ
unfolding put_all_in
sort l = put_all_in l []
