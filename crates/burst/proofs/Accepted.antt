-- Whether one of the answers is no refusal: std's search is that of the definitions.
use mathlib.Core.Path.{◌≡◌, refl, ap}
use mathlib.Core.Bool.{Bool, ◌||◌}
use mathlib.Core.List.{List, [], ◌∷◌}
use Rattle.std.specs.List.{list_any}
use Rattle.model.specs.Lists.{some?}

pub some-is : {A : Type 0} (test : A → Bool) (l : List A) → list_any test l ≡ some? test l
unfolding some?
some-is test [] = refl
some-is test (x ∷ xs) = ap (λ b. test x || b) (some-is test xs)
