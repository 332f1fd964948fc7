-- A walk along two lists. If both ascend, it shows whether one contains the other.
use Rattle.std.specs.Prelude.{ℕ, Bool, true, false, ◌==◌, nat_lt, cond, List, [], ◌∷◌}

-- Whether the walk finds each number of the second list in the first.
abbrev pub has_all_sorted : List ℕ → List ℕ → Bool
has_all_sorted [] [] = true
has_all_sorted [] (y ∷ ys) = false
has_all_sorted (x ∷ xs) [] = true
has_all_sorted (x ∷ xs) (y ∷ ys) = cond (nat_lt y x) false (cond (y == x) (has_all_sorted xs ys) (has_all_sorted xs (y ∷ ys)))
