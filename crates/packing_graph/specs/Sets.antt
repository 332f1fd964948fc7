-- The set that a test asks about.
use Rattle.std.specs.Prelude.{ℕ, ◌==◌, nat_lt, if◌then◌else◌, List, [], ◌∷◌}

-- The ascending list with the station inserted, unless the list has it.
abbrev pub with_station : List ℕ → ℕ → List ℕ
with_station [] s = s ∷ []
with_station (x ∷ xs) s = if nat_lt s x then s ∷ x ∷ xs else (if x == s then x ∷ xs else x ∷ with_station xs s)
