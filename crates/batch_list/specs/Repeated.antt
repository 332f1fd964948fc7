-- The first result's name that occurs twice.
use Rattle.std.specs.Prelude.{ℕ, Bool, nat_lt, List, ◌++◌, map, Option, count_by}
use Rattle.std.specs.List.{find}
use Rattle.std.specs.Str.{bytes_eq}
use Rattle.batch_list.specs.ListOf.{ListedNames}

-- All names: the words, and both names of each line.
abbrev pub names_given : List (List ℕ) → List ListedNames → List (List ℕ)
names_given words lines = words ++ (map (λ l. l.scenario) lines ++ map (λ l. l.result) lines)

-- Whether the name occurs more than once.
abbrev pub is_given_twice : List ℕ → List (List ℕ) → List ListedNames → Bool
is_given_twice name words lines = nat_lt 1 (count_by (bytes_eq name) (names_given words lines))

-- The first result's name that occurs more than once.
unfoldable pub repeated_result : List (List ℕ) → List ListedNames → Option (List ℕ)
repeated_result words lines = find (λ name. is_given_twice name words lines) (map (λ l. l.result) lines)
