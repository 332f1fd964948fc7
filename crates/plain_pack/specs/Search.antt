-- What a depth-first search for a clean map says about the entries chosen so far.
use Rattle.std.specs.Prelude.{◌≡◌, ℕ, Bool, true, false, not, ◌&&◌, List, ◌∷◌, ◌++◌, Contains, map}
use Rattle.std.specs.List.{list_any, list_all, flat_map}
use Rattle.pack_defs.specs.Book.{BookView, is_forbidden}
use Rattle.pack_defs.specs.Packing.{assignments, is_apart}

-- Whether the entry is allowed together with each of these and by itself.
abbrev pub is_compatible_with : BookView → List (ℕ × ℕ) → ℕ × ℕ → Bool
is_compatible_with book chosen x = list_all (λ y. not (is_forbidden book x y)) chosen && not (is_forbidden book x x)

-- `all` is the chosen entries and an assignment of the stations left, no two entries of which are forbidden together.
pub record Extends (book : BookView) (chosen : List (ℕ × ℕ)) (left : List ℕ) (all : List (ℕ × ℕ)) : Type 0 where
  pub more : List (ℕ × ℕ)
  pub listed : Contains (assignments book left) more
  pub whole : all ≡ chosen ++ more
  pub apart : is_apart book all ≡ true

-- No assignment of the stations left is allowed together with the chosen entries.
abbrev pub NoneExtends : BookView → List (ℕ × ℕ) → List ℕ → Type 0
NoneExtends book chosen left = list_any (λ more. is_apart book (chosen ++ more)) (assignments book left) ≡ false

-- Whether the chosen entries could be extended to the stations left: if true, they were; if false, nothing changed.
abbrev pub IsExtended : BookView → List (ℕ × ℕ) → List ℕ → List (ℕ × ℕ) → Bool → Type 0
IsExtended book chosen left after true = Extends book chosen left after
IsExtended book chosen left after false = (after ≡ chosen) × NoneExtends book chosen left

-- No assignment extends them with one more station, on one of these channels.
abbrev pub NoneExtendsBy : BookView → List (ℕ × ℕ) → ℕ → List ℕ → List ℕ → Type 0
NoneExtendsBy book chosen s channels left =
    list_any (λ more. is_apart book (chosen ++ more))
    (flat_map (λ c. map (λ rest. (s, c) ∷ rest) (assignments book left)) channels) ≡ false
