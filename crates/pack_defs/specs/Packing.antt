-- Clean maps, and whether a set of stations fits. This is station repacking as the SATFC papers state it (Fréchette, Newman and
-- Leyton-Brown): a channel of its domain for each station, and no pair that interferes.
use Rattle.std.specs.Prelude.{ℕ, Bool, true, false, ◌≡◌, if◌then◌else◌, List, [], ◌∷◌, map, Contains}
use Rattle.std.specs.List.{list_any, list_all, flat_map}
use Rattle.pack_defs.specs.Book.{BookView, domain_of, is_forbidden}

-- Each entry is on a channel of its station's domain, and no two entries are forbidden together (the two constraints of the SATFC
-- papers).
pub record IsClean (book : BookView) (entries : List (ℕ × ℕ)) : Type 0 where
  pub on_domain : (x : ℕ × ℕ) → Contains entries x → Contains (domain_of book x.0) x.1
  pub apart : (x y : ℕ × ℕ) → Contains entries x → Contains entries y → is_forbidden book x y ≡ false

-- The map has exactly the stations of the set, in its order, and is clean.
pub record IsPacking (book : BookView) (set : List ℕ) (entries : List (ℕ × ℕ)) : Type 0 where
  pub stations : map (λ x. x.0) entries ≡ set
  pub clean : IsClean book entries

-- Some clean map has exactly these stations (feasibility in the SATFC papers).
pub record Fits (book : BookView) (set : List ℕ) : Type 0 where
  pub entries : List (ℕ × ℕ)
  pub stations : map (λ x. x.0) entries ≡ set
  pub clean : IsClean book entries

-- All assignments that give each station of the set a channel of its domain.
unfoldable pub assignments : BookView → List ℕ → List (List (ℕ × ℕ))
assignments book [] = [] ∷ []
assignments book (s ∷ set) = flat_map (λ c. map (λ rest. (s, c) ∷ rest) (assignments book set)) (domain_of book s)

-- Whether no two entries are forbidden together.
unfoldable pub is_apart : BookView → List (ℕ × ℕ) → Bool
is_apart book entries = list_all (λ x. list_all (λ y. if is_forbidden book x y then false else true) entries) entries

-- Whether the set fits, by trying every assignment (the feasibility test of the SATFC papers, without its search).
unfoldable pub fits : BookView → List ℕ → Bool
fits book set = list_any (is_apart book) (assignments book set)
