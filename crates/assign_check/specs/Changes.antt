-- What a map violates after some of its channels are changed. To check a packing by its changed stations is this project's own.
use Rattle.std.specs.Prelude.{ℕ, Bool, ◌||◌, ◌==◌, List, filter}
use Rattle.std.specs.List.{list_any}
use Rattle.pack_defs.specs.Book.{BookView}
use Rattle.assign_check.specs.Fault.{is_violated}

-- Whether a pair from the station, or one to it, has both entries in the map.
abbrev pub violates_at : BookView → List (ℕ × ℕ) → ℕ → Bool
violates_at book entries s =
    list_any (is_violated entries) (filter (λ p. p.f == s) book.pairs) || list_any (is_violated entries) (filter (λ p. p.g == s) book.pairs)

-- Whether this holds for the station of one of these entries.
abbrev pub violates_at_some : BookView → List (ℕ × ℕ) → List (ℕ × ℕ) → Bool
violates_at_some book entries changes = list_any (λ x. violates_at book entries x.0) changes
