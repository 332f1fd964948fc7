-- Laws of a map's faults. They are proved in `src/laws`, in the same order. Shorter laws are stated there directly.
use Rattle.std.specs.Prelude.{◌≡◌, ◌↔◌, ℕ, List, map, None, true}
use Rattle.std.specs.List.Sorted.{IsStrictlyIncreasing}
use Rattle.pack_defs.specs.Book.{BookView, domain_of}
use Rattle.pack_defs.specs.Lists.{has_entry, is_in}
use Rattle.pack_defs.specs.Packing.{IsClean}
use Rattle.assign_check.specs.Fault.{first_fault, IsCleanOn}
use Rattle.assign_check.specs.Assignment.{violations}

-- The law that an ascending map has no fault for an ascending set exactly if its stations are the set and it is clean.
abbrev pub NoFaultMeansClean : Type 0
NoFaultMeansClean =
    (book : BookView) (set : List ℕ) (entries : List (ℕ × ℕ)) →
    IsStrictlyIncreasing set → IsStrictlyIncreasing (map (λ e. e.0) entries) →
    (first_fault book set entries ≡ None) ↔ ((map (λ e. e.0) entries ≡ set) × IsClean book entries)

-- The law that a map which violates no pair is clean on the set, if its stations are the set and each is on its domain.
abbrev pub NoneViolatedIsClean : Type 0
NoneViolatedIsClean =
    (book : BookView) (set : List ℕ) (entries : List (ℕ × ℕ)) →
    violations book entries ≡ 0 → map (λ e. e.0) entries ≡ set →
    ((x : ℕ × ℕ) → has_entry entries x ≡ true → is_in (domain_of book x.0) x.1 ≡ true) → IsCleanOn book set entries
