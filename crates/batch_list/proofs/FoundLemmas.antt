-- The first name of a list that passes, if the next item has it.
use Rattle.std.proofs.Common.{◌≡◌, ◌<◌, ℕ, Bool, true, List, Some, refl, length, map, drop, get_or}
use Rattle.std.specs.List.{find}
use Rattle.std.proofs.lemmas.List.{drop_more}

pub found-next : {X : Type 0} (own : X → List ℕ) (p : List ℕ → Bool) (xs : List X) (i : ℕ) (x : X) → i < length xs → x ≡ get_or xs i x → p (own x) ≡ true → find p (map own (drop i xs)) ≡ Some (own x)
found-next own p xs i x within is passes = rw (drop_more xs i x within, ← is, passes) refl
