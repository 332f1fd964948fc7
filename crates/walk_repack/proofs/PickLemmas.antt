-- The violated pair that a walk looks at.
use Rattle.std.proofs.Common.{◌≡◌, ℕ, Bool, true, false, cond, List, [], ◌∷◌, Contains, filter, Some, find, refl, subst}
use Rattle.std.proofs.lemmas.Bool.{and_from}
use Rattle.pack_defs.specs.declared.pair.Pair.{Pair}
use Rattle.pack_defs.specs.Book.{BookView}
use Rattle.pack_defs.specs.Lists.{has_entry}
use Rattle.pack_defs.proofs.Members.{Contains-from_filter, Contains-here, Contains-there}
use Rattle.assign_check.specs.Fault.{is_violated}
use Rattle.walk_repack.specs.WalkState.{IsViolated}

-- A pair of a part of the book's pairs is a pair of the book.
pub kept-listed : (keep : Pair → Bool) (pairs some : List Pair) (p : Pair) → some ≡ filter keep pairs → Contains some p → Contains pairs p
kept-listed keep pairs some p e h = (Contains-from_filter keep pairs p (subst (λ (ps : List Pair). Contains ps p) e h)).0

-- What a search finds is in the list, and passes.
pub find-in : (t : Pair → Bool) (ps : List Pair) (q : Pair) → find t ps ≡ Some q → Contains ps q × (t q ≡ true)
find-in t [] q e = cc
find-in t (p ∷ ps) q e =
    (elim (t p) as (λ b. t p ≡ b → cond b (Some p) (find t ps) ≡ Some q → Contains (p ∷ ps) q × (t q ≡ true)) [
      | true ↦ λ passes. λ (is : Some p ≡ Some q).
          let same : p ≡ q = cc in
          (subst (λ z. Contains (p ∷ ps) z) same (Contains-here p ps), subst (λ z. t z ≡ true) same passes)
      | false ↦ λ fails later. let r = find-in t ps q later in (Contains-there p q ps r.0, r.1)
    ]) refl e

-- The first violated pair from a station is violated.
pub first-violated : (book : BookView) (entries : List (ℕ × ℕ)) (keep : Pair → Bool) (q : Pair) → find (is_violated entries) (filter keep book.pairs) ≡ Some q → IsViolated book entries q
first-violated book entries keep q e =
    let r = find-in (is_violated entries) (filter keep book.pairs) q e in
    record { listed = (Contains-from_filter keep book.pairs q r.0).0; stands = r.1 }

-- A pair of the book is violated if the map has both entries.
pub both-stand : (book : BookView) (entries : List (ℕ × ℕ)) (p : Pair) → Contains book.pairs p → has_entry entries (p.f, p.a) ≡ true → has_entry entries (p.g, p.b) ≡ true → IsViolated book entries p
both-stand book entries p listed f g = record { listed = listed; stands = and_from (has_entry entries (p.f, p.a)) (has_entry entries (p.g, p.b)) f g }
