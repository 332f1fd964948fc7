-- What a walk finds in its map.
use Rattle.std.proofs.Common.{◌≡◌, ◌≤◌, ◌==◌, ◌&&◌, ℕ, true, false, List, [], ◌∷◌, length, refl, arith, eq-eqb, ⊎_elim}
use Rattle.std.specs.List.{list_any}
use Rattle.std.proofs.lemmas.Bool.{and_from, and_parts, false_from_ne_true, or_cases, or_left, or_right}
use Rattle.pack_defs.specs.declared.pair.Pair.{Pair}
use Rattle.pack_defs.specs.Book.{BookView, IsInOrder, domain_of, is_within}
use Rattle.pack_defs.specs.Lists.{has_entry, is_in, is_only}
use Rattle.pack_defs.proofs.Members.{list_all-gives, list_any-from}
use Rattle.pack_defs.specs.ChannelMap.{IsAscending}
use Rattle.pack_defs.proofs.Words.{one-entry, station-in}
use Rattle.assign_check.specs.Fault.{is_violated}
use Rattle.assign_check.specs.Assignment.{is_of}
use Rattle.cert_types.specs.Refutes.{is_dead, same_pair}
use Rattle.cert_types.specs.Moves.{has_violation}
use Rattle.walk_repack.specs.WalkState.{IsViolated}
use Rattle.walk_repack.specs.Steps.{map_stations}

-- The only number of a list.
only-one : (xs : List ℕ) (x : ℕ) → length xs ≤ 1 → is_in xs x ≡ true → is_only xs x ≡ true
only-one [] x l h = h
only-one (y ∷ []) x l h = ⊎_elim (λ e. e) (λ (no : false ≡ true). cc) (or_cases (y == x) false h)
only-one (y ∷ z ∷ zs) x l h = absurd (omega arith)

same-itself : (p : Pair) → same_pair p p ≡ true
same-itself p =
    and_from ((p.f == p.f) && (p.a == p.a)) ((p.g == p.g) && (p.b == p.b))
    (and_from (p.f == p.f) (p.a == p.a) (eq-eqb p.f p.f refl) (eq-eqb p.a p.a refl))
    (and_from (p.g == p.g) (p.b == p.b) (eq-eqb p.g p.g refl) (eq-eqb p.b p.b refl))

-- A violated pair is dead if each of its stations has at most one channel.
pub violated-dead : (book : BookView) (entries : List (ℕ × ℕ)) (p : Pair) → IsInOrder book → IsViolated book entries p → length (domain_of book p.f) ≤ 1 → length (domain_of book p.g) ≤ 1 → is_dead book (map_stations entries) p ≡ true
violated-dead book entries p order v l m =
    let within = list_all-gives (is_within book.domains) book.pairs p order.on_domains v.listed in
    let on = and_parts (is_in (domain_of book p.f) p.a) (is_in (domain_of book p.g) p.b) within in
    let stand = and_parts (has_entry entries (p.f, p.a)) (has_entry entries (p.g, p.b)) v.stands in
    and_from (list_any (λ q. same_pair q p) book.pairs)
    ((is_in (map_stations entries) p.f && is_in (map_stations entries) p.g) && (is_only (domain_of book p.f) p.a && is_only (domain_of book p.g) p.b))
    (list_any-from (λ q. same_pair q p) book.pairs p v.listed (same-itself p))
    (and_from (is_in (map_stations entries) p.f && is_in (map_stations entries) p.g) (is_only (domain_of book p.f) p.a && is_only (domain_of book p.g) p.b)
    (and_from (is_in (map_stations entries) p.f) (is_in (map_stations entries) p.g) (station-in entries (p.f, p.a) stand.0) (station-in entries (p.g, p.b) stand.1))
    (and_from (is_only (domain_of book p.f) p.a) (is_only (domain_of book p.g) p.b) (only-one (domain_of book p.f) p.a l on.0) (only-one (domain_of book p.g) p.b m on.1)))

-- Each station of a violated pair is in trouble.
pub first-troubled : (book : BookView) (entries : List (ℕ × ℕ)) (p : Pair) → IsViolated book entries p → has_violation book entries p.f ≡ true
first-troubled book entries p v =
    list_any-from (λ q. is_of p.f q && is_violated entries q) book.pairs p v.listed
    (and_from (is_of p.f p) (is_violated entries p) (or_left (p.f == p.f) (p.g == p.f) (eq-eqb p.f p.f refl)) v.stands)

pub second-troubled : (book : BookView) (entries : List (ℕ × ℕ)) (p : Pair) → IsViolated book entries p → has_violation book entries p.g ≡ true
second-troubled book entries p v =
    list_any-from (λ q. is_of p.g q && is_violated entries q) book.pairs p v.listed
    (and_from (is_of p.g p) (is_violated entries p) (or_right (p.f == p.g) (p.g == p.g) (eq-eqb p.g p.g refl)) v.stands)

-- A station is on one channel.
pub not-elsewhere : (entries : List (ℕ × ℕ)) (s own c : ℕ) → IsAscending entries → has_entry entries (s, own) ≡ true → (c ≡ own → ⊥) → has_entry entries (s, c) ≡ false
not-elsewhere entries s own c up stands other =
    false_from_ne_true (has_entry entries (s, c)) (λ h. other (one-entry entries s c own up h stands))
