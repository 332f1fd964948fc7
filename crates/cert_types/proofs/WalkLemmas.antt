-- For `start` and `moves`: the map that a walk starts from, and its moves.
use Rattle.std.proofs.Common.{◌≡◌, ℕ, true, not, ◌==◌, ◌&&◌, nat_lt, List, [], ◌∷◌, map, refl, sym, ap, subst, ◌∙◌, ⊎_elim, eqb-true}
use Rattle.std.proofs.lemmas.Bool.{and_parts, or_cases}
use Rattle.pack_defs.specs.declared.pair.Pair.{Pair}
use Rattle.pack_defs.specs.Book.{BookView, domain_of}
use Rattle.pack_defs.specs.ChannelMap.{IsAscending}
use Rattle.pack_defs.specs.Lists.{has_entry, has_station, is_ascending, is_in}
use Rattle.pack_defs.proofs.Members.{list_any-gives}
use Rattle.pack_defs.proofs.Words.{entry}
use Rattle.assign_check.specs.Fault.{is_violated}
use Rattle.assign_check.specs.Assignment.{is_of, violations_of}
use Rattle.assign_check.proofs.Counts.{counts-any}
use Rattle.assign_check.proofs.Violations.{station-has}
use Rattle.cert_types.specs.Moves.{has_violation, is_move, start_map}

start-stations : (book : BookView) (last : List (ℕ × ℕ)) (set : List ℕ) → map (λ x. x.0) (start_map book last set) ≡ set
start-stations book last [] = refl
start-stations book last (s ∷ ss) = ap (λ rest. s ∷ rest) (start-stations book last ss)

-- the map that a walk starts from ascends as its set does
pub start-ascends : (book : BookView) (last : List (ℕ × ℕ)) (set : List ℕ) → is_ascending set ≡ true → IsAscending (start_map book last set)
start-ascends book last set up = subst (λ xs. is_ascending xs ≡ true) (sym (start-stations book last set)) up

-- a station of a violated pair is in the map
pub troubled-there : (book : BookView) (entries : List (ℕ × ℕ)) (s : ℕ) → has_violation book entries s ≡ true → has_station entries s ≡ true
troubled-there book entries s h =
    let found = list_any-gives (λ p. is_of s p && is_violated entries p) book.pairs h in
    let p : Pair = found.0 in
    let parts = and_parts (is_of s p) (is_violated entries p) found.2 in
    let both = and_parts (has_entry entries (p.f, p.a)) (has_entry entries (p.g, p.b)) parts.1 in
    ⊎_elim
    (λ e. subst (λ t. has_station entries t ≡ true) (eqb-true p.f s e) (station-has entries (entry p.f p.a) both.0))
    (λ e. subst (λ t. has_station entries t ≡ true) (eqb-true p.g s e) (station-has entries (entry p.g p.b) both.1))
    (or_cases (p.f == s) (p.g == s) parts.0)

-- a station that moves to another channel is in the map
pub mover-there : (book : BookView) (entries : List (ℕ × ℕ)) (x : ℕ × ℕ) → is_move book entries x ≡ true → has_station entries x.0 ≡ true
mover-there book entries x h =
    troubled-there book entries x.0 (and_parts (has_violation book entries x.0) (is_in (domain_of book x.0) x.1 && not (has_entry entries x)) h).0

-- the number of a station's violated pairs is above 0 exactly if the station is in a violated pair
pub troubled-counted : (book : BookView) (entries : List (ℕ × ℕ)) (s n : ℕ) → n ≡ violations_of book entries s → nat_lt 0 n ≡ has_violation book entries s
troubled-counted book entries s n e = ap (nat_lt 0) e ∙ counts-any (λ p. is_of s p && is_violated entries p) book.pairs
