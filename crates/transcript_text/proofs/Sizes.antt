-- Bounds on the variables and clauses of a set's formula.
use Rattle.std.proofs.Common.{◌≡◌, ◌∙◌, ◌≤◌, ◌+◌, ◌*◌, ◌∷◌, [], ℕ, List, Bool, true, false, eqb, refl, sym, ap, arith, length, length-append, map, filter}
use Rattle.std.specs.Prelude.{count_by, nat_lt}
use Rattle.std.specs.List.{flat_map}
use Rattle.std.proofs.lemmas.Bool.{and_parts, eq-eqb, ltb-true, or_left, or_right}
use Rattle.std.proofs.lemmas.List.{length-map}
use Rattle.std.proofs.lemmas.List.Sums.{length-filter}
use Rattle.pack_defs.specs.Book.{BookView, domain_of}
use Rattle.pack_defs.specs.Lists.{is_ascending, is_in}
use Rattle.pack_defs.proofs.ComponentLaws.{filter_no_longer}
use Rattle.cnf_encode.specs.Formula.{at_most_one, choices, is_inside, not_both, station_variables, variable_of, variables_in}
use Rattle.cnf_encode.proofs.AscendingLemmas.{count-most}
use Rattle.cnf_encode.proofs.CountLemmas.{formula-counted}
use Rattle.auction_core.specs.LogNumbers.{clauses_in}

-- An ascending list of numbers up to 51 is short.
short : (x : ℕ) (xs : List ℕ) → is_ascending (x ∷ xs) ≡ true → ((c : ℕ) → is_in (x ∷ xs) c ≡ true → c ≤ 51) → length (x ∷ xs) + x ≤ 52
short x [] a within = let here = within x (or_left (eqb x x) false (eq-eqb x x refl)) in omega (arith, here)
short x (y ∷ ys) a within =
    let parts = and_parts (nat_lt x y) (is_ascending (y ∷ ys)) a in
    let rest = short y ys parts.1 (λ c m. within c (or_right (eqb x c) (is_in (y ∷ ys) c) m)) in
    let less = ltb-true x y parts.0 in
    omega (arith, rest, less)

pub few-channels : (xs : List ℕ) → is_ascending xs ≡ true → ((c : ℕ) → is_in xs c ≡ true → c ≤ 51) → length xs ≤ 52
few-channels [] a within = omega arith
few-channels (x ∷ xs) a within = let h = short x xs a within in omega (arith, h)

kept-all : (p : ℕ → Bool) (xs : List ℕ) → ((z : ℕ) → is_in xs z ≡ true → p z ≡ true) → filter p xs ≡ xs
kept-all p [] h = refl
kept-all p (x ∷ xs) h =
    let rest = kept-all p xs (λ z m. h z (or_right (eqb x z) (is_in xs z) m)) in
    rw (h x (or_left (eqb x x) (is_in xs x) (eq-eqb x x refl))) (ap (λ (ys : List ℕ). x ∷ ys) rest)

all-count : (p : ℕ → Bool) (xs : List ℕ) → ((z : ℕ) → is_in xs z ≡ true → p z ≡ true) → count_by p xs ≡ length xs
all-count p xs h = sym (length-filter p xs) ∙ ap length (kept-all p xs h)

-- An ascending list whose numbers are all in another list is no longer than that list.
pub no-longer : (all set : List ℕ) → is_ascending set ≡ true → ((z : ℕ) → is_in set z ≡ true → is_in all z ≡ true) → length set ≤ length all
no-longer all set a within =
    let most = count-most all set a in
    let every = all-count (is_in all) set within in
    omega (arith, most, every)

pub variables-most : (book : BookView) (set : List ℕ) → ((s : ℕ) → length (domain_of book s) ≤ 52) → variables_in book set ≤ 52 * length set
variables-most book [] few = omega arith
variables-most book (s ∷ set) few =
    let rest = variables-most book set few in
    let choice : ℕ → ℕ × ℕ = λ c. (s, c) in
    let here = length-map (domain_of book s) choice in
    let both = length-append (map choice (domain_of book s)) (choices book set) in
    let own = few s in
    omega (arith, rest, here, both, own)

twos-most : (xs : List ℕ) → length xs ≤ 52 → length (at_most_one xs) ≤ 52 * length xs
twos-most [] few = omega arith
twos-most (v ∷ vs) few =
    let rest = twos-most vs (omega (arith, few)) in
    let row = length-map vs (not_both v) in
    let both = length-append (map (not_both v) vs) (at_most_one vs) in
    omega (arith, rest, row, both, few)

station-twos : (book : BookView) (whole : List ℕ) (s : ℕ) → length (domain_of book s) ≤ 52 → length (at_most_one (station_variables book whole s)) ≤ 2704
station-twos book whole s few =
    let long = length-map (domain_of book s) (λ c. variable_of book whole (s, c)) in
    let most = twos-most (station_variables book whole s) (omega (arith, long, few)) in
    omega (arith, most, long, few)

all-twos : (book : BookView) (whole set : List ℕ) → ((s : ℕ) → length (domain_of book s) ≤ 52) → length (flat_map (λ s. at_most_one (station_variables book whole s)) set) ≤ 2704 * length set
all-twos book whole [] few = omega arith
all-twos book whole (s ∷ set) few =
    let rest = all-twos book whole set few in
    let here = station-twos book whole s (few s) in
    let both = length-append (at_most_one (station_variables book whole s)) (flat_map (λ s. at_most_one (station_variables book whole s)) set) in
    omega (arith, rest, here, both)

pub clauses-most : (book : BookView) (set : List ℕ) → ((s : ℕ) → length (domain_of book s) ≤ 52) → clauses_in book set ≤ 2705 * length set + length book.pairs
clauses-most book set few =
    let two = length (flat_map (λ s. at_most_one (station_variables book set s)) set) in
    let inside = length (filter (is_inside set) book.pairs) in
    let whole = formula-counted book set two inside refl refl in
    let most = all-twos book set set few in
    let pairs = filter_no_longer (is_inside set) book.pairs in
    omega (arith, whole, most, pairs)
