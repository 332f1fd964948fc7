-- For `count`: the number of clauses of a formula.
use Rattle.std.proofs.Common.{◌≡◌, ℕ, ◌+◌, ◌-◌, ◌*◌, ◌/◌, ◌<◌, ◌≤◌, Bool, true, List, [], ◌∷◌, ◌++◌, cond, map, filter, flat_map, length, get_or, take, refl, sym, ap, ◌∙◌, arith, length-append}
use Rattle.std.specs.List.{count_by, sum_by}
use Rattle.std.proofs.lemmas.List.{length-map, take_more}
use Rattle.std.proofs.lemmas.List.Concat.{length-flat_map}
use Rattle.std.proofs.lemmas.List.Sums.{sum_by-append, sum_by-take-le}
use Rattle.pack_defs.specs.Book.{BookView, domain_of, pairs_ascend, stations_of}
use Rattle.pack_defs.specs.Lists.{is_in, is_ascending}
use Rattle.pack_defs.proofs.Spans.{firsts-rise}
use Rattle.pack_defs.proofs.ComponentLaws.{filter_no_longer}
use Rattle.cnf_encode.specs.ByStation.{pairs_inside_from}
use Rattle.cnf_encode.specs.Formula.{at_least_one, at_most_one, is_inside, not_both, packing_formula, pair_clause, station_variables}
use Rattle.cnf_encode.proofs.AscendingLemmas.{ascending-take, count-most}
use Rattle.cnf_encode.proofs.NumberLemmas.{few-channels}
use Rattle.cnf_encode.proofs.PairLemmas.{all-stations}

twos-of : (v : ℕ) (vs : List ℕ) → (length vs + 1) * length vs ≡ 2 * length (at_most_one (v ∷ vs))
twos-of v [] = omega arith
twos-of v (w ∷ vs) =
    let rest = twos-of w vs in
    let here = length-append (map (not_both v) (w ∷ vs)) (at_most_one (w ∷ vs)) in
    let row = length-map (w ∷ vs) (not_both v) in
    let square : (length vs + 1 + 1) * (length vs + 1) ≡ (length vs + 1) * length vs + 2 * (length vs + 1) = grind arith in
    omega (arith, rest, here, row, square)

-- half of a number and one less
pub twos-half : (variable : ℕ → ℕ) (channels : List ℕ) (n : ℕ) → n ≡ length channels → n * (n - 1) / 2 ≡ length (at_most_one (map variable channels))
twos-half variable [] n e = rw e refl
twos-half variable (c ∷ cs) n e =
    let two = twos-of (variable c) (map variable cs) in
    let long = length-map cs variable in
    let less : n - 1 ≡ length (map variable cs) = omega (arith, e, long) in
    let own : n ≡ length (map variable cs) + 1 = omega (arith, e, long) in
    rw less (rw own (omega (arith, two)))

-- one more station of a sum
pub sum-more : (f : ℕ → ℕ) (set : List ℕ) (i : ℕ) → i < length set → sum_by f (take (i + 1) set) ≡ sum_by f (take i set) + f (get_or set i 0)
sum-more f set i l =
    let more = ap (sum_by f) (take_more set i 0 l) ∙ sum_by-append f (take i set) (get_or set i 0 ∷ []) in
    omega (arith, more)

-- the count up to a place is bounded by a constant for each station of the book
pub no-two-step : (book : BookView) (set : List ℕ) (i count n long : ℕ) → i < length set → count ≤ 32768 * count_by (is_in (stations_of book)) (take i set)
    → long ≡ length (domain_of book (get_or set i 0)) → n ≤ 128 * long → long ≤ 256 → count + n ≤ 32768 * count_by (is_in (stations_of book)) (take (i + 1) set)
no-two-step book set i count n long l few e most small =
    let s = get_or set i 0 in
    let p : ℕ → Bool = is_in (stations_of book) in
    let here : long ≤ 256 * cond (p s) 1 0 = few-channels book s long e small in
    let counted = ap (count_by p) (take_more set i 0 l) ∙ sum_by-append (λ x. cond (p x) 1 0) (take i set) (s ∷ []) in
    omega (arith, here, counted, few, most)

pub no-two-most : (book : BookView) (set : List ℕ) (i count : ℕ) → is_ascending set ≡ true → length book.domains ≤ 8192 → count ≤ 32768 * count_by (is_in (stations_of book)) (take i set) → count ≤ 32768 * 8192
no-two-most book set i count a stations few =
    let most = count-most (stations_of book) (take i set) (ascending-take set i a) in
    let all = length-map book.domains (λ d. d.station) in
    omega (arith, few, most, all, stations)

-- the pairs within the set, station by station
pub pairs-counted : (book : BookView) (set : List ℕ) → is_ascending set ≡ true → pairs_ascend book.pairs ≡ true → sum_by (λ s. length (pairs_inside_from book set s)) set ≡ length (filter (is_inside set) book.pairs)
pairs-counted book set a h =
    sym (length-flat_map (pairs_inside_from book set) set) ∙ ap length (all-stations (λ p. is_in set p.g) set book.pairs a (firsts-rise book.pairs h))

pub pairs-most : (book : BookView) (set : List ℕ) (i : ℕ) → is_ascending set ≡ true → pairs_ascend book.pairs ≡ true → sum_by (λ s. length (pairs_inside_from book set s)) (take i set) ≤ length book.pairs
pairs-most book set i a h =
    let part = sum_by-take-le (λ s. length (pairs_inside_from book set s)) set i in
    let whole = pairs-counted book set a h in
    let few = filter_no_longer (is_inside set) book.pairs in
    omega (arith, part, whole, few)

-- the parts of the formula
pub formula-counted : (book : BookView) (set : List ℕ) (two pairs : ℕ) → two ≡ length (flat_map (λ s. at_most_one (station_variables book set s)) set) → pairs ≡ length (filter (is_inside set) book.pairs)
    → length set + two + pairs ≡ length (packing_formula book set)
unfolding packing_formula
formula-counted book set two pairs e f =
    let least = length-map set (λ s. at_least_one (station_variables book set s)) in
    let last = length-map (filter (is_inside set) book.pairs) (pair_clause book set) in
    let a = length-append (map (λ s. at_least_one (station_variables book set s)) set ++ flat_map (λ s. at_most_one (station_variables book set s)) set) (map (pair_clause book set) (filter (is_inside set) book.pairs)) in
    let b = length-append (map (λ s. at_least_one (station_variables book set s)) set) (flat_map (λ s. at_most_one (station_variables book set s)) set) in
    omega (arith, e, f, least, last, a, b)
