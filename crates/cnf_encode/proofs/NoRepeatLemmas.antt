-- For `encode`: no clause of the packing formula has a literal twice.
use Rattle.std.proofs.Common.{◌≡◌, ℕ, ◌<◌, Bool, true, false, ◌||◌, ◌==◌, List, [], ◌∷◌, ◌++◌, All, Contains, map, filter, flat_map, refl, sym, ap, ◌∙◌, arith, ⊎_elim, eq-eqb}
use Rattle.std.proofs.lemmas.Bool.{and_parts, or_cases, or_from, or_left, or_right, not-true, false_from_ne_true, false≢true}
use Rattle.std.proofs.lemmas.List.Elements.{All-append, All-cons, All-nil}
use Rattle.clause_db.specs.declared.lit.Lit.{Lit}
use Rattle.clause_db.specs.Clause.{neg_lit, pos_lit, has_lit, has_repeated_lit, same_lit}
use Rattle.clause_db.specs.Clauses.{HaveNoRepeats}
use Rattle.clause_db.proofs.Literals.{same_lit-is}
use Rattle.pack_defs.specs.declared.pair.Pair.{Pair}
use Rattle.pack_defs.specs.Book.{BookView, IsInOrder, domain_of, has_two_stations, is_within}
use Rattle.pack_defs.specs.Lists.{is_ascending, is_in}
use Rattle.pack_defs.proofs.BookLemmas.{channels_in-ascend}
use Rattle.pack_defs.proofs.Members.{Contains-from_filter, is_in-from, list_all-gives}
use Rattle.pack_defs.proofs.Words.{ascending-rest, below-later}
use Rattle.cnf_encode.specs.Formula.{at_least_one, at_most_one, choices, is_inside, not_both, packing_formula, pair_clause, station_variables, variable_of}
use Rattle.cnf_encode.proofs.Encoding.{choices-have, number-same}
use Rattle.cnf_encode.proofs.Ranges.{All-each, All-flat_map}

abbrev IsApart : List Lit → Type 0
IsApart c = has_repeated_lit c ≡ false

-- a function that gives different numbers for the items of a list
abbrev AreReported : (ℕ → ℕ) → List ℕ → Type 0
AreReported f xs = (c d : ℕ) → is_in xs c ≡ true → is_in xs d ≡ true → f c ≡ f d → c ≡ d

told-rest : (f : ℕ → ℕ) (x : ℕ) (xs : List ℕ) → AreReported f (x ∷ xs) → AreReported f xs
told-rest f x xs t = λ c d h k e. t c d (or_right (x == c) (is_in xs c) h) (or_right (x == d) (is_in xs d) k) e

-- a later number of an ascending list has another value
told-apart : (f : ℕ → ℕ) (x : ℕ) (xs : List ℕ) (d : ℕ) → is_ascending (x ∷ xs) ≡ true → AreReported f (x ∷ xs) → is_in xs d ≡ true → f x ≡ f d → ⊥
told-apart f x xs d a t k e =
    let below : x < d = below-later x xs d a k in
    let same : x ≡ d = t x d (or_left (x == x) (is_in xs x) (eq-eqb x x refl)) (or_right (x == d) (is_in xs d) k) e in
    omega arith

lit-there : (f : ℕ → ℕ) (xs : List ℕ) (v : ℕ) → has_lit (map pos_lit (map f xs)) (pos_lit v) ≡ true → (d : ℕ) × (is_in xs d ≡ true) × (v ≡ f d)
lit-there f [] v h = absurd (false≢true h)
lit-there f (x ∷ xs) v h =
    ⊎_elim
    (λ s. (x, or_left (x == x) (is_in xs x) (eq-eqb x x refl), ap (λ (z : Lit). z.var) (same_lit-is (pos_lit v) (pos_lit (f x)) s)))
    (λ r. let later = lit-there f xs v r in (later.0, or_right (x == later.0) (is_in xs later.0) later.1, later.2))
    (or_cases (same_lit (pos_lit v) (pos_lit (f x))) (has_lit (map pos_lit (map f xs)) (pos_lit v)) h)

least-apart : (f : ℕ → ℕ) (xs : List ℕ) → is_ascending xs ≡ true → AreReported f xs → IsApart (at_least_one (map f xs))
least-apart f [] a t = refl
least-apart f (x ∷ xs) a t =
    or_from (has_lit (map pos_lit (map f xs)) (pos_lit (f x))) (has_repeated_lit (map pos_lit (map f xs)))
    (false_from_ne_true (has_lit (map pos_lit (map f xs)) (pos_lit (f x))) (λ h. let there = lit-there f xs (f x) h in told-apart f x xs there.0 a t there.1 there.2))
    (least-apart f xs (ascending-rest x xs a) (told-rest f x xs t))

both-apart : (v w : ℕ) → (v ≡ w → ⊥) → IsApart (not_both v w)
both-apart v w n = step (same_lit (neg_lit v) (neg_lit w)) refl
  where
    step : (b : Bool) → same_lit (neg_lit v) (neg_lit w) ≡ b → ((b || false) || (false || false)) ≡ false
    step true e = absurd (n (ap (λ (z : Lit). z.var) (same_lit-is (neg_lit v) (neg_lit w) e)))
    step false e = refl

own-apart : (f : ℕ → ℕ) (x : ℕ) (xs : List ℕ) → ((d : ℕ) → is_in xs d ≡ true → f x ≡ f d → ⊥) → All IsApart (map (not_both (f x)) (map f xs))
own-apart f x [] n = All-nil IsApart
own-apart f x (y ∷ ys) n =
    All-cons IsApart (not_both (f x) (f y)) (map (not_both (f x)) (map f ys)) (both-apart (f x) (f y) (n y (or_left (y == y) (is_in ys y) (eq-eqb y y refl))))
    (own-apart f x ys (λ d k. n d (or_right (y == d) (is_in ys d) k)))

most-apart : (f : ℕ → ℕ) (xs : List ℕ) → is_ascending xs ≡ true → AreReported f xs → All IsApart (at_most_one (map f xs))
most-apart f [] a t = All-nil IsApart
most-apart f (x ∷ xs) a t =
    All-append IsApart (map (not_both (f x)) (map f xs)) (at_most_one (map f xs))
    (own-apart f x xs (λ d k e. told-apart f x xs d a t k e))
    (most-apart f xs (ascending-rest x xs a) (told-rest f x xs t))

-- each choice has a number of its own
choices-told : (book : BookView) (set : List ℕ) (x y : ℕ × ℕ) → is_in set x.0 ≡ true → is_in (domain_of book x.0) x.1 ≡ true → variable_of book set x ≡ variable_of book set y → x ≡ y
choices-told book set x y h k e = number-same (choices book set) x y (choices-have book set x.0 x.1 h k) e

station-told : (book : BookView) (set : List ℕ) (s : ℕ) → is_in set s ≡ true → AreReported (λ c. variable_of book set (s, c)) (domain_of book s)
station-told book set s h = λ c d k l e. ap (λ (z : ℕ × ℕ). z.1) (choices-told book set (s, c) (s, d) h k e)

pair-apart : (book : BookView) (set : List ℕ) (p : Pair) → IsInOrder book → Contains (filter (is_inside set) book.pairs) p → IsApart (pair_clause book set p)
pair-apart book set p o m =
    let kept = Contains-from_filter (is_inside set) book.pairs p m in
    let stations = and_parts (is_in set p.f) (is_in set p.g) kept.1 in
    let channels = and_parts (is_in (domain_of book p.f) p.a) (is_in (domain_of book p.g) p.b) (list_all-gives (is_within book.domains) book.pairs p o.on_domains kept.0) in
    let two : (p.f == p.g) ≡ false = not-true (p.f == p.g) (list_all-gives has_two_stations book.pairs p o.of_two kept.0) in
    both-apart (variable_of book set (p.f, p.a)) (variable_of book set (p.g, p.b))
    (λ e. false≢true (sym two ∙ eq-eqb p.f p.g (ap (λ (z : ℕ × ℕ). z.0) (choices-told book set (p.f, p.a) (p.g, p.b) stations.0 channels.0 e))))

pub formula-apart : (book : BookView) (set : List ℕ) → IsInOrder book → HaveNoRepeats (packing_formula book set)
unfolding packing_formula
formula-apart book set o =
    let A : List (List Lit) = map (λ s. at_least_one (station_variables book set s)) set in
    let B : List (List Lit) = flat_map (λ s. at_most_one (station_variables book set s)) set in
    let C : List (List Lit) = map (pair_clause book set) (filter (is_inside set) book.pairs) in
    let rises : (s : ℕ) → is_ascending (domain_of book s) ≡ true = λ s. channels_in-ascend book.domains s o.domains.channels in
    All-append IsApart (A ++ B) C
    (All-append IsApart A B
    (All-each IsApart (λ s. at_least_one (station_variables book set s)) set (λ s m. least-apart (λ c. variable_of book set (s, c)) (domain_of book s) (rises s) (station-told book set s (is_in-from set s m))))
    (All-flat_map IsApart (λ s. at_most_one (station_variables book set s)) set (λ s m. most-apart (λ c. variable_of book set (s, c)) (domain_of book s) (rises s) (station-told book set s (is_in-from set s m)))))
    (All-each IsApart (pair_clause book set) (filter (is_inside set) book.pairs) (λ p m. pair-apart book set p o m))
