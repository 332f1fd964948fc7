-- For `laws`: a clean map of the set gives a model of the packing formula.
use Rattle.std.proofs.Common.{◌≡◌, ℕ, ◌+◌, ◌<◌, ◌≤◌, Bool, true, false, not, ◌==◌, ◌||◌, if◌then◌else◌, List, [], ◌∷◌, ◌++◌, map, filter, flat_map, refl, sym, ap, ◌∙◌, subst, ⊎_elim, eqb-true, eq-eqb, arith}
use Rattle.std.specs.List.{list_any, list_all}
use Rattle.std.proofs.lemmas.Bool.{and_from, or_cases, or_left, or_right, both_ways}
use Rattle.std.proofs.lemmas.List.Folds.{list_all-append, list_any-append}
use Rattle.clause_db.specs.declared.lit.Lit.{Lit}
use Rattle.clause_db.specs.Clause.{clause_holds, Satisfies}
use Rattle.pack_defs.proofs.Members.{is_in-from, list_all-from}
use Rattle.pack_defs.specs.Book.{BookView, IsInOrder, domain_of, is_forbidden}
use Rattle.pack_defs.specs.Lists.{is_in, has_entry, same_entry, is_ascending}
use Rattle.pack_defs.specs.Packing.{IsPacking}
use Rattle.pack_defs.proofs.BookLemmas.{channels_in-ascend}
use Rattle.cnf_encode.specs.Formula.{choices, number_of, variable_of, station_variables, at_least_one, not_both, at_most_one, is_inside, pair_clause, packing_formula}
use Rattle.cnf_encode.specs.Decode.{model_of}
use Rattle.cnf_encode.proofs.Decoding.{some-holds}
use Rattle.cnf_encode.proofs.PairLemmas.{list_all-filter}
use Rattle.pack_defs.proofs.Words.{list_all-map, list_all-flat_map, same_entry-same, same_entry-itself, Contains-from_has_entry, below-later, ascending-rest, station-in, one-entry, pair-forbids, list_any-at, its-entry}

-- a clean map of exactly an ascending set, if domains ascend
record IsMapOf (book : BookView) (set : List ℕ) (entries : List (ℕ × ℕ)) : Type 0 where
  pub domains : (s : ℕ) → is_ascending (domain_of book s) ≡ true
  pub rises : is_ascending set ≡ true
  pub packing : IsPacking book set entries

number-positive : (ys : List (ℕ × ℕ)) (x : ℕ × ℕ) → 1 ≤ number_of ys x
number-positive [] x = omega arith
number-positive (y ∷ ys) x =
    let go : (b : Bool) → 1 ≤ (if b then 1 else number_of ys x + 1) = λ b. elim b as (λ b. 1 ≤ (if b then 1 else number_of ys x + 1)) [ true ↦ omega arith | false ↦ omega arith ] in
    go (same_entry y x)

-- entries with the same number are equal if the list has one of them
pub number-same : (ys : List (ℕ × ℕ)) (x y : ℕ × ℕ) → has_entry ys x ≡ true → number_of ys x ≡ number_of ys y → x ≡ y
number-same [] x y h e = cc
number-same (z ∷ zs) x y h e =
    let px = number-positive zs x in
    let py = number-positive zs y in
    let go : (a b : Bool) → same_entry z x ≡ a → same_entry z y ≡ b → (if a then 1 else number_of zs x + 1) ≡ (if b then 1 else number_of zs y + 1) → x ≡ y =
    λ a b. elim a as (λ a. same_entry z x ≡ a → same_entry z y ≡ b → (if a then 1 else number_of zs x + 1) ≡ (if b then 1 else number_of zs y + 1) → x ≡ y) [
      | true ↦ elim b as (λ b. same_entry z x ≡ true → same_entry z y ≡ b → 1 ≡ (if b then 1 else number_of zs y + 1) → x ≡ y) [
        | true ↦ λ sx sy n. sym (same_entry-same z x sx) ∙ same_entry-same z y sy
        | false ↦ λ sx sy n. absurd (omega arith)
      ]
      | false ↦ elim b as (λ b. same_entry z x ≡ false → same_entry z y ≡ b → number_of zs x + 1 ≡ (if b then 1 else number_of zs y + 1) → x ≡ y) [
        | true ↦ λ sx sy n. absurd (omega arith)
        | false ↦ λ sx sy n.
            let rest : has_entry zs x ≡ true = ⊎_elim (λ (yes : same_entry z x ≡ true). absurd (both_ways (same_entry z x) sx yes)) (λ r. r) (or_cases (same_entry z x) (has_entry zs x) h) in
            let m : number_of zs x ≡ number_of zs y = omega arith in
            number-same zs x y rest m
      ]
    ] in
    go (same_entry z x) (same_entry z y) refl refl e

-- a true variable is that of an entry
true-entry : (ys es : List (ℕ × ℕ)) (y : ℕ × ℕ) → ((x : ℕ × ℕ) → has_entry es x ≡ true → has_entry ys x ≡ true) → list_any (λ x. number_of ys x == number_of ys y) es ≡ true → has_entry es y ≡ true
true-entry ys [] y f h = h
true-entry ys (e ∷ es) y f h =
    ⊎_elim
    (λ n.
    let same : e ≡ y = number-same ys e y (f e (or_left (same_entry e e) (has_entry es e) (same_entry-itself e))) (eqb-true (number_of ys e) (number_of ys y) n) in
    or_left (same_entry e y) (has_entry es y) (subst (λ z. same_entry e z ≡ true) same (same_entry-itself e)))
    (λ r. or_right (same_entry e y) (has_entry es y) (true-entry ys es y (λ x k. f x (or_right (same_entry e x) (has_entry es x) k)) r))
    (or_cases (number_of ys e == number_of ys y) (list_any (λ x. number_of ys x == number_of ys y) es) h)

entry-true : (ys es : List (ℕ × ℕ)) (y : ℕ × ℕ) → has_entry es y ≡ true → list_any (λ x. number_of ys x == number_of ys y) es ≡ true
entry-true ys [] y h = h
entry-true ys (e ∷ es) y h =
    ⊎_elim
    (λ s. or_left (number_of ys e == number_of ys y) (list_any (λ x. number_of ys x == number_of ys y) es) (eq-eqb (number_of ys e) (number_of ys y) (ap (number_of ys) (same_entry-same e y s))))
    (λ r. or_right (number_of ys e == number_of ys y) (list_any (λ x. number_of ys x == number_of ys y) es) (entry-true ys es y r))
    (or_cases (same_entry e y) (has_entry es y) h)

row-has : (s : ℕ) (cs : List ℕ) (c : ℕ) → is_in cs c ≡ true → has_entry (map (λ d. (s, d)) cs) (s, c) ≡ true
row-has s [] c h = h
row-has s (d ∷ ds) c h =
    ⊎_elim
    (λ e. or_left (same_entry (s, d) (s, c)) (has_entry (map (λ d. (s, d)) ds) (s, c)) (and_from (s == s) (d == c) (eq-eqb s s refl) e))
    (λ r. or_right (same_entry (s, d) (s, c)) (has_entry (map (λ d. (s, d)) ds) (s, c)) (row-has s ds c r))
    (or_cases (d == c) (is_in ds c) h)

-- the choices have each channel of each station's domain
pub choices-have : (book : BookView) (set : List ℕ) (s c : ℕ) → is_in set s ≡ true → is_in (domain_of book s) c ≡ true → has_entry (choices book set) (s, c) ≡ true
choices-have book [] s c h k = h
choices-have book (t ∷ ts) s c h k =
    list_any-append (λ y. same_entry y (s, c)) (map (λ d. (t, d)) (domain_of book t)) (choices book ts) ∙
    ⊎_elim
    (λ e.
    let same : t ≡ s = eqb-true t s e in
    or_left (has_entry (map (λ d. (t, d)) (domain_of book t)) (s, c)) (has_entry (choices book ts) (s, c)) (subst (λ z. has_entry (map (λ d. (z, d)) (domain_of book z)) (s, c) ≡ true) (sym same) (row-has s (domain_of book s) c k)))
    (λ r. or_right (has_entry (map (λ d. (t, d)) (domain_of book t)) (s, c)) (has_entry (choices book ts) (s, c)) (choices-have book ts s c r k))
    (or_cases (t == s) (is_in ts s) h)

not-both : (v w : Bool) → (v ≡ true → w ≡ true → ⊥) → (not v || (not w || false)) ≡ true
not-both true true f = absurd (f refl refl)
not-both true false f = refl
not-both false w f = refl

entries-chosen : (book : BookView) (set : List ℕ) (entries : List (ℕ × ℕ)) → IsMapOf book set entries → (x : ℕ × ℕ) → has_entry entries x ≡ true → has_entry (choices book set) x ≡ true
entries-chosen book set entries h x k =
    let on : is_in (domain_of book x.0) x.1 ≡ true = is_in-from (domain_of book x.0) x.1 (h.packing.clean.on_domain x (Contains-from_has_entry entries x k)) in
    let s : is_in set x.0 ≡ true = subst (λ z. is_in z x.0 ≡ true) h.packing.stations (station-in entries x k) in
    choices-have book set x.0 x.1 s on

-- two entries that the map does not have together are not both true
not-both-holds : (book : BookView) (set : List ℕ) (entries : List (ℕ × ℕ)) (x y : ℕ × ℕ) → IsMapOf book set entries → (has_entry entries x ≡ true → has_entry entries y ≡ true → ⊥) → clause_holds (model_of book set entries) (not_both (variable_of book set x) (variable_of book set y)) ≡ true
not-both-holds book set entries x y h f =
    not-both (model_of book set entries (variable_of book set x)) (model_of book set entries (variable_of book set y))
    (λ mx my. f (true-entry (choices book set) entries x (entries-chosen book set entries h) mx) (true-entry (choices book set) entries y (entries-chosen book set entries h) my))

least-holds : (book : BookView) (set : List ℕ) (entries : List (ℕ × ℕ)) → IsMapOf book set entries → list_all (clause_holds (model_of book set entries)) (map (λ s. at_least_one (station_variables book set s)) set) ≡ true
least-holds book set entries h =
    let model = model_of book set entries in
    let clause : ℕ → List Lit = λ s. at_least_one (station_variables book set s) in
    list_all-map (clause_holds model) clause set ∙
    list_all-from (λ s. clause_holds model (clause s)) set (λ s m.
    let its = its-entry entries s (subst (λ z. is_in z s ≡ true) (sym h.packing.stations) (is_in-from set s m)) in
    let on : is_in (domain_of book s) its.0 ≡ true = is_in-from (domain_of book s) its.0 (h.packing.clean.on_domain (s, its.0) (Contains-from_has_entry entries (s, its.0) its.1)) in
    some-holds model (λ c. variable_of book set (s, c)) (domain_of book s) ∙
    list_any-at (λ c. model (variable_of book set (s, c))) (domain_of book s) its.0 on (entry-true (choices book set) entries (s, its.0) its.1))

most-of : (book : BookView) (set : List ℕ) (entries : List (ℕ × ℕ)) (s : ℕ) (cs : List ℕ) → IsMapOf book set entries → is_ascending cs ≡ true → list_all (clause_holds (model_of book set entries)) (at_most_one (map (λ c. variable_of book set (s, c)) cs)) ≡ true
most-of book set entries s [] h a = refl
most-of book set entries s (c ∷ cs) h a =
    let holds : List Lit → Bool = clause_holds (model_of book set entries) in
    let f : ℕ → ℕ = λ c. variable_of book set (s, c) in
    let ascending : is_ascending (map (λ y. y.0) entries) ≡ true = subst (λ z. is_ascending z ≡ true) (sym h.packing.stations) h.rises in
    let first : list_all holds (map (not_both (f c)) (map f cs)) ≡ true =
    list_all-map holds (not_both (f c)) (map f cs) ∙ list_all-map (λ v. holds (not_both (f c) v)) f cs ∙
    list_all-from (λ d. holds (not_both (f c) (f d))) cs (λ d m.
    let less : c < d = below-later c cs d a (is_in-from cs d m) in
    not-both-holds book set entries (s, c) (s, d) h (λ hc hd. let same : c ≡ d = one-entry entries s c d ascending hc hd in absurd (omega arith))) in
    list_all-append holds (map (not_both (f c)) (map f cs)) (at_most_one (map f cs)) ∙
    and_from (list_all holds (map (not_both (f c)) (map f cs))) (list_all holds (at_most_one (map f cs))) first (most-of book set entries s cs h (ascending-rest c cs a))

most-holds : (book : BookView) (set : List ℕ) (entries : List (ℕ × ℕ)) → IsMapOf book set entries → list_all (clause_holds (model_of book set entries)) (flat_map (λ s. at_most_one (station_variables book set s)) set) ≡ true
most-holds book set entries h =
    list_all-flat_map (clause_holds (model_of book set entries)) (λ s. at_most_one (station_variables book set s)) set ∙
    list_all-from (λ s. list_all (clause_holds (model_of book set entries)) (at_most_one (station_variables book set s))) set (λ s m. most-of book set entries s (domain_of book s) h (h.domains s))

pairs-hold : (book : BookView) (set : List ℕ) (entries : List (ℕ × ℕ)) → IsMapOf book set entries → list_all (clause_holds (model_of book set entries)) (map (pair_clause book set) (filter (is_inside set) book.pairs)) ≡ true
pairs-hold book set entries h =
    list_all-map (clause_holds (model_of book set entries)) (pair_clause book set) (filter (is_inside set) book.pairs) ∙
    list_all-filter (λ p. clause_holds (model_of book set entries) (pair_clause book set p)) (is_inside set) book.pairs
    (list_all-from (λ p. clause_holds (model_of book set entries) (pair_clause book set p)) book.pairs (λ p m.
    not-both-holds book set entries (p.f, p.a) (p.g, p.b) h (λ hx hy.
    both_ways (is_forbidden book (p.f, p.a) (p.g, p.b)) (h.packing.clean.apart (p.f, p.a) (p.g, p.b) (Contains-from_has_entry entries (p.f, p.a) hx) (Contains-from_has_entry entries (p.g, p.b) hy)) (pair-forbids book p m))))

map-satisfies : (book : BookView) (set : List ℕ) (entries : List (ℕ × ℕ)) → IsMapOf book set entries → Satisfies (model_of book set entries) (packing_formula book set)
unfolding packing_formula
map-satisfies book set entries h =
    let model = model_of book set entries in
    let A : List (List Lit) = map (λ s. at_least_one (station_variables book set s)) set in
    let B : List (List Lit) = flat_map (λ s. at_most_one (station_variables book set s)) set in
    let C : List (List Lit) = map (pair_clause book set) (filter (is_inside set) book.pairs) in
    list_all-append (clause_holds model) (A ++ B) C ∙
    and_from (list_all (clause_holds model) (A ++ B)) (list_all (clause_holds model) C)
    (list_all-append (clause_holds model) A B ∙ and_from (list_all (clause_holds model) A) (list_all (clause_holds model) B) (least-holds book set entries h) (most-holds book set entries h))
    (pairs-hold book set entries h)

-- the model that a clean map describes makes the formula true
pub packing-satisfies : (book : BookView) (set : List ℕ) (entries : List (ℕ × ℕ)) → IsInOrder book → is_ascending set ≡ true → IsPacking book set entries → Satisfies (model_of book set entries) (packing_formula book set)
packing-satisfies book set entries o a p =
    map-satisfies book set entries (record { domains = λ s. channels_in-ascend book.domains s o.domains.channels; rises = a; packing = p })
