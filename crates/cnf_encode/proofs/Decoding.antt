-- For `decode`: a model of the packing formula gives a clean map of the set.
use Rattle.std.proofs.Common.{◌≡◌, ℕ, ◌+◌, ◌<◌, Bool, true, false, not, cond, ◌==◌, ◌&&◌, ◌||◌, List, [], ◌∷◌, ◌++◌, map, filter, flat_map, Contains, refl, sym, ap, ◌∙◌, subst, ⊎_elim, eqb-true, eq-eqb, find, drop, get_or, length, Some, None, arith, take, take_all, ◌≤◌}
use Rattle.std.specs.List.{list_any, list_all}
use Rattle.std.proofs.lemmas.Bool.{and_parts, and_from, or_cases, or_left, or_right, or_from, both_ways, cond-true, cond-false, false_from_ne_true}
use Rattle.std.proofs.lemmas.List.{drop_more}
use Rattle.std.proofs.lemmas.List.Folds.{list_all-append, list_any_at}
use Rattle.clause_db.specs.declared.lit.Lit.{Lit}
use Rattle.clause_db.specs.Clause.{lit_holds, clause_holds, Satisfies, pos_lit}
use Rattle.pack_defs.proofs.Members.{is_in-gives}
use Rattle.pack_defs.specs.declared.pair.Pair.{Pair}
use Rattle.pack_defs.specs.Book.{BookView, domain_of, joins}
use Rattle.pack_defs.specs.Lists.{is_in, is_ascending, has_entry, same_entry}
use Rattle.pack_defs.specs.Packing.{IsClean, IsPacking}
use Rattle.cnf_encode.specs.Formula.{variable_of, station_variables, at_least_one, at_most_one, is_inside, pair_clause, packing_formula}
use Rattle.cnf_encode.specs.Decode.{chosen, decoded}
use Rattle.cnf_encode.specs.ByStation.{AreOffsets}
use Rattle.cnf_encode.proofs.NumberLemmas.{variable-read}
use Rattle.pack_defs.proofs.Words.{list_all-at, list_all-map, list_any-map, first-passes, entry, pair_same, has_entry-from_Contains}

-- the three parts of the formula
parts-hold : (book : BookView) (set : List ℕ) (model : ℕ → Bool) → Satisfies model (packing_formula book set) →
    (list_all (clause_holds model) (map (λ s. at_least_one (station_variables book set s)) set) ≡ true)
    × (list_all (clause_holds model) (flat_map (λ s. at_most_one (station_variables book set s)) set) ≡ true)
    × (list_all (clause_holds model) (map (pair_clause book set) (filter (is_inside set) book.pairs)) ≡ true)
unfolding packing_formula
parts-hold book set model h =
    let A : List (List Lit) = map (λ s. at_least_one (station_variables book set s)) set in
    let B : List (List Lit) = flat_map (λ s. at_most_one (station_variables book set s)) set in
    let C : List (List Lit) = map (pair_clause book set) (filter (is_inside set) book.pairs) in
    let outer = and_parts (list_all (clause_holds model) (A ++ B)) (list_all (clause_holds model) C) (sym (list_all-append (clause_holds model) (A ++ B) C) ∙ h) in
    let inner = and_parts (list_all (clause_holds model) A) (list_all (clause_holds model) B) (sym (list_all-append (clause_holds model) A B) ∙ outer.0) in
    (inner.0, inner.1, outer.1)

-- the clause that one of some variables is true holds if one is
pub some-holds : (model : ℕ → Bool) (f : ℕ → ℕ) (xs : List ℕ) → clause_holds model (at_least_one (map f xs)) ≡ list_any (λ x. model (f x)) xs
some-holds model f xs = list_any-map (lit_holds model) pos_lit (map f xs) ∙ list_any-map (λ v. model v) f xs

-- a station of the set is on some channel of its domain
some-on : (book : BookView) (set : List ℕ) (model : ℕ → Bool) (s : ℕ) → Satisfies model (packing_formula book set) → is_in set s ≡ true → list_any (λ c. model (variable_of book set (s, c))) (domain_of book s) ≡ true
some-on book set model s h m =
    let clause : ℕ → List Lit = λ s. at_least_one (station_variables book set s) in
    let all : list_all (λ s. clause_holds model (clause s)) set ≡ true = sym (list_all-map (clause_holds model) clause set) ∙ (parts-hold book set model h).0 in
    let one : clause_holds model (clause s) ≡ true = list_all-at (λ s. clause_holds model (clause s)) set s all m in
    sym (some-holds model (λ c. variable_of book set (s, c)) (domain_of book s)) ∙ one

-- the chosen channel is of the station's domain, and its variable is true
chosen-ok : (book : BookView) (set : List ℕ) (model : ℕ → Bool) (s : ℕ) → Satisfies model (packing_formula book set) → is_in set s ≡ true → (model (variable_of book set (s, chosen book set model s)) ≡ true) × (is_in (domain_of book s) (chosen book set model s) ≡ true)
chosen-ok book set model s h m =
    first-passes (λ c. model (variable_of book set (s, c))) (domain_of book s) (some-on book set model s h m)

-- an entry of the decoded map is a station of the set on its chosen channel
decoded-entry : (book : BookView) (set : List ℕ) (model : ℕ → Bool) (stations : List ℕ) (x : ℕ × ℕ) → has_entry (map (λ s. (s, chosen book set model s)) stations) x ≡ true → (is_in stations x.0 ≡ true) × (x.1 ≡ chosen book set model x.0)
decoded-entry book set model [] x h = cc
decoded-entry book set model (s ∷ ss) x h =
    ⊎_elim
    (λ e.
    let both = and_parts (s == x.0) (chosen book set model s == x.1) e in
    let first : s ≡ x.0 = eqb-true s x.0 both.0 in
    let second : chosen book set model s ≡ x.1 = eqb-true (chosen book set model s) x.1 both.1 in
    (or_left (s == x.0) (is_in ss x.0) both.0, sym second ∙ ap (chosen book set model) first))
    (λ r. let rest = decoded-entry book set model ss x r in (or_right (s == x.0) (is_in ss x.0) rest.0, rest.1))
    (or_cases (same_entry (s, chosen book set model s) x) (has_entry (map (λ s. (s, chosen book set model s)) ss) x) h)

-- the variable of an entry of the decoded map is true
decoded-true : (book : BookView) (set : List ℕ) (model : ℕ → Bool) (x : ℕ × ℕ) → Satisfies model (packing_formula book set) → has_entry (decoded book set model) x ≡ true → model (variable_of book set x) ≡ true
decoded-true book set model x h k =
    let e = decoded-entry book set model set x k in
    subst (λ c. model (variable_of book set (x.0, c)) ≡ true) (sym e.1) (chosen-ok book set model x.0 h e.0).0

both-false : (v w : Bool) → v ≡ true → w ≡ true → (not v || (not w || false)) ≡ false
both-false true true e f = refl
both-false true false e f = cc
both-false false w e f = cc

-- a pair of two entries whose variables are true has a clause that is false
pair-false : (book : BookView) (set : List ℕ) (model : ℕ → Bool) (x y : ℕ × ℕ) (p : Pair) →
    model (variable_of book set x) ≡ true → model (variable_of book set y) ≡ true →
    ((p.f == x.0) && ((p.a == x.1) && ((p.g == y.0) && (p.b == y.1)))) ≡ true →
    clause_holds model (pair_clause book set p) ≡ false
pair-false book set model x y p mx my j =
    let a = and_parts (p.f == x.0) ((p.a == x.1) && ((p.g == y.0) && (p.b == y.1))) j in
    let b = and_parts (p.a == x.1) ((p.g == y.0) && (p.b == y.1)) a.1 in
    let c = and_parts (p.g == y.0) (p.b == y.1) b.1 in
    let first : entry p.f p.a ≡ x = pair_same (entry p.f p.a) x (eqb-true p.f x.0 a.0) (eqb-true p.a x.1 b.0) in
    let second : entry p.g p.b ≡ y = pair_same (entry p.g p.b) y (eqb-true p.g y.0 c.0) (eqb-true p.b y.1 c.1) in
    both-false (model (variable_of book set (p.f, p.a))) (model (variable_of book set (p.g, p.b)))
    (subst (λ z. model (variable_of book set z) ≡ true) (sym first) mx)
    (subst (λ z. model (variable_of book set z) ≡ true) (sym second) my)

swapped : (v w : Bool) → (not v || (not w || false)) ≡ (not w || (not v || false))
swapped true true = refl
swapped true false = refl
swapped false true = refl
swapped false false = refl

-- a pair that joins entries of stations of the set is within the set
within : (set : List ℕ) (p : Pair) (x y : ℕ × ℕ) → is_in set x.0 ≡ true → is_in set y.0 ≡ true → joins p x y ≡ true → is_inside set p ≡ true
within set p x y sx sy j =
    ⊎_elim
    (λ e.
    let a = and_parts (p.f == x.0) ((p.a == x.1) && ((p.g == y.0) && (p.b == y.1))) e in
    let b = and_parts (p.a == x.1) ((p.g == y.0) && (p.b == y.1)) a.1 in
    let c = and_parts (p.g == y.0) (p.b == y.1) b.1 in
    and_from (is_in set p.f) (is_in set p.g) (subst (λ z. is_in set z ≡ true) (sym (eqb-true p.f x.0 a.0)) sx) (subst (λ z. is_in set z ≡ true) (sym (eqb-true p.g y.0 c.0)) sy))
    (λ e.
    let a = and_parts (p.f == y.0) ((p.a == y.1) && ((p.g == x.0) && (p.b == x.1))) e in
    let b = and_parts (p.a == y.1) ((p.g == x.0) && (p.b == x.1)) a.1 in
    let c = and_parts (p.g == x.0) (p.b == x.1) b.1 in
    and_from (is_in set p.f) (is_in set p.g) (subst (λ z. is_in set z ≡ true) (sym (eqb-true p.f y.0 a.0)) sy) (subst (λ z. is_in set z ≡ true) (sym (eqb-true p.g x.0 c.0)) sx))
    (or_cases ((p.f == x.0) && ((p.a == x.1) && ((p.g == y.0) && (p.b == y.1)))) ((p.f == y.0) && ((p.a == y.1) && ((p.g == x.0) && (p.b == x.1)))) j)

kept-part : (q : List Lit → Bool) (h : Pair → List Lit) (p : Pair) (rest : List Pair) (b : Bool) → list_all q (map h (cond b (p ∷ rest) rest)) ≡ true → (b ≡ true → q (h p) ≡ true) × (list_all q (map h rest) ≡ true)
kept-part q h p rest true e = let both = and_parts (q (h p)) (list_all q (map h rest)) e in (λ _. both.0, both.1)
kept-part q h p rest false e = (λ (f : false ≡ true). cc, e)

-- no pair within the set joins two entries whose variables are true
no-pair : (book : BookView) (set : List ℕ) (model : ℕ → Bool) (x y : ℕ × ℕ) (ps : List Pair) →
    model (variable_of book set x) ≡ true → model (variable_of book set y) ≡ true → is_in set x.0 ≡ true → is_in set y.0 ≡ true →
    list_all (clause_holds model) (map (pair_clause book set) (filter (is_inside set) ps)) ≡ true →
    list_any (λ p. joins p x y) ps ≡ false
no-pair book set model x y [] mx my sx sy h = refl
no-pair book set model x y (p ∷ ps) mx my sx sy h =
    let parts = kept-part (clause_holds model) (pair_clause book set) p (filter (is_inside set) ps) (is_inside set p) h in
    let apart : joins p x y ≡ true → ⊥ = λ j.
    let yes : clause_holds model (pair_clause book set p) ≡ true = parts.0 (within set p x y sx sy j) in
    let no : clause_holds model (pair_clause book set p) ≡ false =
    ⊎_elim (λ e. pair-false book set model x y p mx my e) (λ e. pair-false book set model y x p my mx e)
    (or_cases ((p.f == x.0) && ((p.a == x.1) && ((p.g == y.0) && (p.b == y.1)))) ((p.f == y.0) && ((p.a == y.1) && ((p.g == x.0) && (p.b == x.1)))) j) in
    both_ways (clause_holds model (pair_clause book set p)) no yes in
    or_from (joins p x y) (list_any (λ p. joins p x y) ps) (false_from_ne_true (joins p x y) apart) (no-pair book set model x y ps mx my sx sy parts.1)

stations-of : (book : BookView) (set : List ℕ) (model : ℕ → Bool) (stations : List ℕ) → map (λ x. x.0) (map (λ s. entry s (chosen book set model s)) stations) ≡ stations
stations-of book set model [] = refl
stations-of book set model (s ∷ ss) = ap (λ rest. s ∷ rest) (stations-of book set model ss)

-- the decoded map has exactly the set's stations
pub decoded-stations : (book : BookView) (set : List ℕ) (model : ℕ → Bool) → map (λ x. x.0) (decoded book set model) ≡ set
decoded-stations book set model = stations-of book set model set

-- the decoded map is clean
decoded-clean : (book : BookView) (set : List ℕ) (model : ℕ → Bool) → Satisfies model (packing_formula book set) → IsClean book (decoded book set model)
decoded-clean book set model h = record {
  on_domain = λ x c.
      let e = decoded-entry book set model set x (has_entry-from_Contains (decoded book set model) x c) in
      subst (λ d. Contains (domain_of book x.0) d) (sym e.1) (is_in-gives (domain_of book x.0) (chosen book set model x.0) (chosen-ok book set model x.0 h e.0).1);
  apart = λ x y c d.
      let hx = has_entry-from_Contains (decoded book set model) x c in
      let hy = has_entry-from_Contains (decoded book set model) y d in
      no-pair book set model x y book.pairs (decoded-true book set model x h hx) (decoded-true book set model y h hy) (decoded-entry book set model set x hx).0 (decoded-entry book set model set y hy).0 (parts-hold book set model h).2;
}

-- the map that a model describes is clean and of exactly the set
pub decoded-packing : (book : BookView) (set : List ℕ) (model : ℕ → Bool) → Satisfies model (packing_formula book set) → IsPacking book set (decoded book set model)
decoded-packing book set model h = record { stations = decoded-stations book set model; clean = decoded-clean book set model h }

-- the model has the station on the channel
abbrev pub is_on : BookView → List ℕ → (ℕ → Bool) → ℕ → ℕ → Bool
is_on book set model s c = model (variable_of book set (s, c))

-- a search that is at a place ends there, or continues after it
pub find-here : (p : ℕ → Bool) (xs : List ℕ) (i : ℕ) → i < length xs → p (get_or xs i 0) ≡ true → find p (drop i xs) ≡ Some (get_or xs i 0)
find-here p xs i l t =
    ap (find p) (drop_more xs i 0 l) ∙ cond-true (p (get_or xs i 0)) (Some (get_or xs i 0)) (find p (drop (i + 1) xs)) t

pub find-later : (p : ℕ → Bool) (xs : List ℕ) (i : ℕ) → i < length xs → p (get_or xs i 0) ≡ false → find p (drop i xs) ≡ find p (drop (i + 1) xs)
find-later p xs i l f =
    ap (find p) (drop_more xs i 0 l) ∙ cond-false (p (get_or xs i 0)) (Some (get_or xs i 0)) (find p (drop (i + 1) xs)) f

find-some : (p : ℕ → Bool) (xs : List ℕ) → list_any p xs ≡ true → find p xs ≡ None → ⊥
find-some p [] h e = cc
find-some p (x ∷ xs) h e =
    (elim (p x) as (λ b. (b || list_any p xs) ≡ true → cond b (Some x) (find p xs) ≡ None → ⊥) [
      | true ↦ λ h e. cc
      | false ↦ λ h e. find-some p xs h e
    ]) h e

-- a model has a station of the set on one of its channels
pub none-chosen : (book : BookView) (set channels : List ℕ) (model : ℕ → Bool) (i s : ℕ) → Satisfies model (packing_formula book set) → i < length set → get_or set i 0 ≡ s → channels ≡ domain_of book s → find (is_on book set model s) channels ≡ None → ⊥
none-chosen book set channels model i s h l e own none =
    let member : is_in set s ≡ true = list_any_at (λ y. y == s) set i 0 l (eq-eqb (get_or set i 0) s e) in
    find-some (is_on book set model s) (domain_of book s) (some-on book set model s h member) (subst (λ xs. find (is_on book set model s) xs ≡ None) own none)

-- what the code reads of the model at a place of the domain
pub on-read : (book : BookView) (set channels offsets : List ℕ) (model : ℕ → Bool) (i j : ℕ) (r : Bool) → channels ≡ domain_of book (get_or set i 0) → is_ascending set ≡ true → is_ascending channels ≡ true → AreOffsets book set offsets → i < length set → j < length channels → r ≡ model (get_or offsets i 0 + j + 1) → r ≡ is_on book set model (get_or set i 0) (get_or channels j 0)
on-read book set channels offsets model i j r own a d h l k e =
    let counted = h.before i (omega arith) in
    e ∙ ap model (variable-read book set channels (get_or offsets i 0) i j (get_or set i 0) (get_or channels j 0) own a d l refl k refl counted)

abbrev decoded_on : BookView → List ℕ → (ℕ → Bool) → List ℕ → List (ℕ × ℕ)
decoded_on book set model stations = map (λ s. (s, chosen book set model s)) stations

-- the entries once every station has its own
pub decoded-whole : (book : BookView) (set : List ℕ) (model : ℕ → Bool) (entries : List (ℕ × ℕ)) (i : ℕ) → length set ≤ i → entries ≡ map (λ s. (s, chosen book set model s)) (take i set) → entries ≡ decoded book set model
decoded-whole book set model entries i l e = e ∙ ap (λ xs. decoded_on book set model xs) (take_all i set l)

pub whole-ascends : (book : BookView) (set : List ℕ) (model : ℕ → Bool) (entries : List (ℕ × ℕ)) → is_ascending set ≡ true → entries ≡ decoded book set model → is_ascending (map (λ x. x.0) entries) ≡ true
whole-ascends book set model entries a e = rw e (subst (λ xs. is_ascending xs ≡ true) (sym (decoded-stations book set model)) a)
