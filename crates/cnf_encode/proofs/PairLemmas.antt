-- For `encode`: the pairs within a set, station by station.
use Rattle.std.proofs.Common.{◌≡◌, ℕ, suc, ◌+◌, ◌<◌, ◌≤◌, Bool, true, false, ◌==◌, ◌&&◌, ◌||◌, cond, List, [], ◌∷◌, ◌++◌, Contains, filter, map, flat_map, length, get_or, take, refl, sym, ap, ap₂, ◌∙◌, arith, subst, ⊎_elim, eqb-true, ne_eqb}
use Rattle.std.specs.List.{list_all}
use Rattle.std.specs.List.Sorted.{IsNonDecreasingBy}
use Rattle.std.proofs.lemmas.Bool.{and_parts, cases_lt, cond-true, cond-false, false_from_ne_true}
use Rattle.std.proofs.lemmas.List.{append-nil, append_assoc, flat_map_more, get_or_default, map-append, take_more}
use Rattle.std.proofs.lemmas.List.Elements.{filter_more}
use Rattle.clause_db.specs.declared.lit.Lit.{Lit}
use Rattle.pack_defs.specs.declared.pair.Pair.{Pair}
use Rattle.pack_defs.specs.Book.{BookView, IsInOrder, domain_of, is_within, pairs_ascend}
use Rattle.pack_defs.specs.Lists.{is_in, is_ascending}
use Rattle.pack_defs.proofs.BookLemmas.{list_all-filter_itself}
use Rattle.pack_defs.proofs.Members.{Contains-from_filter, list_all-from, list_all-gives, Contains-here, Contains-there}
use Rattle.pack_defs.proofs.Spans.{firsts-rise}
use Rattle.pack_defs.proofs.Words.{below-later, ascending-rest, eq_swap}
use Rattle.pack_defs.proofs.OwnerLaws.{filter_within}
use Rattle.cnf_encode.specs.Formula.{is_inside, not_both, pair_clause, variable_of}
use Rattle.cnf_encode.specs.ByStation.{pairs_inside_from}

-- the clauses of the pairs from a station to one of the set
abbrev pub station_clauses : BookView → List ℕ → ℕ → List (List Lit)
station_clauses book set s = map (pair_clause book set) (pairs_inside_from book set s)

pub list_all-filter : {A : Type 0} (q w : A → Bool) (xs : List A) → list_all q xs ≡ true → list_all q (filter w xs) ≡ true
list_all-filter q w xs h = list_all-from q (filter w xs) (λ x c. list_all-gives q xs x h (Contains-from_filter w xs x c).0)

-- what holds of all items holds of the one at a place
pub list_all-get : {A : Type 0} (q : A → Bool) (xs : List A) (k : ℕ) (d : A) → list_all q xs ≡ true → k < length xs → q (get_or xs k d) ≡ true
list_all-get q xs k d h l = list_all-gives q xs (get_or xs k d) h (k, l, get_or_default xs k (get_or xs k d) d l)

-- one more pair, which is skipped or adds its clause
pub pairs-skip : (clause : Pair → List Lit) (q : Pair → Bool) (list initial : List (List Lit)) (ps : List Pair) (k : ℕ) (d : Pair) → k < length ps → q (get_or ps k d) ≡ false → list ≡ initial ++ map clause (filter q (take k ps)) → list ≡ initial ++ map clause (filter q (take (k + 1) ps))
pairs-skip clause q list initial ps k d l fails e =
    let same : filter q (take (k + 1) ps) ≡ filter q (take k ps) =
    filter_more q ps k d l ∙ ap (λ xs. filter q (take k ps) ++ xs) (cond-false (q (get_or ps k d)) (get_or ps k d ∷ []) [] fails) ∙ append-nil (filter q (take k ps)) in
    e ∙ ap (λ xs. initial ++ map clause xs) (sym same)

pub pairs-add : (clause : Pair → List Lit) (q : Pair → Bool) (new list initial : List (List Lit)) (ps : List Pair) (k : ℕ) (d : Pair) → k < length ps → q (get_or ps k d) ≡ true → list ≡ initial ++ map clause (filter q (take k ps)) → new ≡ list ++ clause (get_or ps k d) ∷ [] → new ≡ initial ++ map clause (filter q (take (k + 1) ps))
pairs-add clause q new list initial ps k d l passes e f =
    let p = get_or ps k d in
    let more : filter q (take (k + 1) ps) ≡ filter q (take k ps) ++ p ∷ [] =
    filter_more q ps k d l ∙ ap (λ xs. filter q (take k ps) ++ xs) (cond-true (q p) (p ∷ []) [] passes) in
    f ∙ ap (λ xs. xs ++ clause p ∷ []) e ∙ append_assoc initial (map clause (filter q (take k ps))) (clause p ∷ [])
    ∙ ap (λ xs. initial ++ xs) (sym (map-append clause (filter q (take k ps)) (p ∷ [])) ∙ ap (map clause) (sym more))

-- one more station
pub stations-more : (f : ℕ → List (List Lit)) (new list initial : List (List Lit)) (set : List ℕ) (i : ℕ) → i < length set → list ≡ initial ++ flat_map f (take i set) → new ≡ list ++ f (get_or set i 0) → new ≡ initial ++ flat_map f (take (i + 1) set)
stations-more f new list initial set i l e g =
    g ∙ ap (λ xs. xs ++ f (get_or set i 0)) e ∙ flat_map_more f initial (take i set) (get_or set i 0) ∙ ap (λ xs. initial ++ flat_map f xs) (sym (take_more set i 0 l))

filter-none : {A : Type 0} (p : A → Bool) (xs : List A) → ((x : A) → Contains xs x → p x ≡ false) → filter p xs ≡ []
filter-none p [] h = refl
filter-none p (x ∷ xs) h =
    cond-false (p x) (x ∷ filter p xs) (filter p xs) (h x (Contains-here x xs)) ∙ filter-none p xs (λ y c. h y (Contains-there x y xs c))

rest-rises : (p : Pair) (ps : List Pair) → IsNonDecreasingBy (λ p. p.f) (p ∷ ps) → IsNonDecreasingBy (λ p. p.f) ps
rest-rises p ps h = λ i j d l u. h (suc i) (suc j) d (omega arith) (omega arith)

head-least : (p : Pair) (ps : List Pair) (q : Pair) → IsNonDecreasingBy (λ p. p.f) (p ∷ ps) → Contains (p ∷ ps) q → p.f ≤ q.f
head-least p ps q h c = subst (λ z. p.f ≤ z.f) c.2 (h 0 c.0 q (omega arith) c.1)

not-in : (x : ℕ) (xs : List ℕ) (y : ℕ) → ((z : ℕ) → is_in xs z ≡ true → x < z) → y ≤ x → is_in xs y ≡ false
not-in x xs y above l = false_from_ne_true (is_in xs y) (λ m. let less : x < y = above y m in omega arith)

-- a pair that is kept as one of the least station's
kept-here : (q : Pair → Bool) (p : Pair) (e : Bool) (own later both : List Pair) → filter q own ++ later ≡ both → filter q (cond e (p ∷ own) own) ++ later ≡ cond ((e || false) && q p) (p ∷ both) both
kept-here q p true own later both h =
    elim (q p) as (λ b. cond b (p ∷ filter q own) (filter q own) ++ later ≡ cond b (p ∷ both) both) [ true ↦ ap (λ zs. p ∷ zs) h | false ↦ h ]
kept-here q p false own later both h = h

-- the pairs of the least station that are kept, and then those of the later ones
one-station : (q : Pair → Bool) (x : ℕ) (xs : List ℕ) (ps : List Pair) → ((z : ℕ) → is_in xs z ≡ true → x < z) → IsNonDecreasingBy (λ p. p.f) ps →
    filter q (filter (λ p. p.f == x) ps) ++ filter (λ p. is_in xs p.f && q p) ps ≡ filter (λ p. is_in (x ∷ xs) p.f && q p) ps
one-station q x xs [] above h = refl
one-station q x xs (p ∷ ps) above h =
    let rest = one-station q x xs ps above (rest-rises p ps h) in
    let later : List Pair = filter (λ p. is_in xs p.f && q p) ps in
    ⊎_elim
    (λ (behind : x < p.f).
    let none : filter (λ p. p.f == x) (p ∷ ps) ≡ [] = filter-none (λ p. p.f == x) (p ∷ ps) (λ r c. let l = head-least p ps r h c in ne_eqb r.f x (λ e. omega arith)) in
    let agree = filter_within (λ r. is_in xs r.f && q r) (λ r. is_in (x ∷ xs) r.f && q r) (p ∷ ps)
    (λ r c. let l = head-least p ps r h c in let other : (x == r.f) ≡ false = ne_eqb x r.f (λ e. omega arith) in ap (λ b. (b || is_in xs r.f) && q r) (sym other)) in
    ap (λ zs. filter q zs ++ filter (λ p. is_in xs p.f && q p) (p ∷ ps)) none ∙ agree)
    (λ (here : p.f ≤ x).
    let outside : is_in xs p.f ≡ false = not-in x xs p.f above here in
    let absent : (is_in xs p.f && q p) ≡ false = ap (λ b. b && q p) outside in
    let both : List Pair = filter (λ p. is_in (x ∷ xs) p.f && q p) ps in
    let second : filter (λ p. is_in xs p.f && q p) (p ∷ ps) ≡ later = cond-false (is_in xs p.f && q p) (p ∷ later) later absent in
    ap (λ zs. filter q (filter (λ p. p.f == x) (p ∷ ps)) ++ zs) second
    ∙ kept-here q p (p.f == x) (filter (λ p. p.f == x) ps) later both rest
    ∙ ap₂ (λ b c. cond ((b || c) && q p) (p ∷ both) both) (eq_swap p.f x) (sym outside))
    (cases_lt x p.f)

pub all-stations : (q : Pair → Bool) (xs : List ℕ) (ps : List Pair) → is_ascending xs ≡ true → IsNonDecreasingBy (λ p. p.f) ps →
    flat_map (λ s. filter q (filter (λ p. p.f == s) ps)) xs ≡ filter (λ p. is_in xs p.f && q p) ps
all-stations q [] ps a h = sym (filter-none (λ p. false) ps (λ p c. refl))
all-stations q (x ∷ xs) ps a h =
    ap (λ zs. filter q (filter (λ p. p.f == x) ps) ++ zs) (all-stations q xs ps (ascending-rest x xs a) h)
    ∙ one-station q x xs ps (λ z m. below-later x xs z a m) h

map-flat_map : {A B C : Type 0} (g : B → C) (f : A → List B) (xs : List A) → map g (flat_map f xs) ≡ flat_map (λ x. map g (f x)) xs
map-flat_map g f [] = refl
map-flat_map g f (x ∷ xs) = map-append g (f x) (flat_map f xs) ∙ ap (λ zs. map g (f x) ++ zs) (map-flat_map g f xs)

-- the pairs of the stations in order are those of the book within the set
pub by-station : (book : BookView) (set : List ℕ) → is_ascending set ≡ true → pairs_ascend book.pairs ≡ true → flat_map (station_clauses book set) set ≡ map (pair_clause book set) (filter (is_inside set) book.pairs)
by-station book set a h =
    sym (map-flat_map (pair_clause book set) (pairs_inside_from book set) set)
    ∙ ap (map (pair_clause book set)) (all-stations (λ p. is_in set p.g) set book.pairs a (firsts-rise book.pairs h))

-- a pair of the station's own, and its channels
pub pair-station : (pairs all : List Pair) (f k : ℕ) (d : Pair) → pairs ≡ filter (λ p. p.f == f) all → k < length pairs → (get_or pairs k d).f ≡ f
pair-station pairs all f k d e l =
    let own : list_all (λ p. p.f == f) pairs ≡ true = rw e (list_all-filter_itself (λ p. p.f == f) all) in
    eqb-true (get_or pairs k d).f f (list_all-get (λ p. p.f == f) pairs k d own l)

pub pair-channels : (book : BookView) (pairs : List Pair) (f k : ℕ) (d : Pair) → IsInOrder book → pairs ≡ filter (λ p. p.f == f) book.pairs → k < length pairs → (is_in (domain_of book (get_or pairs k d).f) (get_or pairs k d).a ≡ true) × (is_in (domain_of book (get_or pairs k d).g) (get_or pairs k d).b ≡ true)
pair-channels book pairs f k d o e l =
    let p = get_or pairs k d in
    let on_domains : list_all (is_within book.domains) pairs ≡ true = rw e (list_all-filter (is_within book.domains) (λ p. p.f == f) book.pairs o.on_domains) in
    and_parts (is_in (domain_of book p.f) p.a) (is_in (domain_of book p.g) p.b) (list_all-get (is_within book.domains) pairs k d on_domains l)

-- the clause that the code adds for a pair
pub pair-written : (book : BookView) (set : List ℕ) (p : Pair) (f g v w : ℕ) → p.f ≡ f → g ≡ p.g → v ≡ variable_of book set (f, p.a) → w ≡ variable_of book set (g, p.b) → not_both v w ≡ pair_clause book set p
pair-written book set p f g v w ef eg ev ew =
    ap₂ not_both (ev ∙ ap (λ s. variable_of book set (s, p.a)) (sym ef)) (ew ∙ ap (λ s. variable_of book set (s, p.b)) eg)
