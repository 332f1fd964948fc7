-- The lists of neighbours: how one is built, and that it is what the book says.
use Rattle.std.proofs.Common.{◌≡◌, ℕ, zero, suc, ◌+◌, ◌<◌, ◌≤◌, Bool, true, false, ◌==◌, ◌&&◌, ◌||◌, nat_lt, List, [], ◌∷◌, ◌++◌, map, filter, take, take_all, length, get_or, inl, inr, refl, sym, subst, ap, ◌∙◌, arith, eqb-true}
use Rattle.std.specs.List.{insert, list_all}
use Rattle.std.specs.List.Sorted.{IsPartitionPoint}
use Rattle.std.specs.Ordering.{nat_cmp}
use Rattle.std.specs.declared.cmp.Ordering.TheVariants.{Less, Greater}
use Rattle.std.proofs.lemmas.Bool.{and_parts, and_from, both_ways, cases_Bool, false≢true, or_cases}
use Rattle.std.proofs.lemmas.Bool.Decides.{nat_tests}
use Rattle.std.proofs.lemmas.List.{get_or-map, length-map, map-append, take_more}
use Rattle.std.proofs.lemmas.List.Folds.{list_any-append}
use Rattle.std.proofs.lemmas.Simd.{map-map}
use Rattle.std.proofs.Math.Bool.{or-false}
use Rattle.pack_defs.specs.declared.domain.Domain.{Domain}
use Rattle.pack_defs.specs.declared.pair.Pair.{Pair}
use Rattle.pack_defs.specs.Book.{BookView, AreInOrder, IsInOrder, channels_in, is_within, stations_of}
use Rattle.pack_defs.specs.Components.{interferes, neighbours_of}
use Rattle.pack_defs.specs.Lists.{is_ascending, is_in}
use Rattle.pack_defs.specs.Neighbours.{HasInserted, IsListFor, lists_for}
use Rattle.pack_defs.proofs.BookLemmas.{channels_in-none}
use Rattle.pack_defs.proofs.Chains.{ascending-filter}
use Rattle.pack_defs.proofs.EdgeLemmas.{others-interfere}
use Rattle.pack_defs.proofs.Members.{Contains-filter, Contains-from_filter, is_in-from, is_in-gives, list_all-gives, list_any-gives}
use Rattle.pack_defs.proofs.Words.{same-ascending}

-- ---- one more station in an ascending list

or_there : (a b : Bool) → (b ≡ true → a ≡ true) → a ≡ (a || b)
or_there true b h = refl
or_there false true h = h refl
or_there false false h = refl

or_moved : (a b c : Bool) → (a || (b || c)) ≡ ((b || c) || (a || false))
or_moved true true c = refl
or_moved true false true = refl
or_moved true false false = refl
or_moved false true c = refl
or_moved false false true = refl
or_moved false false false = refl

or_later : (a b c : Bool) → ((a || b) || (c || false)) ≡ (a || (b || (c || false)))
or_later true b c = refl
or_later false b c = refl

pub also-none : (xs : List ℕ) → is_ascending xs ≡ true → HasInserted xs [] xs
also-none xs a = record { ascends = a; same = λ t. sym (or-false (is_in xs t)) }

-- A station that the list already has.
pub also-there : (xs : List ℕ) (x : ℕ) → is_ascending xs ≡ true → is_in xs x ≡ true → HasInserted xs (x ∷ []) xs
also-there xs x a h = record {
  ascends = a;
  same = λ t. or_there (is_in xs t) ((x == t) || false) (λ e. elim (or_cases (x == t) false e) [
    | inl is ↦ subst (λ z. is_in xs z ≡ true) (eqb-true x t is) h
    | inr never ↦ absurd (false≢true never)
  ]);
}

less-is : (y x : ℕ) → nat_cmp y x ≡ Less → nat_lt y x ≡ true
less-is y x h = grind (arith, nat_tests)

greater-is : (y x : ℕ) → nat_cmp y x ≡ Greater → nat_lt x y ≡ true
greater-is y x h = grind (arith, nat_tests)

insert-ascends : (x : ℕ) (xs : List ℕ) (n : ℕ) → n ≤ length xs → IsPartitionPoint (λ y. nat_cmp y x ≡ Less) (λ y. nat_cmp y x ≡ Greater) xs n → is_ascending xs ≡ true → is_ascending (insert xs n x) ≡ true
insert-ascends x [] zero l h a = refl
insert-ascends x [] (suc n) l h a = absurd (omega arith)
insert-ascends x (y ∷ ys) zero l h a =
    and_from (nat_lt x y) (is_ascending (y ∷ ys)) (greater-is y x (h.1 0 x (omega arith) (omega arith))) a
insert-ascends x (y ∷ []) (suc zero) l h a =
    and_from (nat_lt y x) true (less-is y x (h.0 0 x (omega arith) (omega arith))) refl
insert-ascends x (y ∷ []) (suc (suc n)) l h a = absurd (omega arith)
insert-ascends x (y ∷ z ∷ zs) (suc zero) l h a =
    let parts = and_parts (nat_lt y z) (is_ascending (z ∷ zs)) a in
    and_from (nat_lt y x) (is_ascending (x ∷ z ∷ zs)) (less-is y x (h.0 0 x (omega arith) (omega arith)))
    (and_from (nat_lt x z) (is_ascending (z ∷ zs)) (greater-is z x (h.1 1 x (omega arith) (omega arith))) parts.1)
insert-ascends x (y ∷ z ∷ zs) (suc (suc n)) l h a =
    let parts = and_parts (nat_lt y z) (is_ascending (z ∷ zs)) a in
    and_from (nat_lt y z) (is_ascending (z ∷ insert zs n x)) parts.0
    (insert-ascends x (z ∷ zs) (suc n) (omega arith) (λ i d k u. h.0 (suc i) d (omega arith) (omega arith), λ i d k u. h.1 (suc i) d (omega arith) (omega arith)) parts.1)

insert-in : (x : ℕ) (xs : List ℕ) (n t : ℕ) → is_in (insert xs n x) t ≡ (is_in xs t || is_in (x ∷ []) t)
insert-in x [] zero t = refl
insert-in x [] (suc n) t = refl
insert-in x (y ∷ ys) zero t = or_moved (x == t) (y == t) (is_in ys t)
insert-in x (y ∷ ys) (suc n) t = ap (λ b. (y == t) || b) (insert-in x ys n t) ∙ sym (or_later (y == t) (is_in ys t) (x == t))

-- A new station.
pub also-new : (xs : List ℕ) (x n : ℕ) → n ≤ length xs → IsPartitionPoint (λ y. nat_cmp y x ≡ Less) (λ y. nat_cmp y x ≡ Greater) xs n → is_ascending xs ≡ true → HasInserted xs (x ∷ []) (insert xs n x)
also-new xs x n l h a = record { ascends = insert-ascends x xs n l h a; same = λ t. insert-in x xs n t }

-- The pair of the loop's current step.
pub also-next : (key : Pair → ℕ) (pairs : List Pair) (i : ℕ) (d : Pair) (old mid new : List ℕ) → i < length pairs → HasInserted old (map key (take i pairs)) mid → HasInserted mid (key (get_or pairs i d) ∷ []) new → HasInserted old (map key (take (i + 1) pairs)) new
also-next key pairs i d old mid new l before one =
    let more : List ℕ = map key (take i pairs) in
    let x : ℕ = key (get_or pairs i d) in
    let whole : map key (take (i + 1) pairs) ≡ more ++ x ∷ [] = ap (map key) (take_more pairs i d l) ∙ map-append key (take i pairs) (get_or pairs i d ∷ []) in
    record {
      ascends = one.ascends;
      same = λ t. one.same t ∙ ap (λ b. b || is_in (x ∷ []) t) (before.same t)
          ∙ or_later (is_in old t) (is_in more t) (x == t)
          ∙ ap (λ b. is_in old t || b) (sym (list_any-append (λ y. y == t) more (x ∷ [])) ∙ ap (λ ys. is_in ys t) (sym whole));
    }

-- The first and second stations of a station's pairs.
pub list-for : (pairs : List Pair) (s : ℕ) (firsts near : List ℕ) → HasInserted [] (map (λ p. p.f) (filter (λ p. p.g == s) pairs)) firsts → HasInserted firsts (map (λ p. p.g) (filter (λ p. p.f == s) pairs)) near → IsListFor pairs s near
list-for pairs s firsts near one two =
    let to : List ℕ = map (λ p. p.f) (filter (λ p. p.g == s) pairs) in
    let from : List ℕ = map (λ p. p.g) (filter (λ p. p.f == s) pairs) in
    record {
      ascends = two.ascends;
      same = λ t. two.same t ∙ ap (λ b. b || is_in from t) (one.same t) ∙ sym (list_any-append (λ y. y == t) to from) ∙ others-interfere pairs s t;
    }

-- ---- what the book says

station-there : (ds : List Domain) (s c : ℕ) → is_in (channels_in ds s) c ≡ true → is_in (map (λ d. d.station) ds) s ≡ true
station-there ds s c h =
    elim (cases_Bool (is_in (map (λ d. d.station) ds) s)) [
      | inl is ↦ is
      | inr out ↦ absurd (false≢true (sym (ap (λ cs. is_in cs c) (channels_in-none ds s out)) ∙ h))
    ]

-- Both stations of a pair of the book are stations of the book.
both-there : (ds : List Domain) (p : Pair) → is_within ds p ≡ true → (is_in (map (λ d. d.station) ds) p.f ≡ true) × (is_in (map (λ d. d.station) ds) p.g ≡ true)
both-there ds p h =
    let parts = and_parts (is_in (channels_in ds p.f) p.a) _ h in (station-there ds p.f p.a parts.0, station-there ds p.g p.b parts.1)

edge-there : (book : BookView) (s t : ℕ) → list_all (is_within book.domains) book.pairs ≡ true → interferes book s t ≡ true → (is_in (stations_of book) s ≡ true) × (is_in (stations_of book) t ≡ true)
edge-there book s t w h =
    let stations : List ℕ = stations_of book in
    let (p, listed, is) = list_any-gives (λ q. ((q.f == s) && (q.g == t)) || ((q.f == t) && (q.g == s))) book.pairs h in
    let there = both-there book.domains p (list_all-gives (is_within book.domains) book.pairs p w listed) in
    let moved : (x y : ℕ) → (x == y) ≡ true → is_in stations x ≡ true → is_in stations y ≡ true = λ x y e k. subst (λ z. is_in stations z ≡ true) (eqb-true x y e) k in
    elim (or_cases ((p.f == s) && (p.g == t)) _ is) [
      | inl one ↦ let ends = and_parts (p.f == s) (p.g == t) one in (moved p.f s ends.0 there.0, moved p.g t ends.1 there.1)
      | inr other ↦ let ends = and_parts (p.f == t) (p.g == s) other in (moved p.g s ends.1 there.1, moved p.f t ends.0 there.0)
    ]

pub neighbours-ascend : (book : BookView) (s : ℕ) → AreInOrder book.domains → is_ascending (neighbours_of book s) ≡ true
neighbours-ascend book s o = ascending-filter (λ t. interferes book s t) (stations_of book) o.stations

neighbour-gives : (book : BookView) (s t : ℕ) → is_in (neighbours_of book s) t ≡ true → interferes book s t ≡ true
neighbour-gives book s t h = (Contains-from_filter (λ u. interferes book s u) (stations_of book) t (is_in-gives (neighbours_of book s) t h)).1

neighbour-from : (book : BookView) (s t : ℕ) → list_all (is_within book.domains) book.pairs ≡ true → interferes book s t ≡ true → is_in (neighbours_of book s) t ≡ true
neighbour-from book s t w h =
    is_in-from (neighbours_of book s) t (Contains-filter (λ u. interferes book s u) (stations_of book) t (is_in-gives (stations_of book) t (edge-there book s t w h).1) h)

-- A station is a neighbour exactly if the two interfere.
pub neighbours-are : (book : BookView) (s t : ℕ) → IsInOrder book → is_in (neighbours_of book s) t ≡ interferes book s t
neighbours-are book s t o =
    elim (cases_Bool (interferes book s t)) [
      | inl is ↦ neighbour-from book s t o.on_domains is ∙ sym is
      | inr out ↦ elim (cases_Bool (is_in (neighbours_of book s) t)) [
        | inl in_list ↦ absurd (both_ways (interferes book s t) out (neighbour-gives book s t in_list))
        | inr none ↦ none ∙ sym out
      ]
    ]

-- The list that was built is the station's.
pub list-is : (book : BookView) (s : ℕ) (near : List ℕ) → AreInOrder book.domains → list_all (is_within book.domains) book.pairs ≡ true → IsListFor book.pairs s near → near ≡ neighbours_of book s
list-is book s near o w is =
    same-ascending near (neighbours_of book s) is.ascends (neighbours-ascend book s o)
    (λ t h. neighbour-from book s t w (sym (is.same t) ∙ h)) (λ t h. is.same t ∙ neighbour-gives book s t h)

-- A station outside the book has no neighbours.
pub neighbours-none : (book : BookView) (s : ℕ) → IsInOrder book → is_in (stations_of book) s ≡ false → neighbours_of book s ≡ []
neighbours-none book s o out =
    same-ascending (neighbours_of book s) [] (neighbours-ascend book s o.domains) refl
    (λ t h. absurd (both_ways (is_in (stations_of book) s) out (edge-there book s t o.on_domains (neighbour-gives book s t h)).0))
    (λ t h. absurd (false≢true h))

-- ---- the lists in the domains' order

-- One more domain.
pub lists-next : (book : BookView) (i : ℕ) (d : Domain) (done : List (List ℕ)) (near : List ℕ) → i < length book.domains → AreInOrder book.domains → list_all (is_within book.domains) book.pairs ≡ true → done ≡ map (λ x. neighbours_of book x.station) (take i book.domains) → IsListFor book.pairs (get_or book.domains i d).station near → done ++ near ∷ [] ≡ map (λ x. neighbours_of book x.station) (take (i + 1) book.domains)
lists-next book i d done near l o w so_far is =
    let one : near ≡ neighbours_of book (get_or book.domains i d).station = list-is book (get_or book.domains i d).station near o w is in
    ap (λ ns. ns ++ near ∷ []) so_far
    ∙ ap (λ n. map (λ x. neighbours_of book x.station) (take i book.domains) ++ n ∷ []) one
    ∙ sym (map-append (λ (x : Domain). neighbours_of book x.station) (take i book.domains) (get_or book.domains i d ∷ []))
    ∙ ap (map (λ x. neighbours_of book x.station)) (sym (take_more book.domains i d l))

pub lists-all : (book : BookView) (i : ℕ) (done : List (List ℕ)) → length book.domains ≤ i → done ≡ map (λ x. neighbours_of book x.station) (take i book.domains) → done ≡ lists_for book
lists-all book i done l h =
    h ∙ ap (map (λ x. neighbours_of book x.station)) (take_all i book.domains l) ∙ sym (map-map (neighbours_of book) (λ (x : Domain). x.station) book.domains)

-- The list at a station's place.
pub list-at : (book : BookView) (lists : List (List ℕ)) (i s : ℕ) (near : List ℕ) → lists ≡ lists_for book → i < length book.domains → get_or (stations_of book) i 0 ≡ s → near ≡ get_or lists i near → near ≡ neighbours_of book s
list-at book lists i s near all l own here =
    let few : length (stations_of book) ≡ length book.domains = length-map book.domains (λ d. d.station) in
    here
    ∙ ap (λ ns. get_or ns i near) all
    ∙ get_or-map (neighbours_of book) (stations_of book) i 0 near (omega (arith, few, l))
    ∙ ap (neighbours_of book) own
