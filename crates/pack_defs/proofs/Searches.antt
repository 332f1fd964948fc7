-- What a binary search says about an ascending list.
use Rattle.std.proofs.Common.{◌≡◌, ℕ, zero, suc, map-id, ◌+◌, ◌<◌, ◌≤◌, Bool, true, false, ◌==◌, ◌&&◌, nat_lt, List, [], ◌∷◌, map, length, get_or, Result, Ok, Err, refl, sym, subst, ap, ◌∙◌, arith, ⊎_elim}
use Rattle.std.specs.List.{list_any}
use Rattle.std.specs.List.Sorted.{IsBinarySearchResult, IsNonDecreasingBy, IsSortedBy, IsSearchInRange}
use Rattle.std.specs.Ordering.{nat_cmp, is_lt, is_eq, ordering_then, ordering_index}
use Rattle.std.specs.declared.cmp.Ordering.{Ordering}
use Rattle.std.specs.declared.cmp.Ordering.TheVariants.{Equal}
use Rattle.std.specs.Result.{is_ok}
use Rattle.std.proofs.lemmas.Bool.{and_parts, ltb-true, cases_lt}
use Rattle.std.proofs.lemmas.Bool.Decides.{nat_tests}
use Rattle.std.proofs.lemmas.Cmp.{by_ranked, nat_cmp_total, ranked}
use Rattle.std.proofs.lemmas.List.{get_or-map}
use Rattle.std.proofs.lemmas.List.Folds.{list_any_at}
use Rattle.std.proofs.lemmas.List.Recursion.{or_from_places}
use Rattle.std.proofs.lemmas.List.Sorted.{searchable_from_sorted}
use Rattle.pack_defs.specs.declared.pair.Pair.{Pair}
use Rattle.pack_defs.specs.contracts.pair.PairOrd.TheImpl.Laws.{total-law}
use Rattle.pack_defs.specs.Book.{comes_before, pairs_ascend}
use Rattle.pack_defs.specs.Lists.{is_ascending, is_in}
use Rattle.pack_defs.proofs.Words.{list_any-map}

-- One more element before a first element that is not less.
pub sorted-before : {X : Type 0} (lt : X → X → Bool) (x y : X) (ys : List X) → lt y x ≡ false → IsSortedBy lt (y ∷ ys) → IsSortedBy lt (x ∷ y ∷ ys)
sorted-before lt x y ys h s zero d l u = h
sorted-before lt x y ys h s (suc k) d l u =
    let same : suc (k + 1) ≡ suc k + 1 = omega arith in
    subst (λ n. lt (get_or (x ∷ y ∷ ys) n d) (get_or (y ∷ ys) k d) ≡ false) same (s k d (omega arith) (omega arith))

pub sorted-keys : {X : Type 0} (key : X → ℕ) (xs : List X) → is_ascending (map key xs) ≡ true → IsSortedBy (λ a b. is_lt (nat_cmp (key a) (key b))) xs
sorted-keys key [] h = λ k d l u. absurd (omega arith)
sorted-keys key (x ∷ []) h = λ k d l u. absurd (omega arith)
sorted-keys key (x ∷ y ∷ ys) h =
    let parts = and_parts (nat_lt (key x) (key y)) (is_ascending (map key (y ∷ ys))) h in
    let less : key x < key y = ltb-true (key x) (key y) parts.0 in
    sorted-before (λ a b. is_lt (nat_cmp (key a) (key b))) x y ys (grind (arith, nat_tests)) (sorted-keys key (y ∷ ys) parts.1)

-- A number that isn't less than the one before it is at least that one.
pub rises-step : (x y : ℕ) → is_lt (nat_cmp y x) ≡ false → x ≤ y
rises-step x y h = grind (arith, nat_tests)

-- The order of pairs.
abbrev pub pair_cmp : Pair → Pair → Ordering
pair_cmp p q = ordering_then (nat_cmp p.f q.f) (ordering_then (nat_cmp p.a q.a) (ordering_then (nat_cmp p.g q.g) (nat_cmp p.b q.b)))

pub comes_before-not_less : (p q : Pair) → comes_before p q ≡ true → is_lt (pair_cmp q p) ≡ false
comes_before-not_less p q h = grind (arith, nat_tests)

pub sorted-pairs : (ps : List Pair) → pairs_ascend ps ≡ true → IsSortedBy (λ a b. is_lt (pair_cmp a b)) ps
sorted-pairs [] h = λ k d l u. absurd (omega arith)
sorted-pairs (p ∷ []) h = λ k d l u. absurd (omega arith)
sorted-pairs (p ∷ q ∷ ps) h =
    let parts = and_parts (comes_before p q) (pairs_ascend (q ∷ ps)) h in
    sorted-before (λ a b. is_lt (pair_cmp a b)) p q ps (comes_before-not_less p q parts.0) (sorted-pairs (q ∷ ps) parts.1)

-- Ascending keys are sorted for the search for a key, and ascending pairs for the search for a pair.
pub rising-keys : {X : Type 0} (key : X → ℕ) (xs : List X) (k : ℕ) → is_ascending (map key xs) ≡ true → IsNonDecreasingBy (λ y. ordering_index (nat_cmp (key y) k)) xs
rising-keys key xs k h = searchable_from_sorted nat_cmp_total key xs k (sorted-keys key xs h)

pub rising-pairs : (ps : List Pair) (x : Pair) → pairs_ascend ps ≡ true → IsNonDecreasingBy (λ y. ordering_index (pair_cmp y x)) ps
rising-pairs ps x h = searchable_from_sorted total-law (λ p. p) ps x (sorted-pairs ps h)

-- The search finds an element exactly if some element passes the test.
pub found-any : {X : Type 0} (ord : X → Ordering) (test : X → Bool) (xs : List X) (r : Result ℕ ℕ) → ((y : X) → test y ≡ is_eq (ord y)) → IsSearchInRange r (length xs) → IsBinarySearchResult ord xs r → IsNonDecreasingBy (λ y. ordering_index (ord y)) xs → is_ok r ≡ list_any test xs
found-any ord test [] (Ok i) same bound h up = absurd (omega arith)
found-any ord test [] (Err i) same bound h up = refl
found-any ord test (x ∷ xs) (Ok i) same bound h up =
    sym (list_any_at test (x ∷ xs) i x bound (same _ ∙ ap is_eq (h x)))
found-any ord test (x ∷ xs) (Err i) same bound h up =
    let none : (k : ℕ) → k < length (x ∷ xs) → test (get_or (x ∷ xs) k x) ≡ false = λ k l.
    same (get_or (x ∷ xs) k x) ∙ ⊎_elim
    (λ (front : k < i). ap is_eq ((h up).0 k x (omega arith) front))
    (λ (back : i ≤ k). ap is_eq ((h up).1 k x back l))
    (cases_lt k i) in
    sym (or_from_places (list_any test) test refl (λ _ _. refl) (x ∷ xs) x none)

nat_cmp-same : (a b : ℕ) → nat_cmp a b ≡ Equal → a ≡ b
nat_cmp-same a b h = by_ranked (a < b) (a ≡ b) (b < a) (nat_cmp a b) (ranked a b (nat_cmp a b) refl) (λ e _. cc) (λ _ e. e) (λ e _. cc)

nat_cmp-eqb : (a b : ℕ) → (a == b) ≡ is_eq (nat_cmp a b)
nat_cmp-eqb a b = grind (arith, nat_tests)

-- The key at the place that was found; without a place, no element has the key.
pub found-key : {X : Type 0} (key : X → ℕ) (xs : List X) (k i : ℕ) (d : X) → IsBinarySearchResult (λ y. nat_cmp (key y) k) xs (Ok i) → key (get_or xs i d) ≡ k
found-key key xs k i d h = nat_cmp-same (key (get_or xs i d)) k (h d)

pub found-at : {X : Type 0} (key : X → ℕ) (xs : List X) (k i : ℕ) → i < length xs → IsBinarySearchResult (λ y. nat_cmp (key y) k) xs (Ok i) → get_or (map key xs) i 0 ≡ k
found-at key [] k i l h = absurd (omega arith)
found-at key (x ∷ xs) k i l h = get_or-map key (x ∷ xs) i x 0 l ∙ found-key key (x ∷ xs) k i x h

pub found-no_key : {X : Type 0} (key : X → ℕ) (xs : List X) (k i : ℕ) → IsSearchInRange (Err i) (length xs) → IsBinarySearchResult (λ y. nat_cmp (key y) k) xs (Err i) → is_ascending (map key xs) ≡ true → is_in (map key xs) k ≡ false
found-no_key key xs k i bound h a =
    list_any-map (λ y. y == k) key xs ∙ sym (found-any (λ y. nat_cmp (key y) k) (λ y. key y == k) xs (Err i) (λ y. nat_cmp-eqb (key y) k) bound h (rising-keys key xs k a))

-- The search finds the number exactly if the list has it.
pub found-number : (xs : List ℕ) (k : ℕ) (r : Result ℕ ℕ) → IsSearchInRange r (length xs) → IsBinarySearchResult (λ y. nat_cmp y k) xs r → is_ascending xs ≡ true → is_ok r ≡ is_in xs k
found-number xs k r bound h a =
    found-any (λ y. nat_cmp y k) (λ y. y == k) xs r (λ y. nat_cmp-eqb y k) bound h (rising-keys (λ y. y) xs k (rw map-id a))

abbrev pub is_pair : Pair → Pair → Bool
is_pair x p = (p.f == x.f) && ((p.a == x.a) && ((p.g == x.g) && (p.b == x.b)))

pair_cmp-is_pair : (x p : Pair) → is_pair x p ≡ is_eq (pair_cmp p x)
pair_cmp-is_pair x p = grind (arith, nat_tests)

-- The search finds the pair exactly if the list has it.
pub found-pair : (ps : List Pair) (x : Pair) (r : Result ℕ ℕ) → IsSearchInRange r (length ps) → IsBinarySearchResult (λ y. pair_cmp y x) ps r → pairs_ascend ps ≡ true → is_ok r ≡ list_any (is_pair x) ps
found-pair ps x r bound h a =
    found-any (λ y. pair_cmp y x) (is_pair x) ps r (pair_cmp-is_pair x) bound h (rising-pairs ps x a)
