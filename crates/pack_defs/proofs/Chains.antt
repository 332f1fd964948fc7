-- Chains, lists in which each element comes before the next one: what keeps a list a chain.
use Rattle.std.proofs.Common.{◌≡◌, ℕ, zero, suc, ◌<◌, Bool, true, false, cond, ◌&&◌, nat_lt, List, [], ◌∷◌, map, drop, filter, refl, sym, ap, ◌∙◌, arith, ltb-true, lt_trans}
use Rattle.std.specs.Ordering.{is_lt}
use Rattle.std.specs.declared.cmp.Ordering.{Ordering}
use Rattle.std.specs.declared.cmp.Ordering.TheVariants.{Less, Equal, Greater}
use Rattle.std.proofs.lemmas.Bool.{and_parts, and_from, lt-ltb, false≢true}
use Rattle.std.proofs.lemmas.Bool.Decides.{nat_tests}
use Rattle.pack_defs.specs.declared.pair.Pair.{Pair}
use Rattle.pack_defs.specs.contracts.pair.PairOrd.TheImpl.Laws.{total-law}
use Rattle.pack_defs.specs.Book.{comes_before, pairs_ascend}
use Rattle.pack_defs.specs.Lists.{is_ascending}
use Rattle.pack_defs.proofs.Searches.{pair_cmp}
use Rattle.pack_defs.proofs.Words.{ascending-rest}

-- Each element comes before the next one.
abbrev pub is_chain : {X : Type 0} → (X → X → Bool) → List X → Bool
is_chain lt [] = true
is_chain lt (x ∷ []) = true
is_chain lt (x ∷ y ∷ ys) = lt x y && is_chain lt (y ∷ ys)

pub is_chain-ascending : (xs : List ℕ) → is_chain nat_lt xs ≡ is_ascending xs
is_chain-ascending [] = refl
is_chain-ascending (x ∷ []) = refl
is_chain-ascending (x ∷ y ∷ ys) = ap (λ b. nat_lt x y && b) (is_chain-ascending (y ∷ ys))

pub is_chain-pairs : (ps : List Pair) → is_chain comes_before ps ≡ pairs_ascend ps
is_chain-pairs [] = refl
is_chain-pairs (p ∷ []) = refl
is_chain-pairs (p ∷ q ∷ ps) = ap (λ b. comes_before p q && b) (is_chain-pairs (q ∷ ps))

-- The relation is transitive, as Booleans.
abbrev pub PassesAlong : {X : Type 0} → (X → X → Bool) → Type 0
PassesAlong {X} lt = (x y z : X) → lt x y ≡ true → lt y z ≡ true → lt x z ≡ true

is_chain-skip : {X : Type 0} (lt : X → X → Bool) → PassesAlong lt → (x y : X) (ys : List X) → is_chain lt (x ∷ y ∷ ys) ≡ true → is_chain lt (x ∷ ys) ≡ true
is_chain-skip lt t x y [] h = refl
is_chain-skip lt t x y (z ∷ zs) h =
    let first = and_parts (lt x y) (is_chain lt (y ∷ z ∷ zs)) h in
    let second = and_parts (lt y z) (is_chain lt (z ∷ zs)) first.1 in
    and_from (lt x z) (is_chain lt (z ∷ zs)) (t x y z first.0 second.0) second.1

is_chain-rest : {X : Type 0} (lt : X → X → Bool) (x : X) (xs : List X) → is_chain lt (x ∷ xs) ≡ true → is_chain lt xs ≡ true
is_chain-rest lt x [] h = refl
is_chain-rest lt x (y ∷ ys) h = (and_parts (lt x y) (is_chain lt (y ∷ ys)) h).1

is_chain-kept : {X : Type 0} (lt : X → X → Bool) → PassesAlong lt → (p : X → Bool) (x : X) (xs : List X) → is_chain lt (x ∷ xs) ≡ true → is_chain lt (x ∷ filter p xs) ≡ true
is_chain-kept lt t p x [] h = refl
is_chain-kept lt t p x (y ∷ ys) h =
    elim (p y) as (λ b. is_chain lt (x ∷ cond b (y ∷ filter p ys) (filter p ys)) ≡ true) [
      | true ↦
          let parts = and_parts (lt x y) (is_chain lt (y ∷ ys)) h in
          and_from (lt x y) (is_chain lt (y ∷ filter p ys)) parts.0 (is_chain-kept lt t p y ys parts.1)
      | false ↦ is_chain-kept lt t p x ys (is_chain-skip lt t x y ys h)
    ]

-- A filter of a chain is a chain.
pub is_chain-filter : {X : Type 0} (lt : X → X → Bool) → PassesAlong lt → (p : X → Bool) (xs : List X) → is_chain lt xs ≡ true → is_chain lt (filter p xs) ≡ true
is_chain-filter lt t p [] h = refl
is_chain-filter lt t p (x ∷ xs) h =
    elim (p x) as (λ b. is_chain lt (cond b (x ∷ filter p xs) (filter p xs)) ≡ true) [
      | true ↦ is_chain-kept lt t p x xs h
      | false ↦ is_chain-filter lt t p xs (is_chain-rest lt x xs h)
    ]

nat_lt-passes : PassesAlong nat_lt
nat_lt-passes x y z h k =
    let less : x < y = ltb-true x y h in
    let more : y < z = ltb-true y z k in
    lt-ltb x z (lt_trans less more)

comes_before-less : (p q : Pair) → comes_before p q ≡ is_lt (pair_cmp p q)
comes_before-less p q = grind (arith, nat_tests)

is_less : (o : Ordering) → is_lt o ≡ true → o ≡ Less
is_less Less h = refl
is_less Equal h = absurd (false≢true h)
is_less Greater h = absurd (false≢true h)

comes_before-passes : PassesAlong comes_before
comes_before-passes p q r h k =
    let first : pair_cmp p q ≡ Less = is_less (pair_cmp p q) (rw comes_before-less at h) in
    let second : pair_cmp q r ≡ Less = is_less (pair_cmp q r) (rw comes_before-less at k) in
    rw comes_before-less (ap is_lt (total-law.trans p q r first second))

pub ascending-filter : (p : ℕ → Bool) (xs : List ℕ) → is_ascending xs ≡ true → is_ascending (filter p xs) ≡ true
ascending-filter p xs h =
    sym (is_chain-ascending (filter p xs)) ∙ is_chain-filter nat_lt nat_lt-passes p xs (is_chain-ascending xs ∙ h)

pub pairs_ascend-filter : (p : Pair → Bool) (ps : List Pair) → pairs_ascend ps ≡ true → pairs_ascend (filter p ps) ≡ true
pairs_ascend-filter p ps h =
    sym (is_chain-pairs (filter p ps)) ∙ is_chain-filter comes_before comes_before-passes p ps (is_chain-pairs ps ∙ h)

-- The rest of an ascending list ascends.
pub ascending-drop : {X : Type 0} (key : X → ℕ) (n : ℕ) (xs : List X) → is_ascending (map key xs) ≡ true → is_ascending (map key (drop n xs)) ≡ true
ascending-drop key zero xs h = h
ascending-drop key (suc n) [] h = h
ascending-drop key (suc n) (x ∷ xs) h = ascending-drop key n xs (ascending-rest (key x) (map key xs) h)

-- An ascending list without its second number ascends.
pub ascending-skip : (x y : ℕ) (ys : List ℕ) → is_ascending (x ∷ y ∷ ys) ≡ true → is_ascending (x ∷ ys) ≡ true
ascending-skip x y ys h =
    sym (is_chain-ascending (x ∷ ys)) ∙ is_chain-skip nat_lt nat_lt-passes x y ys (is_chain-ascending (x ∷ y ∷ ys) ∙ h)
