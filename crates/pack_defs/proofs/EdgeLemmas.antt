-- The stations that interfere with a station are the other stations of its pairs.
use Rattle.std.proofs.Common.{◌≡◌, ℕ, Bool, true, false, cond, ◌==◌, ◌&&◌, ◌||◌, List, [], ◌∷◌, ◌++◌, map, filter, refl, sym, ap, ap₂, ◌∙◌}
use Rattle.std.specs.List.{list_any}
use Rattle.std.proofs.lemmas.List.Folds.{list_any-append}
use Rattle.pack_defs.specs.declared.pair.Pair.{Pair}
use Rattle.pack_defs.specs.Lists.{is_in}
use Rattle.pack_defs.proofs.BookLemmas.{list_any-or, list_any-same}
use Rattle.pack_defs.proofs.Words.{list_any-map}

-- Whether the pair has these two stations, in this order.
abbrev is_edge : ℕ → ℕ → Pair → Bool
is_edge s t p = ((p.f == s) && (p.g == t)) || ((p.f == t) && (p.g == s))

list_any-filter : {X : Type 0} (p q : X → Bool) (xs : List X) → list_any q (filter p xs) ≡ list_any (λ x. p x && q x) xs
list_any-filter p q [] = refl
list_any-filter p q (x ∷ xs) =
    elim (p x) as (λ b. list_any q (cond b (x ∷ filter p xs) (filter p xs)) ≡ ((b && q x) || list_any (λ y. p y && q y) xs)) [
      | true ↦ ap (λ b. q x || b) (list_any-filter p q xs)
      | false ↦ list_any-filter p q xs
    ]

-- The same disjunction with the stations swapped.
either_order : (fs gt gs ft : Bool) → ((gs && ft) || (fs && gt)) ≡ ((fs && gt) || (ft && gs))
either_order true true true true = refl
either_order true true true false = refl
either_order true true false true = refl
either_order true true false false = refl
either_order true false true true = refl
either_order true false true false = refl
either_order true false false true = refl
either_order true false false false = refl
either_order false gt true true = refl
either_order false gt true false = refl
either_order false gt false true = refl
either_order false gt false false = refl

-- The other stations of the pairs with this station, by one key.
other-in : (own other : Pair → ℕ) (pairs : List Pair) (s t : ℕ) → is_in (map other (filter (λ p. own p == s) pairs)) t ≡ list_any (λ p. (own p == s) && (other p == t)) pairs
other-in own other pairs s t =
    list_any-map (λ y. y == t) other (filter (λ p. own p == s) pairs) ∙ list_any-filter (λ p. own p == s) (λ p. other p == t) pairs

pub others-interfere : (pairs : List Pair) (s t : ℕ) → is_in (map (λ p. p.f) (filter (λ p. p.g == s) pairs) ++ map (λ p. p.g) (filter (λ p. p.f == s) pairs)) t ≡ list_any (is_edge s t) pairs
others-interfere pairs s t =
    list_any-append (λ y. y == t) (map (λ p. p.f) (filter (λ p. p.g == s) pairs)) (map (λ p. p.g) (filter (λ p. p.f == s) pairs))
    ∙ ap₂ (λ (b c : Bool). b || c) (other-in (λ p. p.g) (λ p. p.f) pairs s t) (other-in (λ p. p.f) (λ p. p.g) pairs s t)
    ∙ sym (list_any-or (λ p. (p.g == s) && (p.f == t)) (λ p. (p.f == s) && (p.g == t)) pairs)
    ∙ list_any-same _ (is_edge s t) (λ p. either_order (p.f == s) (p.g == t) (p.g == s) (p.f == t)) pairs
