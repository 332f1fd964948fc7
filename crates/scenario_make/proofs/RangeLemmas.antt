-- Consecutive numbers, with one more at their end.
use Rattle.std.proofs.Common.{◌≡◌, ◌∙◌, ◌+◌, ◌-◌, ◌≤◌, ◌∷◌, ◌++◌, [], ℕ, zero, suc, Bool, List, refl, sym, ap, arith, map, filter, append_assoc}
use Rattle.std.specs.List.{flat_map, range_with_len}
use Rattle.std.proofs.lemmas.Grind.{flat_map-append}
use Rattle.std.proofs.lemmas.List.{append-nil, map-append}
use Rattle.std.proofs.lemmas.List.Elements.{filter-append}

range-suc : (a n : ℕ) → range_with_len a (suc n) ≡ range_with_len a n ++ (a + n) ∷ []
range-suc a zero = let e : a ≡ a + 0 = omega arith in ap (λ k. k ∷ []) e
range-suc a (suc n) =
    let e : a + 1 + n ≡ a + suc n = omega arith in
    let rest = range-suc (a + 1) n in
    ap (λ ks. a ∷ ks) (rest ∙ ap (λ k. range_with_len (a + 1) n ++ k ∷ []) e)

pub range-more : (a n k : ℕ) → a + n ≡ k → range_with_len a (n + 1) ≡ range_with_len a n ++ k ∷ []
range-more a n k e =
    let next : n + 1 ≡ suc n = omega arith in
    rw (next, ← e) (range-suc a n)

pub map-more : {X : Type 0} (f : ℕ → X) (a n k : ℕ) → a + n ≡ k → map f (range_with_len a (n + 1)) ≡ map f (range_with_len a n) ++ f k ∷ []
map-more f a n k e = ap (map f) (range-more a n k e) ∙ map-append f (range_with_len a n) (k ∷ [])

pub flat_map-more : (f : ℕ → List ℕ) (a n k : ℕ) → a + n ≡ k → flat_map f (range_with_len a (n + 1)) ≡ flat_map f (range_with_len a n) ++ f k
flat_map-more f a n k e =
    ap (flat_map f) (range-more a n k e) ∙ (flat_map-append f (range_with_len a n) (k ∷ []) ∙ ap (λ r. flat_map f (range_with_len a n) ++ r) (append-nil (f k)))

pub filter-more : (p : ℕ → Bool) (a n k : ℕ) → a + n ≡ k → filter p (range_with_len a (n + 1)) ≡ filter p (range_with_len a n) ++ filter p (k ∷ [])
filter-more p a n k e = ap (filter p) (range-more a n k e) ∙ filter-append p (range_with_len a n) (k ∷ [])

-- a text with one more number
pub written-more : (f : ℕ → List ℕ) (a k : ℕ) (text new : List ℕ) → text ≡ flat_map f (range_with_len a k) → new ≡ text ++ f (a + k) → new ≡ flat_map f (range_with_len a (k + 1))
written-more f a k text new old more = more ∙ (ap (λ t. t ++ f (a + k)) old ∙ sym (flat_map-more f a k (a + k) refl))

-- the same after another text, by the number itself
pub behind-more : (f : ℕ → List ℕ) (a c : ℕ) (before text new : List ℕ) → a ≤ c → text ≡ before ++ flat_map f (range_with_len a (c - a)) → new ≡ text ++ f c → new ≡ before ++ flat_map f (range_with_len a (c + 1 - a))
behind-more f a c before text new least old more =
    let e : c + 1 - a ≡ c - a + 1 = omega arith in
    let k : a + (c - a) ≡ c = omega arith in
    more ∙ (ap (λ t. t ++ f c) old ∙ (append_assoc before (flat_map f (range_with_len a (c - a))) (f c)
    ∙ ap (λ t. before ++ t) (sym (flat_map-more f a (c - a) c k) ∙ ap (λ n. flat_map f (range_with_len a n)) (sym e))))
