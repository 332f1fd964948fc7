-- The entries of a closed lock's history, weighed: each belongs to one pass, once. For `close`.
use Rattle.std.proofs.Common.{◌≡◌, ◌≢◌, ◌∙◌, ◌<◌, ◌≤◌, ◌+◌, ◌==◌, ℕ, zero, suc, List, [], ◌∷◌, length, map, refl, sym, ap, subst, arith, inl, inr, ⊎_elim, eq-eqb, ne_eqb}
use Rattle.std.specs.Prelude.{if◌then◌else◌}
use Rattle.std.proofs.lemmas.Bool.{cases_Bool}
use mathlib.Core.Logic.{dite}
use native.Mathlib.Decide.{ℕ_discrete}
use Rattle.turn_lock.specs.declared.chronicle.PassKnowledge.{PassKnowledge}
use Rattle.turn_lock.specs.Turns.{AllOf, IsKnownAs, Knows, by, total_weight}
use Rattle.turn_lock.proofs.Lists.{length_map, numbered}

-- the sum of a function over the numbers below n
abbrev sum_below : ℕ → (ℕ → ℕ) → ℕ
sum_below zero f = 0
sum_below (suc n) f = sum_below n f + f n

below_zero : (n : ℕ) → sum_below n (λ p. 0) ≡ 0
below_zero zero = refl
below_zero (suc n) = let rest = below_zero n in omega arith

below_same : (n : ℕ) (f g : ℕ → ℕ) → ((p : ℕ) → f p ≡ g p) → sum_below n f ≡ sum_below n g
below_same zero f g same = refl
below_same (suc n) f g same = ap (λ k. k + f n) (below_same n f g same) ∙ ap (λ k. sum_below n g + k) (same n)

below_add : (n : ℕ) (f g : ℕ → ℕ) → sum_below n (λ p. f p + g p) ≡ sum_below n f + sum_below n g
below_add zero f g = refl
below_add (suc n) f g = let rest = below_add n f g in omega arith

-- a weight at one number, and 0 at the others
abbrev one_at : ℕ → ℕ → ℕ → ℕ
one_at m w p = if m == p then w else 0

one_here : (m w : ℕ) → one_at m w m ≡ w
one_here m w = rw (eq-eqb m m refl) refl

one_else : (m w p : ℕ) → m ≢ p → one_at m w p ≡ 0
one_else m w p other = rw (ne_eqb m p other) refl

below_none : (n m w : ℕ) → n ≤ m → sum_below n (one_at m w) ≡ 0
below_none zero m w le = refl
below_none (suc n) m w le = let rest = below_none n m w (omega arith) in let other = one_else m w n (λ e. absurd (omega arith)) in omega arith

below_one : (n m w : ℕ) → m < n → sum_below n (one_at m w) ≡ w
below_one zero m w lt = absurd (omega arith)
below_one (suc n) m w lt = dite (ℕ_discrete m n)
    (λ is. let rest = below_none n m w (omega arith) in let here : one_at m w n ≡ w = subst (λ (k : ℕ). one_at m w k ≡ w) is (one_here m w) in omega arith)
    (λ ne. let rest = below_one n m w (omega arith) in let other = one_else m w n ne in omega arith)

module _ {E : Type 0} (weight : ℕ × E → ℕ) where
  by_one : (p : ℕ) (e : ℕ × E) (es : List (ℕ × E)) → total_weight weight (by p (e ∷ es)) ≡ one_at e.0 (weight e) p + total_weight weight (by p es)
  by_one p e es = elim (cases_Bool (e.0 == p)) [
    | inl t ↦ rw t refl
    | inr f ↦ rw f (omega arith)
  ]

  -- the weight of entries whose numbers are below n, summed number by number
  by_parts : (n : ℕ) (es : List (ℕ × E)) → AllOf (λ e. e.0 < n) es → total_weight weight es ≡ sum_below n (λ p. total_weight weight (by p es))
  by_parts n [] h = sym (below_zero n)
  by_parts n (e ∷ es) h =
      let parts : ℕ → ℕ = λ p. total_weight weight (by p es) in
      let one = below_one n e.0 (weight e) h.0 in
      let split = below_same n (λ p. total_weight weight (by p (e ∷ es))) (λ p. one_at e.0 (weight e) p + parts p) (λ p. by_one p e es) ∙ below_add n (one_at e.0 (weight e)) parts in
      ap (λ k. weight e + k) (by_parts n es h.1) ∙ (ap (λ k. k + sum_below n parts) (sym one) ∙ sym split)

-- the list without the first occurrence of p
abbrev without_one : ℕ → List ℕ → List ℕ
without_one p [] = []
without_one p (x ∷ xs) = if x == p then xs else x ∷ without_one p xs

others_know : (p q x : ℕ) (xs : List ℕ) → x ≢ q → Knows q (x ∷ xs) → Knows q xs
others_know p q x xs ne h = ⊎_elim (λ e. absurd (ne e)) (λ r. r) h

one_weighs : (f : ℕ → ℕ) (p : ℕ) (ns : List ℕ) → Knows p ns → total_weight f ns ≡ f p + total_weight f (without_one p ns)
one_weighs f p [] h = absurd h
one_weighs f p (x ∷ xs) h = dite (ℕ_discrete x p)
    (λ is. rw (eq-eqb x p is) (ap (λ k. f k + total_weight f xs) is))
    (λ ne. let rest = one_weighs f p xs (others_know p p x xs ne h) in rw (ne_eqb x p ne) (omega arith))

one_shorter : (p : ℕ) (ns : List ℕ) → Knows p ns → length ns ≡ suc (length (without_one p ns))
one_shorter p [] h = absurd h
one_shorter p (x ∷ xs) h = dite (ℕ_discrete x p)
    (λ is. rw (eq-eqb x p is) refl)
    (λ ne. let rest = one_shorter p xs (others_know p p x xs ne h) in rw (ne_eqb x p ne) (ap suc rest))

others_stay : (p q : ℕ) (ns : List ℕ) → q ≢ p → Knows q ns → Knows q (without_one p ns)
others_stay p q [] ne h = absurd h
others_stay p q (x ∷ xs) ne h = dite (ℕ_discrete x p)
    (λ is. rw (eq-eqb x p is) (others_know p q x xs (λ e. ne (sym e ∙ is)) h))
    (λ other. rw (ne_eqb x p other) (⊎_elim inl (λ r. inr (others_stay p q xs ne r)) h))

-- a list of n numbers that contains every number below n
each_once : (f : ℕ → ℕ) (n : ℕ) (ns : List ℕ) → length ns ≡ n → ((p : ℕ) → p < n → Knows p ns) → total_weight f ns ≡ sum_below n f
each_once f zero [] len all = refl
each_once f zero (x ∷ xs) len all = absurd (omega arith)
each_once f (suc n) ns len all =
    let here = all n (omega arith) in
    let shorter = one_shorter n ns here in
    let first = one_weighs f n ns here in
    let rest = each_once f n (without_one n ns) (omega arith) (λ p lt. others_stay n p ns (λ e. absurd (omega arith)) (all p (omega arith))) in
    omega arith

module _ {E : Type 0} (weight : ℕ × E → ℕ) (start tail : List (ℕ × E)) where
  own_weighs : (ks : List (PassKnowledge E)) → AllOf (IsKnownAs start tail) ks → total_weight (λ p. total_weight weight (by p tail)) (map numbered ks) ≡ total_weight (λ k. total_weight weight k.mine) ks
  own_weighs [] h = refl
  own_weighs (k ∷ ks) h = ap (λ w. w + total_weight (λ p. total_weight weight (by p tail)) (map numbered ks)) (ap (total_weight weight) h.0.mine) ∙ ap (λ w. total_weight weight k.mine + w) (own_weighs ks h.1)

  -- n passes whose numbers are all those below n have made all entries after the start
  pub weighs_once : (n : ℕ) (ks : List (PassKnowledge E)) → length ks ≡ n → ((p : ℕ) → p < n → Knows p (map numbered ks)) → AllOf (λ e. e.0 < n) tail → AllOf (IsKnownAs start tail) ks → total_weight weight tail ≡ total_weight (λ k. total_weight weight k.mine) ks
  weighs_once n ks many all authors known =
      by_parts weight n tail authors ∙ (sym (each_once (λ p. total_weight weight (by p tail)) n (map numbered ks) (length_map numbered ks ∙ many) all) ∙ own_weighs ks known)
