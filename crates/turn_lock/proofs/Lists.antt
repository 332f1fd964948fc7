-- Lists of views and of entries.
use Rattle.std.proofs.Common.{◌≡◌, ◌≢◌, ◌∙◌, ℕ, ◌+◌, ◌%◌, ◌^◌, ◌<◌, ◌≤◌, ◌⊎◌, List, [], ◌∷◌, ◌++◌, length, map, take, drop, set, Option, Some, None, refl, sym, ap, arith, inl, inr, ⊎_elim, zero, suc, ne_eqb, eq-eqb, subst, ◌==◌, append_assoc}
use Rattle.std.proofs.lemmas.Bool.{cases_Bool}
use mathlib.Core.Option.{some, some-injective, some-ne-none}
use Rattle.std.specs.Option.{IsSome}
use Rattle.std.specs.Prelude.{unwrap_or}
use lib.ListN.{get_elem?}
use Rattle.std.proofs.Math.Seq.{drop-append_seam, take-append_seam}
use Rattle.atomic_table.proofs.Lists.{at_set}
use Rattle.turn_lock.specs.declared.chronicle.View.{View}
use Rattle.turn_lock.specs.declared.chronicle.PassKnowledge.{PassKnowledge}
use Rattle.turn_lock.specs.Turns.{AllOf, IsLegalFor, StartsWith, by, last, one_if, waiting_in}

pub some_is : {A : Type 0} {a b : A} → Some a ≡ Some b → a ≡ b
some_is e = cc

pub none_is : {A : Type 0} {a : A} → ◌≡◌ {A = Option A} None (Some a) → ⊥
none_is e = cc

one_le : {X : Type 0} (o : Option X) → one_if o ≤ 1
one_le None = omega arith
one_le (Some x) = omega arith

pub waiting_set : {B E : Type 0} (vs : List (View B E)) (i : ℕ) (v w : View B E) → get_elem? vs i ≡ some v → waiting_in (set vs i w) + one_if v.ticket ≡ waiting_in vs + one_if w.ticket
waiting_set [] i v w e = absurd (some-ne-none v (sym e))
waiting_set (x ∷ vs) zero v w e = let same : one_if x.ticket ≡ one_if v.ticket = ap (λ (y : View _ _). one_if y.ticket) (some-injective x v e) in omega arith
waiting_set (x ∷ vs) (suc i) v w e = let h = waiting_set vs i v w e in omega arith

pub waiting_le : {B E : Type 0} (vs : List (View B E)) → waiting_in vs ≤ length vs
waiting_le [] = omega arith
waiting_le (v ∷ vs) = let rest = waiting_le vs in let one = one_le v.ticket in omega arith

pub waiting_more : {B E : Type 0} (vs : List (View B E)) (w : View B E) → waiting_in (vs ++ w ∷ []) ≡ waiting_in vs + one_if w.ticket
waiting_more [] w = omega arith
waiting_more (v ∷ vs) w = let h = waiting_more vs w in omega arith

pub inside : {A : Type 0} (l : List A) (i : ℕ) (a : A) → get_elem? l i ≡ some a → i < length l
inside [] i a e = absurd (some-ne-none a (sym e))
inside (x ∷ l) zero a e = omega arith
inside (x ∷ l) (suc i) a e = let h = inside l i a e in omega arith

pub one_slot : {A : Type 0} (l : List A) (a : A) → length l ≡ 1 → set l 0 a ≡ a ∷ []
one_slot [] a e = absurd (omega arith)
one_slot (x ∷ []) a e = refl
one_slot (x ∷ y ∷ l) a e = absurd (omega arith)

-- an element of a list with one more: an old element, or the new one at the end
pub at_more : {A : Type 0} (l : List A) (a b : A) (j : ℕ) → get_elem? (l ++ a ∷ []) j ≡ some b → (get_elem? l j ≡ some b) ⊎ ((j ≡ length l) × (a ≡ b))
at_more [] a b zero e = inr (refl, some-injective a b e)
at_more [] a b (suc j) e = absurd (some-ne-none b (sym e))
at_more (x ∷ l) a b zero e = inl e
at_more (x ∷ l) a b (suc j) e = ⊎_elim inl (λ t. inr (ap suc t.0, t.1)) (at_more l a b j e)

-- a fact that holds of the changed element and of each other one holds of each
pub each_set : {A : Type 0} (Q : ℕ → A → Type 0) (l : List A) (i : ℕ) (w : A) → Q i w → ((j : ℕ) (a : A) → j ≢ i → get_elem? l j ≡ some a → Q j a) → (j : ℕ) (a : A) → get_elem? (set l i w) j ≡ some a → Q j a
each_set {A} Q l i w own others j a e = ⊎_elim
    (λ (t : (j ≡ i) × (w ≡ a)). subst (λ (x : ℕ × A). Q x.0 x.1) (λ k. (sym t.0 k, t.1 k)) own)
    (λ (t : (j ≢ i) × (get_elem? l j ≡ some a)). others j a t.0 t.1)
    (at_set l i j w a e)

pub mod_more : (n : ℕ) → (n % 2 ^ 64 + 1) % 2 ^ 64 ≡ (n + 1) % 2 ^ 64
mod_more n = omega arith

pub all_map : {X : Type 0} {P Q : X → Type 0} → ((x : X) → P x → Q x) → (xs : List X) → AllOf P xs → AllOf Q xs
all_map f [] h = tt
all_map f (x ∷ xs) h = (f x h.0, all_map f xs h.1)

pub all_more : {X : Type 0} (P : X → Type 0) (xs ys : List X) → AllOf P xs → AllOf P ys → AllOf P (xs ++ ys)
all_more P [] ys h g = g
all_more P (x ∷ xs) ys h g = (h.0, all_more P xs ys h.1 g)

pub by_more : {E : Type 0} (n : ℕ) (es : List (ℕ × E)) (e : ℕ × E) → e.0 ≡ n → by n (es ++ e ∷ []) ≡ by n es ++ e ∷ []
by_more n [] e is = rw (eq-eqb e.0 n is) refl
by_more n (x ∷ es) e is = elim (cases_Bool (x.0 == n)) [
  | inl t ↦ rw t (ap (λ l. x ∷ l) (by_more n es e is))
  | inr f ↦ rw f (by_more n es e is)
]

pub by_other : {E : Type 0} (n : ℕ) (es : List (ℕ × E)) (e : ℕ × E) → e.0 ≢ n → by n (es ++ e ∷ []) ≡ by n es
by_other n [] e is = rw (ne_eqb e.0 n is) refl
by_other n (x ∷ es) e is = elim (cases_Bool (x.0 == n)) [
  | inl t ↦ rw t (ap (λ l. x ∷ l) (by_other n es e is))
  | inr f ↦ rw f (by_other n es e is)
]

pub by_none : {E : Type 0} (n : ℕ) (es : List (ℕ × E)) → AllOf (λ e. e.0 < n) es → by n es ≡ []
by_none n [] h = refl
by_none n (x ∷ es) h = let below : x.0 < n = h.0 in rw (ne_eqb x.0 n (λ e. absurd (omega arith))) (by_none n es h.1)

last_more : {X : Type 0} (x y : X) (ys : List X) → last (x ∷ (ys ++ y ∷ [])) ≡ last (ys ++ y ∷ [])
last_more x y [] = refl
last_more x y (z ∷ ys) = refl

pub last_of : {X : Type 0} (xs : List X) (e : X) → last (xs ++ e ∷ []) ≡ Some e
last_of [] e = refl
last_of (x ∷ xs) e = last_more x e xs ∙ last_of xs e

pub some_of : {X : Type 0} (o : Option X) → IsSome o → (x : X) × (o ≡ Some x)
some_of None h = cc h
some_of (Some x) h = (x, refl)

pub heads : {X : Type 0} {a b : X} {x y : List X} → a ∷ x ≡ b ∷ y → a ≡ b
heads e = cc

abbrev pub second : {A B : Type 0} → A × B → B
second p = p.1

pub some_or : (o : Option ℕ) → IsSome o → o ≡ Some (unwrap_or o 0)
some_or None h = cc h
some_or (Some x) h = refl

pub length_map : {X Y : Type 0} (f : X → Y) (xs : List X) → length (map f xs) ≡ length xs
length_map f [] = refl
length_map f (x ∷ xs) = ap suc (length_map f xs)

abbrev pub numbered : {E : Type 0} → PassKnowledge E → ℕ
numbered k = k.number

-- the last element moves to the front
pub last_first : {A : Type 0} (xs : List A) (x : A) (n : ℕ) → n ≡ length xs → drop n (xs ++ x ∷ []) ++ take n (xs ++ x ∷ []) ≡ x ∷ xs
last_first xs x n is = rw (is, drop-append_seam xs (x ∷ []), take-append_seam xs (x ∷ [])) refl

pub map_more : {A B : Type 0} (f : A → B) (xs : List A) (x : A) → map f (xs ++ x ∷ []) ≡ map f xs ++ f x ∷ []
map_more f [] x = refl
map_more f (y ∷ ys) x = ap (λ l. f y ∷ l) (map_more f ys x)

pub length_more : {A : Type 0} (xs : List A) (x : A) → length (xs ++ x ∷ []) ≡ suc (length xs)
length_more [] x = refl
length_more (y ∷ ys) x = ap suc (length_more ys x)

-- one more entry of the pass's own
pub legal_more : {E : Type 0} (start : List (ℕ × E)) (k j : PassKnowledge E) (e : ℕ × E) → e.0 ≡ k.number → j.number ≡ k.number → j.seen ≡ k.seen ++ e ∷ [] → j.mine ≡ k.mine ++ e ∷ [] → IsLegalFor start k → IsLegalFor start j
legal_more start k j e its same seen mine h = record {
  tail = h.tail ++ e ∷ [];
  knows_seen = seen ∙ (ap (λ l. l ++ e ∷ []) h.knows_seen ∙ append_assoc start h.tail (e ∷ []));
  knows_mine = ap (λ n. by n (h.tail ++ e ∷ [])) same ∙ (by_more k.number h.tail e its ∙ (ap (λ l. l ++ e ∷ []) h.knows_mine ∙ sym mine));
}

-- a list with one more entry still begins the same way
pub starts_more : {X : Type 0} (old seen new : List X) (e : X) → StartsWith seen old → new ≡ seen ++ e ∷ [] → StartsWith new old
starts_more old seen new e begins is = (begins.0 ++ e ∷ [], is ∙ (ap (λ l. l ++ e ∷ []) begins.1 ∙ append_assoc old begins.0 (e ∷ [])))
