-- For `hints`: when the literals of a line are bad, read from the front.
use Rattle.std.proofs.Common.{◌≡◌, ℕ, ◌+◌, ◌<◌, Bool, true, false, not, ◌&&◌, ◌||◌, ◌==◌, if◌then◌else◌, nat_lt, List, [], ◌∷◌, ◌++◌, map, length, take, drop, get_or, refl, sym, ap, ◌∙◌, subst, eqb-true, eq-eqb, ⊎_elim, arith, ◌≤◌}
use Rattle.std.specs.List.{list_any}
use Rattle.std.proofs.lemmas.Bool.{or_left, or_right, or_from, or_parts, or_cases, false_from_ne_true, lt-ltb, ltb-true}
use Rattle.clause_db.specs.declared.lit.Lit.{Lit}
use Rattle.clause_db.specs.Clause.{opposite, same_lit, has_lit}
use Rattle.rup_check.specs.Follows.{has_repeat, has_bad_lits}
use Rattle.clause_db.proofs.Literals.{split-at}
use Rattle.pack_defs.proofs.Words.{eq_swap}

-- the variable is 0 or above the last
abbrev pub is_out : ℕ → Lit → Bool
is_out vars l = l.var == 0 || nat_lt vars l.var

abbrev pub is_used : List Lit → ℕ → Bool
is_used lits v = list_any (λ w. w == v) (map (λ (l : Lit). l.var) lits)

four : (a b c d x : Bool) → (a || b) ≡ x → ((a || c) || (b || d)) ≡ (x || (c || d))
four true b c d x e = ap (λ (z : Bool). z || (c || d)) e
four false true c d x e = or_right c (true || d) refl ∙ ap (λ (z : Bool). z || (c || d)) e
four false false c d x e = ap (λ (z : Bool). z || (c || d)) e

one_sign : (e a b : Bool) → ((e && (if a then not b else not (not b))) || (e && (if not a then not b else not (not b)))) ≡ e
one_sign true true true = refl
one_sign true true false = refl
one_sign true false true = refl
one_sign true false false = refl
one_sign false a b = refl

-- a variable is used if its literal or the opposite is already denied
pub used-known : (lits : List Lit) (l : Lit) → (has_lit (map opposite lits) l || has_lit (map opposite lits) (opposite l)) ≡ is_used lits l.var
used-known [] l = refl
used-known (x ∷ xs) l =
    four (same_lit l (opposite x)) (same_lit (opposite l) (opposite x)) (has_lit (map opposite xs) l) (has_lit (map opposite xs) (opposite l)) (x.var == l.var) (one_sign (l.var == x.var) l.positive x.positive ∙ eq_swap l.var x.var)
    ∙ ap (λ (z : Bool). (x.var == l.var) || z) (used-known xs l)

any-push : (p : Lit → Bool) (xs : List Lit) (x : Lit) → list_any p xs ≡ false → p x ≡ false → list_any p (xs ++ x ∷ []) ≡ false
any-push p [] x e f = or_from (p x) false f refl
any-push p (y ∷ ys) x e f = let parts = or_parts (p y) (list_any p ys) e in or_from (p y) (list_any p (ys ++ x ∷ [])) parts.0 (any-push p ys x parts.1 f)

used-push : (xs : List Lit) (l : Lit) (v : ℕ) → is_used xs v ≡ false → (l.var == v) ≡ false → is_used (xs ++ l ∷ []) v ≡ false
used-push [] l v e f = or_from (l.var == v) false f refl
used-push (x ∷ xs) l v e f = let parts = or_parts (x.var == v) (is_used xs v) e in or_from (x.var == v) (is_used (xs ++ l ∷ []) v) parts.0 (used-push xs l v parts.1 f)

repeat-push : (xs : List Lit) (l : Lit) → has_repeat (map (λ (l : Lit). l.var) xs) ≡ false → is_used xs l.var ≡ false → has_repeat (map (λ (l : Lit). l.var) (xs ++ l ∷ [])) ≡ false
repeat-push [] l e f = refl
repeat-push (x ∷ xs) l e f =
    let parts = or_parts (is_used xs x.var) (has_repeat (map (λ (l : Lit). l.var) xs)) e in
    let others = or_parts (x.var == l.var) (is_used xs l.var) f in
    or_from (is_used (xs ++ l ∷ []) x.var) (has_repeat (map (λ (l : Lit). l.var) (xs ++ l ∷ [])))
    (used-push xs l x.var parts.0 (eq_swap l.var x.var ∙ others.0))
    (repeat-push xs l parts.1 others.1)

-- one more good literal
pub good-push : (vars : ℕ) (xs : List Lit) (l : Lit) → has_bad_lits vars xs ≡ false → is_out vars l ≡ false → is_used xs l.var ≡ false → has_bad_lits vars (xs ++ l ∷ []) ≡ false
good-push vars xs l e o u =
    let parts = or_parts (list_any (is_out vars) xs) (has_repeat (map (λ (l : Lit). l.var) xs)) e in
    or_from (list_any (is_out vars) (xs ++ l ∷ [])) (has_repeat (map (λ (l : Lit). l.var) (xs ++ l ∷ []))) (any-push (is_out vars) xs l parts.0 o) (repeat-push xs l parts.1 u)

any-at : (p : Lit → Bool) (xs zs : List Lit) (x : Lit) → p x ≡ true → list_any p (xs ++ x ∷ zs) ≡ true
any-at p [] zs x e = or_left (p x) (list_any p zs) e
any-at p (y ∷ ys) zs x e = or_right (p y) (list_any p (ys ++ x ∷ zs)) (any-at p ys zs x e)

used-at : (xs zs : List Lit) (l : Lit) (v : ℕ) → (l.var == v) ≡ true → is_used (xs ++ l ∷ zs) v ≡ true
used-at [] zs l v e = or_left (l.var == v) (is_used zs v) e
used-at (x ∷ xs) zs l v e = or_right (x.var == v) (is_used (xs ++ l ∷ zs) v) (used-at xs zs l v e)

repeat-at : (xs zs : List Lit) (l : Lit) → is_used xs l.var ≡ true → has_repeat (map (λ (l : Lit). l.var) (xs ++ l ∷ zs)) ≡ true
repeat-at [] zs l e = cc
repeat-at (x ∷ xs) zs l e =
    ⊎_elim
    (λ h. or_left (is_used (xs ++ l ∷ zs) x.var) (has_repeat (map (λ (l : Lit). l.var) (xs ++ l ∷ zs))) (used-at xs zs l x.var (eq_swap l.var x.var ∙ h)))
    (λ r. or_right (is_used (xs ++ l ∷ zs) x.var) (has_repeat (map (λ (l : Lit). l.var) (xs ++ l ∷ zs))) (repeat-at xs zs l r))
    (or_cases (x.var == l.var) (is_used xs l.var) e)

-- a literal out of range, or of a variable used before it, makes the list bad
pub bad-out : (vars : ℕ) (xs : List Lit) (i : ℕ) (d : Lit) → i < length xs → is_out vars (get_or xs i d) ≡ true → has_bad_lits vars xs ≡ true
bad-out vars xs i d h e =
    or_left (list_any (is_out vars) xs) (has_repeat (map (λ (l : Lit). l.var) xs))
    (subst (λ (z : List Lit). list_any (is_out vars) z ≡ true) (sym (split-at xs i d h)) (any-at (is_out vars) (take i xs) (drop (i + 1) xs) (get_or xs i d) e))

pub bad-used : (vars : ℕ) (xs : List Lit) (i : ℕ) (d : Lit) → i < length xs → is_used (take i xs) (get_or xs i d).var ≡ true → has_bad_lits vars xs ≡ true
bad-used vars xs i d h e =
    or_right (list_any (is_out vars) xs) (has_repeat (map (λ (l : Lit). l.var) xs))
    (subst (λ (z : List Lit). has_repeat (map (λ (l : Lit). l.var) z) ≡ true) (sym (split-at xs i d h)) (repeat-at (take i xs) (drop (i + 1) xs) (get_or xs i d) e))

used-either : (known lits : List Lit) (l : Lit) → known ≡ map opposite lits → (has_lit known l || has_lit known (opposite l)) ≡ is_used lits l.var
used-either known lits l e = ap (λ (z : List Lit). has_lit z l || has_lit z (opposite l)) e ∙ used-known lits l

pub used-denied : (known lits : List Lit) (l : Lit) → known ≡ map opposite lits → has_lit known l ≡ true → is_used lits l.var ≡ true
used-denied known lits l e h = sym (used-either known lits l e) ∙ or_left (has_lit known l) (has_lit known (opposite l)) h

pub used-stated : (known lits : List Lit) (l m : Lit) → known ≡ map opposite lits → m ≡ opposite l → has_lit known m ≡ true → is_used lits l.var ≡ true
used-stated known lits l m e o h = sym (used-either known lits l e) ∙ or_right (has_lit known l) (has_lit known (opposite l)) (ap (has_lit known) (sym o) ∙ h)

pub unused : (known lits : List Lit) (l m : Lit) → known ≡ map opposite lits → m ≡ opposite l → has_lit known l ≡ false → has_lit known m ≡ false → is_used lits l.var ≡ false
unused known lits l m e o h k = sym (used-either known lits l e) ∙ or_from (has_lit known l) (has_lit known (opposite l)) h (ap (has_lit known) (sym o) ∙ k)

pub out-zero : (vars : ℕ) (l : Lit) → l.var ≡ 0 → is_out vars l ≡ true
out-zero vars l e = or_left (l.var == 0) (nat_lt vars l.var) (eq-eqb l.var 0 e)

pub out-above : (vars : ℕ) (l : Lit) → vars < l.var → is_out vars l ≡ true
out-above vars l h = or_right (l.var == 0) (nat_lt vars l.var) (lt-ltb vars l.var h)

pub in-range : (vars : ℕ) (l : Lit) → (l.var ≡ 0 → ⊥) → l.var ≤ vars → is_out vars l ≡ false
in-range vars l n b = or_from (l.var == 0) (nat_lt vars l.var) (false_from_ne_true (l.var == 0) (λ e. n (eqb-true l.var 0 e))) (false_from_ne_true (nat_lt vars l.var) (λ e. let h = ltb-true vars l.var e in absurd (omega arith)))

pub denied-push : (xs : List Lit) (l : Lit) → map opposite (xs ++ l ∷ []) ≡ map opposite xs ++ opposite l ∷ []
denied-push [] l = refl
denied-push (x ∷ xs) l = ap (λ (z : List Lit). opposite x ∷ z) (denied-push xs l)
