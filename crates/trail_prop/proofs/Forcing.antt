-- When a clause is settled, is false or forces a literal.
use Rattle.std.proofs.Common.{◌≡◌, ℕ, ◌+◌, ◌<◌, Bool, true, false, not, cond, if◌then◌else◌, List, [], ◌∷◌, ◌++◌, Option, Some, None, length, get_or, take, drop, refl, sym, ap, ◌∙◌, subst, option_to_list}
use Rattle.std.specs.List.{All}
use Rattle.std.proofs.lemmas.Bool.{and_from, cond-true, and_right, and_left}
use Rattle.std.proofs.lemmas.List.Elements.{filter-append, All-filter, All-head}
use Rattle.clause_db.specs.declared.lit.Lit.{Lit}
use Rattle.clause_db.specs.Clause.{opposite, has_lit}
use Rattle.clause_db.specs.Clauses.{LitWithin}
use Rattle.clause_db.specs.Forced.{is_false_clause, not_false, only_open, forced_by}
use Rattle.trail_prop.specs.Open.{LitsWithin, is_open, IsClauseSettled}
use Rattle.clause_db.proofs.Literals.{open-kept, split-at}

none_kept : (b : Bool) (l : Lit) (rest : List Lit) → cond (not b) (l ∷ rest) rest ≡ [] → (b ≡ true) × (rest ≡ [])
none_kept true l rest e = (refl, e)
none_kept false l rest e = cc

pub false-from-none : (known clause : List Lit) → not_false known clause ≡ [] → is_false_clause known clause ≡ true
false-from-none known [] e = refl
false-from-none known (l ∷ ls) e =
    let r = none_kept (has_lit known (opposite l)) l (not_false known ls) e in
    and_from (has_lit known (opposite l)) (is_false_clause known ls) r.0 (false-from-none known ls r.1)

pub not-false-part : (known xs zs : List Lit) (l : Lit) → has_lit known (opposite l) ≡ false → is_false_clause known (xs ++ l ∷ zs) ≡ false
not-false-part known [] zs l e = and_left (has_lit known (opposite l)) (is_false_clause known zs) e
not-false-part known (x ∷ xs) zs l e = and_right (has_lit known (opposite x)) (is_false_clause known (xs ++ l ∷ zs)) (not-false-part known xs zs l e)

pub only_open-true : (known rest : List Lit) (l : Lit) → has_lit known l ≡ true → only_open known (l ∷ rest) ≡ None
only_open-true known [] l h = cond-true (has_lit known l) None (Some l) h
only_open-true known (r ∷ rs) l h = refl

two-open : (known rest : List Lit) (o : Option Lit) (l : Lit) → (o ≡ None → has_lit known l ≡ true) → only_open known (option_to_list o ++ l ∷ rest) ≡ None
two-open known rest None l f = only_open-true known rest l (f refl)
two-open known rest (Some x) l f = refl

pub settled-at : (known xs zs : List Lit) (o : Option Lit) (l : Lit) → not_false known xs ≡ option_to_list o → has_lit known (opposite l) ≡ false → (o ≡ None → has_lit known l ≡ true) → IsClauseSettled known (xs ++ l ∷ zs)
settled-at known xs zs o l k e f = (
  not-false-part known xs zs l e,
  ap (λ (z : List Lit). only_open known z) (filter-append (λ (m : Lit). not (has_lit known (opposite m))) xs (l ∷ zs) ∙ ((λ i. k i ++ open-kept known zs l e i))) ∙ two-open known (not_false known zs) o l f,
)

pub settled-read : (known clause : List Lit) (i : ℕ) (d : Lit) (o : Option Lit) → i < length clause → not_false known (take i clause) ≡ option_to_list o → has_lit known (opposite (get_or clause i d)) ≡ false → (o ≡ None → has_lit known (get_or clause i d) ≡ true) → IsClauseSettled known clause
settled-read known clause i d o h k e f = subst (λ (z : List Lit). IsClauseSettled known z) (sym (split-at clause i d h)) (settled-at known (take i clause) (drop (i + 1) clause) o (get_or clause i d) k e f)

pub only_open-is : (known rest : List Lit) (l : Lit) → only_open known rest ≡ Some l → (rest ≡ l ∷ []) × (has_lit known l ≡ false)
only_open-is known [] l e = cc
only_open-is known (x ∷ []) l e = one (has_lit known x) refl e
  where
    one : (b : Bool) → has_lit known x ≡ b → (if b then None else Some x) ≡ Some l → ((x ∷ []) ≡ l ∷ []) × (has_lit known l ≡ false)
    one true h e = cc
    one false h e = let same : x ≡ l = cc in (ap (λ (z : Lit). z ∷ []) same, subst (λ (z : Lit). has_lit known z ≡ false) same h)
only_open-is known (x ∷ y ∷ ys) l e = cc

filter-passes-one : (known clause : List Lit) (l : Lit) → not_false known clause ≡ l ∷ [] → has_lit known (opposite l) ≡ false
filter-passes-one known [] l e = cc
filter-passes-one known (x ∷ xs) l e = step (has_lit known (opposite x)) refl (filter-passes-one known xs l) e
  where
    step : (b : Bool) → has_lit known (opposite x) ≡ b → (not_false known xs ≡ l ∷ [] → has_lit known (opposite l) ≡ false) → cond (not b) (x ∷ not_false known xs) (not_false known xs) ≡ l ∷ [] → has_lit known (opposite l) ≡ false
    step true h f e = f e
    step false h f e = let same : x ≡ l = cc in subst (λ (z : Lit). has_lit known (opposite z) ≡ false) same h

-- a forced literal has no value
pub forced-open : (known clause : List Lit) (l : Lit) → forced_by known clause ≡ Some l → is_open known l ≡ true
forced-open known clause l e =
    let r = only_open-is known (not_false known clause) l e in
    and_from (not (has_lit known l)) (not (has_lit known (opposite l))) (ap not r.1) (ap not (filter-passes-one known clause l r.0))

-- and is a literal of the clause
pub forced-within : (vars : ℕ) (known clause : List Lit) (l : Lit) → LitsWithin vars clause → forced_by known clause ≡ Some l → LitWithin vars l
forced-within vars known clause l w e =
    let r = only_open-is known (not_false known clause) l e in
    let a : All (LitWithin vars) (not_false known clause) = All-filter (λ (m : Lit). not (has_lit known (opposite m))) (LitWithin vars) clause w in
    let b : All (LitWithin vars) (l ∷ []) = subst (λ (z : List Lit). All (LitWithin vars) z) r.0 a in
    All-head (LitWithin vars) l [] b
