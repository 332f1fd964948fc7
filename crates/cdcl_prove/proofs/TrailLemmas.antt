-- For `analysis`: the entries of a trail by their places, and the clauses that they name.
use Rattle.std.proofs.Common.{◌≡◌, ◌≢◌, ℕ, ◌-◌, ◌<◌, ◌≤◌, Bool, true, false, not, cond, ◌==◌, if◌then◌else◌, List, [], ◌∷◌, ◌++◌, Option, Some, None, length, get_or, take, refl, sym, ap, ◌∙◌, subst, arith, append_assoc, zero, suc, eqb-true}
use Rattle.std.specs.List.{All}
use Rattle.std.proofs.lemmas.Bool.{and_parts}
use Rattle.std.proofs.lemmas.List.Elements.{All-nil, All-cons, All-head, All-tail}
use Rattle.clause_db.specs.declared.lit.Lit.{Lit}
use Rattle.clause_db.specs.Clause.{opposite, has_lit, clause_at}
use Rattle.clause_db.specs.Clauses.{Clauses, LitWithin}
use Rattle.clause_db.specs.Forced.{is_false_clause, not_false, forced_by}
use Rattle.clause_db.proofs.Literals.{has-push_new}
use Rattle.trail_prop.specs.declared.entry.TrailEntry.{TrailEntry}
use Rattle.trail_prop.specs.Open.{LitsWithin}
use Rattle.trail_prop.specs.Entries.{lits_of, EachOpens}
use Rattle.trail_prop.specs.Trails.{EntryFits, EachFits, IsTrail, HasReason, forced_at, IsFalseAt}
use Rattle.trail_prop.proofs.Known.{open-apart}
use Rattle.trail_prop.proofs.Forcing.{only_open-is}
use Rattle.trail_prop.proofs.Opening.{lits-push, known-within}
use Rattle.trail_prop.proofs.Trailing.{fits-opens}
use Rattle.cdcl_prove.proofs.Following.{append-nil}
use Rattle.trail_prop.proofs.Meeting.{known-more}

-- the entry at a place fits after those before it
pub fits-at : (c : Clauses) (before es : List TrailEntry) (at : ℕ) (d : TrailEntry) → EachFits c before es → at < length es → EntryFits c (before ++ take at es) (get_or es at d)
fits-at c before [] at d f l = absurd (omega arith)
fits-at c before (x ∷ xs) zero d f l = subst (λ (z : List TrailEntry). EntryFits c z x) (sym (append-nil before)) f.0
fits-at c before (x ∷ xs) (suc k) d f l = subst (λ (z : List TrailEntry). EntryFits c z (get_or xs k d)) (append_assoc before (x ∷ []) (take k xs)) (fits-at c (before ++ x ∷ []) xs k d f.1 (omega arith))

pub each-within : (c : Clauses) (before es : List TrailEntry) → EachFits c before es → All (λ (e : TrailEntry). LitWithin c.vars e.lit) es
each-within c before [] f = All-nil (λ (e : TrailEntry). LitWithin c.vars e.lit)
each-within c before (x ∷ xs) f = All-cons (λ (e : TrailEntry). LitWithin c.vars e.lit) x xs f.0.within (each-within c (before ++ x ∷ []) xs f.1)

-- a variable of an earlier entry is at no later place
apart-at : (c : Clauses) (before es : List TrailEntry) (k : Lit) (at : ℕ) (d : TrailEntry) → has_lit (lits_of before) k ≡ true → EachFits c before es → at < length es → (get_or es at d).lit.var ≢ k.var
apart-at c before [] k at d h f l = absurd (omega arith)
apart-at c before (x ∷ xs) k zero d h f l = λ e. open-apart (lits_of before) x.lit k f.0.opens h (sym e)
apart-at c before (x ∷ xs) k (suc n) d h f l = apart-at c (before ++ x ∷ []) xs k n d (known-more before (x ∷ []) k h) f.1 (omega arith)

known-here : (before : List TrailEntry) (x : TrailEntry) → has_lit (lits_of (before ++ x ∷ [])) x.lit ≡ true
known-here before x = ap (λ (z : List Lit). has_lit z x.lit) (lits-push before x) ∙ has-push_new (lits_of before) x.lit

-- two entries of one variable are the same
pub same-entry : (c : Clauses) (before es : List TrailEntry) (i j : ℕ) (d : TrailEntry) → EachFits c before es → i < length es → j < length es → (get_or es i d).lit.var ≡ (get_or es j d).lit.var → get_or es i d ≡ get_or es j d
same-entry c before [] i j d f l m e = absurd (omega arith)
same-entry c before (x ∷ xs) zero zero d f l m e = refl
same-entry c before (x ∷ xs) zero (suc j) d f l m e = absurd (apart-at c (before ++ x ∷ []) xs x.lit j d (known-here before x) f.1 (omega arith) (sym e))
same-entry c before (x ∷ xs) (suc i) zero d f l m e = absurd (apart-at c (before ++ x ∷ []) xs x.lit i d (known-here before x) f.1 (omega arith) e)
same-entry c before (x ∷ xs) (suc i) (suc j) d f l m e = same-entry c (before ++ x ∷ []) xs i j d f.1 (omega arith) (omega arith) e

-- ---- clauses that entries name

-- a clause in the list has a number from 1 to the length of the list
pub number-within : (clauses : List (List Lit)) (n : ℕ) (clause : List Lit) → clause_at clauses n ≡ Some clause → (1 ≤ n) × (n ≤ length clauses)
number-within [] n clause e = cc
number-within (d ∷ ds) n clause e = step (n == 1) refl (number-within ds (n - 1) clause) e
  where
    step : (b : Bool) → (n == 1) ≡ b → (clause_at ds (n - 1) ≡ Some clause → (1 ≤ n - 1) × (n - 1 ≤ length ds)) → (if b then Some d else clause_at ds (n - 1)) ≡ Some clause → (1 ≤ n) × (n ≤ length (d ∷ ds))
    step true t f e = let one : n ≡ 1 = eqb-true n 1 t in (omega arith, omega arith)
    step false t f e = let r = f e in (omega arith, omega arith)

pub false-number : (known : List Lit) (clauses : List (List Lit)) (n : ℕ) → IsFalseAt known (clause_at clauses n) → (1 ≤ n) × (n ≤ length clauses)
false-number known clauses n f = step (clause_at clauses n) refl f
  where
    step : (o : Option (List Lit)) → clause_at clauses n ≡ o → IsFalseAt known o → (1 ≤ n) × (n ≤ length clauses)
    step None e f = absurd f
    step (Some clause) e f = number-within clauses n clause e

forcing-number : (known : List Lit) (clauses : List (List Lit)) (n : ℕ) (l : Lit) → forced_at known (clause_at clauses n) ≡ Some l → (1 ≤ n) × (n ≤ length clauses)
forcing-number known clauses n l f = step (clause_at clauses n) refl f
  where
    step : (o : Option (List Lit)) → clause_at clauses n ≡ o → forced_at known o ≡ Some l → (1 ≤ n) × (n ≤ length clauses)
    step None e f = cc
    step (Some clause) e f = number-within clauses n clause e

-- the literals of a false clause are of the trail's variables
pub false-within : (c : Clauses) (es : List TrailEntry) (clause : List Lit) → IsTrail c es → is_false_clause (lits_of es) clause ≡ true → LitsWithin c.vars clause
false-within c es [] t f = All-nil (LitWithin c.vars)
false-within c es (l ∷ ls) t f =
    let parts = and_parts (has_lit (lits_of es) (opposite l)) (is_false_clause (lits_of es) ls) f in
    All-cons (LitWithin c.vars) l ls (known-within c.vars [] es (opposite l) (fits-opens c [] es t) parts.0) (false-within c es ls t parts.1)

pub false-within_at : (c : Clauses) (es : List TrailEntry) (o : Option (List Lit)) (clause : List Lit) → IsTrail c es → o ≡ Some clause → IsFalseAt (lits_of es) o → LitsWithin c.vars clause
false-within_at c es o clause t e f = false-within c es clause t (subst (λ (z : Option (List Lit)). IsFalseAt (lits_of es) z) e f)

opens-take : (c : Clauses) (before es : List TrailEntry) (at : ℕ) → EachFits c before es → EachOpens c.vars before (take at es)
opens-take c before es zero f = tt
opens-take c before [] (suc k) f = tt
opens-take c before (x ∷ xs) (suc k) f = (f.0.within, f.0.opens, opens-take c (before ++ x ∷ []) xs k f.1)

-- a clause has only variables of the trail if all literals are false except some of these variables
mostly-within : (c : Clauses) (es : List TrailEntry) (clause : List Lit) → EachOpens c.vars [] es → LitsWithin c.vars (not_false (lits_of es) clause) → LitsWithin c.vars clause
mostly-within c es [] t w = w
mostly-within c es (l ∷ ls) t w = step (has_lit (lits_of es) (opposite l)) refl w (mostly-within c es ls t)
  where
    step : (b : Bool) → has_lit (lits_of es) (opposite l) ≡ b → LitsWithin c.vars (cond (not b) (l ∷ not_false (lits_of es) ls) (not_false (lits_of es) ls)) → (LitsWithin c.vars (not_false (lits_of es) ls) → LitsWithin c.vars ls) → LitsWithin c.vars (l ∷ ls)
    step true h w f = All-cons (LitWithin c.vars) l ls (known-within c.vars [] es (opposite l) t h) (f w)
    step false h w f = All-cons (LitWithin c.vars) l ls (All-head (LitWithin c.vars) l (not_false (lits_of es) ls) w) (f (All-tail (LitWithin c.vars) l (not_false (lits_of es) ls) w))

-- what forced the entry at a place
forced-here : (c : Clauses) (es : List TrailEntry) (at n : ℕ) (d : TrailEntry) → IsTrail c es → at < length es → (get_or es at d).reason ≡ Some n → forced_at (lits_of (take at es)) (clause_at c.list n) ≡ Some (get_or es at d).lit
forced-here c es at n d t l r = subst (λ (z : Option ℕ). HasReason c.list (lits_of (take at es)) (get_or es at d).lit z) r (fits-at c [] es at d t l).reasons

pub reason-number : (c : Clauses) (es : List TrailEntry) (at n : ℕ) (d : TrailEntry) → IsTrail c es → at < length es → (get_or es at d).reason ≡ Some n → (1 ≤ n) × (n ≤ length c.list)
reason-number c es at n d t l r = forcing-number (lits_of (take at es)) c.list n (get_or es at d).lit (forced-here c es at n d t l r)

-- the literals of a reason are of the trail's variables
pub reason-within : (c : Clauses) (es : List TrailEntry) (at n : ℕ) (d : TrailEntry) (clause : List Lit) → IsTrail c es → at < length es → (get_or es at d).reason ≡ Some n → clause_at c.list n ≡ Some clause → LitsWithin c.vars clause
reason-within c es at n d clause t l r k =
    let by : forced_by (lits_of (take at es)) clause ≡ Some (get_or es at d).lit = subst (λ (z : Option (List Lit)). forced_at (lits_of (take at es)) z ≡ Some (get_or es at d).lit) k (forced-here c es at n d t l r) in
    let only = only_open-is (lits_of (take at es)) (not_false (lits_of (take at es)) clause) (get_or es at d).lit by in
    mostly-within c (take at es) clause (opens-take c [] es at t)
    (subst (λ (z : List Lit). LitsWithin c.vars z) (sym only.0) (All-cons (LitWithin c.vars) (get_or es at d).lit [] (fits-at c [] es at d t l).within (All-nil (LitWithin c.vars))))
