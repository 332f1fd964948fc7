-- For `assignment`: entries that each assign a new variable. One more, one less, and no more than variables.
use Rattle.std.proofs.Common.{◌≡◌, ◌≢◌, ℕ, ◌-◌, ◌<◌, ◌≤◌, Bool, true, false, not, if◌then◌else◌, Some, List, [], ◌∷◌, ◌++◌, map, length, refl, sym, ap, ◌∙◌, subst, arith, append_assoc, length-append, eqb-true, inl, inr, ⊎_elim, None}
use Rattle.std.specs.List.{list_any, IsDistinct, AllByRecursion}
use Rattle.std.proofs.Math.Dec.{eqb}
use Rattle.std.proofs.lemmas.Bool.{and_from, or_cases, or_left, false_from_ne_true, false≢true}
use Rattle.std.proofs.lemmas.List.{map-append, length-map}
use Rattle.std.proofs.lemmas.Map.Steps.{length-le_from_distinct_below}
use Rattle.clause_db.specs.declared.lit.Lit.{Lit}
use Rattle.clause_db.specs.Clause.{same_lit, has_lit, pos_lit, neg_lit, opposite}
use Rattle.clause_db.specs.Clauses.{LitWithin}
use Rattle.clause_db.proofs.Literals.{has-push, has-push_new, same_lit-is, lit-parts}
use Rattle.trail_prop.specs.Open.{is_open, value_known}
use Rattle.trail_prop.specs.declared.entry.TrailEntry.{TrailEntry}
use Rattle.trail_prop.specs.Entries.{lits_of, EachOpens}
use Rattle.trail_prop.proofs.Known.{open-apart}

pub lits-push : (es : List TrailEntry) (e : TrailEntry) → lits_of (es ++ e ∷ []) ≡ lits_of es ++ e.lit ∷ []
lits-push es e = map-append (λ (x : TrailEntry). x.lit) es (e ∷ [])

pub opens-push : (vars : ℕ) (before es : List TrailEntry) (e : TrailEntry) → EachOpens vars before es → LitWithin vars e.lit → is_open (lits_of (before ++ es)) e.lit ≡ true → EachOpens vars before (es ++ e ∷ [])
opens-push vars before [] e o w f = (w, subst (λ (x : List TrailEntry). is_open (lits_of x) e.lit ≡ true) (append-nil before) f, tt)
  where
    append-nil : (xs : List TrailEntry) → xs ++ [] ≡ xs
    append-nil [] = refl
    append-nil (x ∷ xs) = ap (λ (z : List TrailEntry). x ∷ z) (append-nil xs)
opens-push vars before (x ∷ xs) e o w f = (o.0, o.1, opens-push vars (before ++ x ∷ []) xs e o.2 w (subst (λ (z : List TrailEntry). is_open (lits_of z) e.lit ≡ true) (sym (append_assoc before (x ∷ []) xs)) f))

pub opens-last : (vars : ℕ) (before es : List TrailEntry) (e : TrailEntry) → EachOpens vars before (es ++ e ∷ []) → EachOpens vars before es × (LitWithin vars e.lit) × (is_open (lits_of (before ++ es)) e.lit ≡ true)
opens-last vars before [] e o = (tt, o.0, subst (λ (x : List TrailEntry). is_open (lits_of x) e.lit ≡ true) (sym (append-nil before)) o.1)
  where
    append-nil : (xs : List TrailEntry) → xs ++ [] ≡ xs
    append-nil [] = refl
    append-nil (x ∷ xs) = ap (λ (z : List TrailEntry). x ∷ z) (append-nil xs)
opens-last vars before (x ∷ xs) e o =
    let r = opens-last vars (before ++ x ∷ []) xs e o.2 in
    let p : EachOpens vars before (x ∷ xs) = (o.0, o.1, r.0) in
    (p, r.1, subst (λ (z : List TrailEntry). is_open (lits_of z) e.lit ≡ true) (append_assoc before (x ∷ []) xs) r.2)

-- the places of the entries' variables
abbrev places : List TrailEntry → List ℕ
places es = map (λ e. e.lit.var - 1) es

apart-after : (vars : ℕ) (before es : List TrailEntry) (k : Lit) → 1 ≤ k.var → has_lit (lits_of before) k ≡ true → EachOpens vars before es → AllByRecursion (λ y. eqb (k.var - 1) y ≡ false) (places es)
apart-after vars before [] k p h o = tt
apart-after vars before (x ∷ xs) k p h o =
    let ne : k.var ≢ x.lit.var = open-apart (lits_of before) x.lit k o.1 h in
    let w : 1 ≤ x.lit.var = o.0.0 in
    let ne' : k.var - 1 ≢ x.lit.var - 1 = λ e. ne (omega arith) in (
      false_from_ne_true (eqb (k.var - 1) (x.lit.var - 1)) (λ t. ne' (eqb-true (k.var - 1) (x.lit.var - 1) t)),
      apart-after vars (before ++ x ∷ []) xs k p (ap (λ (z : List Lit). has_lit z k) (lits-push before x) ∙ (has-push (lits_of before) x.lit k ∙ or_left (has_lit (lits_of before) k) (same_lit k x.lit) h)) o.2,
    )

distinct-places : (vars : ℕ) (before es : List TrailEntry) → EachOpens vars before es → IsDistinct eqb (places es)
unfolding IsDistinct
distinct-places vars before [] o = tt
distinct-places vars before (x ∷ xs) o = (
  apart-after vars (before ++ x ∷ []) xs x.lit o.0.0 (ap (λ (z : List Lit). has_lit z x.lit) (lits-push before x) ∙ has-push_new (lits_of before) x.lit) o.2,
  distinct-places vars (before ++ x ∷ []) xs o.2,
)

places-below : (vars : ℕ) (before es : List TrailEntry) (q : ℕ) → EachOpens vars before es → list_any (eqb q) (places es) ≡ true → q < vars
places-below vars before [] q o h = absurd (false≢true h)
places-below vars before (x ∷ xs) q o h =
    ⊎_elim
    (λ (s : eqb q (x.lit.var - 1) ≡ true). let e : q ≡ x.lit.var - 1 = eqb-true q (x.lit.var - 1) s in let w : 1 ≤ x.lit.var = o.0.0 in let v : x.lit.var ≤ vars = o.0.1 in omega arith)
    (λ r. places-below vars (before ++ x ∷ []) xs q o.2 r)
    (or_cases (eqb q (x.lit.var - 1)) (list_any (eqb q) (places xs)) h)

pub no-more-than-vars : (vars : ℕ) (es : List TrailEntry) → EachOpens vars [] es → length es ≤ vars
no-more-than-vars vars es o =
    let n = length-le_from_distinct_below (places es) vars (distinct-places vars [] es o) (λ q h. places-below vars [] es q o h) in
    subst (λ (z : ℕ). z ≤ vars) (length-map es (λ (e : TrailEntry). e.lit.var - 1)) n

-- while a variable has no value, there are fewer entries than variables
pub room-for-one : (vars : ℕ) (es : List TrailEntry) (e : TrailEntry) → EachOpens vars [] es → LitWithin vars e.lit → is_open (lits_of es) e.lit ≡ true → length es < vars
room-for-one vars es e o w f =
    let n = no-more-than-vars vars (es ++ e ∷ []) (opens-push vars [] es e o w f) in
    let l = length-append es (e ∷ []) in
    omega arith

pub known-within : (vars : ℕ) (before es : List TrailEntry) (l : Lit) → EachOpens vars before es → has_lit (lits_of es) l ≡ true → LitWithin vars l
known-within vars before [] l o h = absurd (false≢true h)
known-within vars before (x ∷ xs) l o h =
    elim (or_cases (same_lit l x.lit) (has_lit (lits_of xs) l) h) [
      | inl s ↦ subst (λ (z : Lit). LitWithin vars z) (sym (same_lit-is l x.lit s)) o.0
      | inr r ↦ known-within vars (before ++ x ∷ []) xs l o.2 r
    ]

-- nothing is known of a number that is not a variable's
pub no-value : (vars : ℕ) (es : List TrailEntry) (v : ℕ) → EachOpens vars [] es → ((1 ≤ v) → v ≤ vars → ⊥) → value_known (lits_of es) v ≡ None
no-value vars es v o n =
    let p : has_lit (lits_of es) (pos_lit v) ≡ false = false_from_ne_true (has_lit (lits_of es) (pos_lit v)) (λ h. let w = known-within vars [] es (pos_lit v) o h in n w.0 w.1) in
    let q : has_lit (lits_of es) (neg_lit v) ≡ false = false_from_ne_true (has_lit (lits_of es) (neg_lit v)) (λ h. let w = known-within vars [] es (neg_lit v) o h in n w.0 w.1) in
    rw (p, q) refl

-- a variable without a value is in neither literal
pub none-opens : (known : List Lit) (l : Lit) → value_known known l.var ≡ None → is_open known l ≡ true
none-opens known l e = parts (has_lit known (pos_lit l.var)) (has_lit known (neg_lit l.var)) refl refl e l.positive refl
  where
    both-unknown : has_lit known l ≡ false → has_lit known (opposite l) ≡ false → is_open known l ≡ true
    both-unknown p q = and_from (not (has_lit known l)) (not (has_lit known (opposite l))) (ap not p) (ap not q)

    parts : (a b : Bool) → has_lit known (pos_lit l.var) ≡ a → has_lit known (neg_lit l.var) ≡ b → (if a then Some true else (if b then Some false else None)) ≡ None → (s : Bool) → l.positive ≡ s → is_open known l ≡ true
    parts true b p q e s r = cc
    parts false true p q e s r = cc
    parts false false p q e true r =
        let same : l ≡ pos_lit l.var = lit-parts l (pos_lit l.var) refl r in
        let other : opposite l ≡ neg_lit l.var = lit-parts (opposite l) (neg_lit l.var) refl (ap not r) in
        both-unknown (ap (λ (z : Lit). has_lit known z) same ∙ p) (ap (λ (z : Lit). has_lit known z) other ∙ q)
    parts false false p q e false r =
        let same : l ≡ neg_lit l.var = lit-parts l (neg_lit l.var) refl r in
        let other : opposite l ≡ pos_lit l.var = lit-parts (opposite l) (pos_lit l.var) refl (ap not r) in
        both-unknown (ap (λ (z : Lit). has_lit known z) same ∙ q) (ap (λ (z : Lit). has_lit known z) other ∙ p)
