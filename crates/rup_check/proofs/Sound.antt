-- For `laws`: a line that follows is true in every model of the clauses before it, and a log that ends with the empty line has
-- none.
use Rattle.std.proofs.Common.{◌≡◌, ℕ, ◌+◌, ◌-◌, Bool, true, false, not, cond, ◌&&◌, ◌||◌, ◌==◌, if◌then◌else◌, List, [], ◌∷◌, ◌++◌, map, Option, Some, None, Result, Ok, Err, refl, ap, ◌∙◌, subst, ⊎_elim, eqb-true}
use Rattle.std.specs.List.{list_all}
use Rattle.std.proofs.lemmas.Bool.{and_parts, and_from, or_cases, or_left, or_right, or_parts, or_from, cases_Bool}
use Rattle.std.proofs.lemmas.List.Folds.{list_all-append}
use Rattle.clause_db.specs.declared.lit.Lit.{Lit}
use Rattle.clause_db.specs.Clause.{opposite, same_lit, has_lit, is_empty_clause, clause_at, lit_holds, clause_holds, Satisfies}
use Rattle.rup_check.specs.declared.line.Line.{Line}
use Rattle.rup_check.specs.declared.error.LineErr.{LineErr}
use Rattle.rup_check.specs.declared.error.LineErr.TheVariants.{BadLits, NotFalsified}
use Rattle.rup_check.specs.declared.error.LogErr.{LogErr}
use Rattle.clause_db.specs.Forced.{not_false, only_open, forced_by}
use Rattle.rup_check.specs.Follows.{has_bad_lits, last_hint_fault, with_forced, after_hint, fault_or, hints_fault, line_or, line_fault, lines_fault, ends_empty}

-- every known literal is true
abbrev Holds : (ℕ → Bool) → List Lit → Type 0
Holds model known = list_all (lit_holds model) known ≡ true

at_head : (model : ℕ → Bool) (d c : List Lit) (o : Option (List Lit)) (b : Bool) → clause_holds model d ≡ true → (o ≡ Some c → clause_holds model c ≡ true) → (if b then Some d else o) ≡ Some c → clause_holds model c ≡ true
at_head model d c o true h k e = let same : d ≡ c = cc in subst (λ x. clause_holds model x ≡ true) same h
at_head model d c o false h k e = k e

-- a clause of the list is true in its models
pub clause_at-holds : (model : ℕ → Bool) (clauses : List (List Lit)) (n : ℕ) (c : List Lit) → Satisfies model clauses → clause_at clauses n ≡ Some c → clause_holds model c ≡ true
clause_at-holds model [] n c s e = cc
clause_at-holds model (d ∷ cs) n c s e =
    let parts = and_parts (clause_holds model d) (list_all (clause_holds model) cs) s in
    at_head model d c (clause_at cs (n - 1)) (n == 1) parts.0 (clause_at-holds model cs (n - 1) c parts.1) e

sign_same : (a b v w : Bool) → v ≡ w → (if a then b else not b) ≡ true → (if b then w else not w) ≡ true → (if a then v else not v) ≡ true
sign_same true true v w e s h = e ∙ h
sign_same false false v w e s h = ap not e ∙ h
sign_same true false v w e s h = cc
sign_same false true v w e s h = cc

same_lit-holds : (model : ℕ → Bool) (l m : Lit) → same_lit l m ≡ true → lit_holds model m ≡ true → lit_holds model l ≡ true
same_lit-holds model l m s h =
    let parts = and_parts (l.var == m.var) (if l.positive then m.positive else not m.positive) s in
    sign_same l.positive m.positive (model l.var) (model m.var) (ap model (eqb-true l.var m.var parts.0)) parts.1 h

has_lit-holds : (model : ℕ → Bool) (known : List Lit) (l : Lit) → Holds model known → has_lit known l ≡ true → lit_holds model l ≡ true
has_lit-holds model [] l k h = cc
has_lit-holds model (m ∷ ms) l k h =
    let parts = and_parts (lit_holds model m) (list_all (lit_holds model) ms) k in
    ⊎_elim (λ s. same_lit-holds model l m s parts.0) (λ r. has_lit-holds model ms l parts.1 r) (or_cases (same_lit l m) (has_lit ms l) h)

flip : (b v : Bool) → (if not b then v else not v) ≡ true → (if b then v else not v) ≡ false
flip true true e = cc
flip true false e = refl
flip false true e = refl
flip false false e = cc

opposite-false : (model : ℕ → Bool) (l : Lit) → lit_holds model (opposite l) ≡ true → lit_holds model l ≡ false
opposite-false model l h = flip l.positive (model l.var) h

known-false : (model : ℕ → Bool) (known : List Lit) (l : Lit) → Holds model known → has_lit known (opposite l) ≡ true → lit_holds model l ≡ false
known-false model known l k h = opposite-false model l (has_lit-holds model known (opposite l) k h)

kept : (model : ℕ → Bool) (l : Lit) (ls rest : List Lit) (b : Bool) → (b ≡ true → lit_holds model l ≡ false) → (lit_holds model l || clause_holds model ls) ≡ true → (clause_holds model ls ≡ true → clause_holds model rest ≡ true) → clause_holds model (cond (not b) (l ∷ rest) rest) ≡ true
kept model l ls rest true f h k =
    ⊎_elim (λ (p : lit_holds model l ≡ true). let no : lit_holds model l ≡ false = f refl in cc) k (or_cases (lit_holds model l) (clause_holds model ls) h)
kept model l ls rest false f h k =
    ⊎_elim (λ p. or_left (lit_holds model l) (clause_holds model rest) p) (λ q. or_right (lit_holds model l) (clause_holds model rest) (k q)) (or_cases (lit_holds model l) (clause_holds model ls) h)

-- a true clause has a true literal that is not known to be false
not_false-holds : (model : ℕ → Bool) (known clause : List Lit) → Holds model known → clause_holds model clause ≡ true → clause_holds model (not_false known clause) ≡ true
not_false-holds model known [] k h = h
not_false-holds model known (l ∷ ls) k h =
    kept model l ls (not_false known ls) (has_lit known (opposite l)) (known-false model known l k) h (not_false-holds model known ls k)

only_one : (model : ℕ → Bool) (l m : Lit) (b : Bool) → (if b then None else Some l) ≡ Some m → (lit_holds model l || false) ≡ true → lit_holds model m ≡ true
only_one model l m true e h = cc
only_one model l m false e h =
    let same : l ≡ m = cc in
    subst (λ x. lit_holds model x ≡ true) same (⊎_elim (λ p. p) (λ (q : false ≡ true). let r : lit_holds model l ≡ true = cc in r) (or_cases (lit_holds model l) false h))

only_open-holds : (model : ℕ → Bool) (known clause : List Lit) (m : Lit) → only_open known clause ≡ Some m → clause_holds model clause ≡ true → lit_holds model m ≡ true
only_open-holds model known [] m e h = cc
only_open-holds model known (l ∷ []) m e h = only_one model l m (has_lit known l) e h
only_open-holds model known (l ∷ k ∷ ks) m e h = cc

-- the literal that a true clause forces is true
forced-holds : (model : ℕ → Bool) (known clause : List Lit) (m : Lit) → Holds model known → clause_holds model clause ≡ true → forced_by known clause ≡ Some m → lit_holds model m ≡ true
forced-holds model known clause m k h e = only_open-holds model known (not_false known clause) m e (not_false-holds model known clause k h)

with_forced-holds : (model : ℕ → Bool) (known more : List Lit) (place : ℕ) (o : Option Lit) → Holds model known → ((m : Lit) → o ≡ Some m → lit_holds model m ≡ true) → with_forced known place o ≡ Ok more → Holds model more
with_forced-holds model known more place None k f e = cc
with_forced-holds model known more place (Some l) k f e =
    let same : (known ++ l ∷ []) ≡ more = cc in
    subst (λ x. Holds model x) same
    (list_all-append (lit_holds model) known (l ∷ []) ∙ and_from (list_all (lit_holds model) known) (lit_holds model l && true) k (and_from (lit_holds model l) true (f l refl) refl))

after_hint-holds : (model : ℕ → Bool) (known more : List Lit) (place : ℕ) (o : Option (List Lit)) → Holds model known → ((c : List Lit) → o ≡ Some c → clause_holds model c ≡ true) → after_hint known place o ≡ Ok more → Holds model more
after_hint-holds model known more place None k f e = cc
after_hint-holds model known more place (Some c) k f e =
    with_forced-holds model known more place (forced_by known c) k (λ m. forced-holds model known c m k (f c refl)) e

all-false : (model : ℕ → Bool) (known clause : List Lit) → Holds model known → list_all (λ l. has_lit known (opposite l)) clause ≡ true → clause_holds model clause ≡ false
all-false model known [] k h = refl
all-false model known (l ∷ ls) k h =
    let parts = and_parts (has_lit known (opposite l)) (list_all (λ l. has_lit known (opposite l)) ls) h in
    or_from (lit_holds model l) (clause_holds model ls) (known-false model known l k parts.0) (all-false model known ls k parts.1)

none_if : (b : Bool) (why : LineErr) → (if b then None else Some why) ≡ None → b ≡ true
none_if true why e = refl
none_if false why e = cc

end-sound : (model : ℕ → Bool) (known : List Lit) (place : ℕ) (o : Option (List Lit)) → Holds model known → ((c : List Lit) → o ≡ Some c → clause_holds model c ≡ true) → last_hint_fault known place o ≡ None → ⊥
end-sound model known place None k f e = cc
end-sound model known place (Some c) k f e =
    let yes : clause_holds model c ≡ true = f c refl in
    let no : clause_holds model c ≡ false = all-false model known c k (none_if (list_all (λ l. has_lit known (opposite l)) c) NotFalsified e) in
    cc

absurd_some : (why : LineErr) → Some why ≡ None → ⊥
absurd_some why e = cc

fault_or-sound : (r : Result (List Lit) LineErr) (rest : List Lit → Option LineErr) → ((more : List Lit) → r ≡ Ok more → rest more ≡ None → ⊥) → fault_or r rest ≡ None → ⊥
fault_or-sound (Err why) rest f e = let no : Some why ≡ None = e in absurd_some why no
fault_or-sound (Ok more) rest f e = f more refl e

-- no model makes the clauses and the known literals true if the hints have no fault
pub hints-sound : (model : ℕ → Bool) (clauses : List (List Lit)) (known : List Lit) (place : ℕ) (hints : List ℕ) → Satisfies model clauses → Holds model known → hints_fault clauses known place hints ≡ None → ⊥
hints-sound model clauses known place [] s k e = cc
hints-sound model clauses known place (h ∷ []) s k e =
    end-sound model known place (clause_at clauses h) k (λ c. clause_at-holds model clauses h c s) e
hints-sound model clauses known place (h ∷ next ∷ hints) s k e =
    fault_or-sound (after_hint known place (clause_at clauses h)) (λ more. hints_fault clauses more (place + 1) (next ∷ hints))
    (λ more is. hints-sound model clauses more (place + 1) (next ∷ hints) s (after_hint-holds model known more place (clause_at clauses h) k (λ c. clause_at-holds model clauses h c s) is)) e

sign_split : (b v : Bool) → (if b then v else not v) ≡ false → (if not b then v else not v) ≡ true
sign_split true true e = cc
sign_split true false e = refl
sign_split false true e = refl
sign_split false false e = cc

opposites-hold : (model : ℕ → Bool) (lits : List Lit) → clause_holds model lits ≡ false → Holds model (map opposite lits)
opposites-hold model [] h = refl
opposites-hold model (l ∷ ls) h =
    let parts = or_parts (lit_holds model l) (clause_holds model ls) h in
    and_from (lit_holds model (opposite l)) (list_all (lit_holds model) (map opposite ls)) (sign_split l.positive (model l.var) parts.0) (opposites-hold model ls parts.1)

no_bad : (b : Bool) (o : Option LineErr) → (if b then Some BadLits else o) ≡ None → o ≡ None
no_bad true o e = cc
no_bad false o e = e

-- a line that follows is true in every model of the clauses before it
pub line-holds : (model : ℕ → Bool) (vars : ℕ) (clauses : List (List Lit)) (line : Line) → Satisfies model clauses → line_fault vars clauses line ≡ None → clause_holds model line.lits ≡ true
unfolding line_fault
line-holds model vars clauses line s e =
    ⊎_elim (λ yes. yes) (λ no. absurd (hints-sound model clauses (map opposite line.lits) 1 line.hints s (opposites-hold model line.lits no) (no_bad (has_bad_lits vars line.lits) (hints_fault clauses (map opposite line.lits) 1 line.hints) e))) (cases_Bool (clause_holds model line.lits))

satisfies_push : (model : ℕ → Bool) (clauses : List (List Lit)) (c : List Lit) → Satisfies model clauses → clause_holds model c ≡ true → Satisfies model (clauses ++ c ∷ [])
satisfies_push model clauses c s h =
    list_all-append (clause_holds model) clauses (c ∷ []) ∙ and_from (list_all (clause_holds model) clauses) (clause_holds model c && true) s (and_from (clause_holds model c) true h refl)

all_none : (model : ℕ → Bool) (lits : List Lit) → is_empty_clause lits ≡ true → clause_holds model lits ≡ false
all_none model [] e = refl
all_none model (l ∷ ls) e = cc

ends_next : (b c : Bool) → (if b then false else c) ≡ true → c ≡ true
ends_next true c e = cc
ends_next false c e = e

line_or-parts : (place : ℕ) (o : Option LineErr) (rest : Option LogErr) → line_or place o rest ≡ None → (o ≡ None) × (rest ≡ None)
line_or-parts place (Some why) rest e = cc
line_or-parts place None rest e = (refl, e)

-- what is left after a line of a log without fault
pub lines-next : (vars : ℕ) (clauses : List (List Lit)) (place : ℕ) (line : Line) (lines : List Line) → lines_fault vars clauses place (line ∷ lines) ≡ None → (line_fault vars clauses line ≡ None) × (lines_fault vars (clauses ++ line.lits ∷ []) (place + 1) lines ≡ None)
unfolding lines_fault
lines-next vars clauses place line lines e =
    line_or-parts place (line_fault vars clauses line) (lines_fault vars (clauses ++ line.lits ∷ []) (place + 1) lines) e

-- a log that follows and ends in the empty line has no model
pub log-sound : (model : ℕ → Bool) (vars : ℕ) (clauses : List (List Lit)) (place : ℕ) (lines : List Line) → lines_fault vars clauses place lines ≡ None → ends_empty lines ≡ true → Satisfies model clauses → ⊥
log-sound model vars clauses place [] e end s = cc
log-sound model vars clauses place (line ∷ []) e end s =
    let parts = lines-next vars clauses place line [] e in
    let yes : clause_holds model line.lits ≡ true = line-holds model vars clauses line s parts.0 in
    let no : clause_holds model line.lits ≡ false = all_none model line.lits end in
    cc
log-sound model vars clauses place (line ∷ next ∷ lines) e end s =
    let parts = lines-next vars clauses place line (next ∷ lines) e in
    log-sound model vars (clauses ++ line.lits ∷ []) (place + 1) (next ∷ lines) parts.1 (ends_next (is_empty_clause line.lits) (ends_empty (next ∷ lines)) end) (satisfies_push model clauses line.lits s (line-holds model vars clauses line s parts.0))
