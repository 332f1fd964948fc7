-- For `answers`: a trail in which every variable has a value and no clause is false describes a model.
use Rattle.std.proofs.Common.{◌≡◌, ℕ, ◌<◌, ◌≤◌, Bool, true, false, not, if◌then◌else◌, List, [], ◌∷◌, ◌++◌, map, Some, None, is_some, unwrap_or, length, ◌+◌, ◌-◌, inl, inr, arith, refl, ap, ◌∙◌, ⊎_elim}
use Rattle.std.specs.List.{All, list_all}
use Rattle.std.proofs.lemmas.Bool.{cases_lt, and_cases, and_from, or_left, or_right}
use Rattle.std.proofs.lemmas.List.{get_or_push, get_or_append_left}
use Rattle.std.proofs.lemmas.List.Elements.{All-head, All-tail}
use Rattle.clause_db.specs.declared.lit.Lit.{Lit}
use Rattle.clause_db.specs.Clause.{opposite, has_lit, pos_lit, neg_lit, lit_holds, clause_holds, Satisfies}
use Rattle.clause_db.specs.Clauses.{Clauses, LitWithin, ClausesWithin}
use Rattle.clause_db.specs.Forced.{is_false_clause}
use Rattle.rup_check.specs.declared.line.Line.{Line}
use Rattle.rup_check.specs.Follows.{clauses_before}
use Rattle.cnf_encode.specs.Decode.{listed_model}
use Rattle.trail_prop.specs.Open.{IsClauseSettled, IsComplete, value_known}
use Rattle.cdcl_prove.specs.Guide.{IsTotal}

-- the model of a variable is whether the variable is true on the trail
abbrev pub Reads : ℕ → List Lit → (ℕ → Bool) → Type 0
Reads vars known model = (v : ℕ) → 1 ≤ v → v ≤ vars → model v ≡ has_lit known (pos_lit v)

pos-known : (p n : Bool) → n ≡ false → is_some (if p then Some true else (if n then Some false else None)) ≡ true → p ≡ true
pos-known true n e h = refl
pos-known false true e h = cc
pos-known false false e h = cc

-- a literal that is not false is true
lit-true : (vars : ℕ) (known : List Lit) (model : ℕ → Bool) (l : Lit) → Reads vars known model → IsTotal vars known → LitWithin vars l → has_lit known (opposite l) ≡ false → lit_holds model l ≡ true
lit-true vars known model l r t w h = step l.positive h
  where
    step : (b : Bool) → has_lit known (record { var = l.var; positive = not b }) ≡ false → (if b then model l.var else not (model l.var)) ≡ true
    step true h = r l.var w.0 w.1 ∙ pos-known (has_lit known (pos_lit l.var)) (has_lit known (neg_lit l.var)) h (t l.var w.0 w.1)
    step false h = ap not (r l.var w.0 w.1 ∙ h)

-- hence a clause that is not false is true
clause-true : (vars : ℕ) (known : List Lit) (model : ℕ → Bool) (clause : List Lit) → Reads vars known model → IsTotal vars known → All (LitWithin vars) clause → is_false_clause known clause ≡ false → clause_holds model clause ≡ true
clause-true vars known model [] r t w f = cc
clause-true vars known model (l ∷ ls) r t w f =
    ⊎_elim
    (λ e. or_left (lit_holds model l) (clause_holds model ls) (lit-true vars known model l r t (All-head (LitWithin vars) l ls w) e))
    (λ e. or_right (lit_holds model l) (clause_holds model ls) (clause-true vars known model ls r t (All-tail (LitWithin vars) l ls w) e))
    (and_cases (has_lit known (opposite l)) (is_false_clause known ls) f)

each-true : (vars : ℕ) (known : List Lit) (model : ℕ → Bool) (clauses more : List (List Lit)) → Reads vars known model → IsTotal vars known → ClausesWithin vars clauses → IsComplete (clauses ++ more) known → list_all (clause_holds model) clauses ≡ true
each-true vars known model [] more r t w c = refl
each-true vars known model (d ∷ ds) more r t w c =
    and_from (clause_holds model d) (list_all (clause_holds model) ds)
    (clause-true vars known model d r t (All-head (λ (z : List Lit). All (LitWithin vars) z) d ds w) (All-head (IsClauseSettled known) d (ds ++ more) c).0)
    (each-true vars known model ds more r t (All-tail (λ (z : List Lit). All (LitWithin vars) z) d ds w) (All-tail (IsClauseSettled known) d (ds ++ more) c))

pub model-satisfies : (formula : Clauses) (lines : List Line) (known : List Lit) (model : ℕ → Bool) → Reads formula.vars known model → IsTotal formula.vars known → ClausesWithin formula.vars formula.list → IsComplete (clauses_before formula.list lines) known → Satisfies model formula.list
model-satisfies formula lines known model r t w c = each-true formula.vars known model formula.list (map (λ (l : Line). l.lits) lines) r t w c

-- one more value
pub reads-more : (known : List Lit) (values : List Bool) (i : ℕ) (b : Bool) → length values ≡ i → ((v : ℕ) → 1 ≤ v → v ≤ i → listed_model values v ≡ has_lit known (pos_lit v)) → b ≡ has_lit known (pos_lit (i + 1)) → (v : ℕ) → 1 ≤ v → v ≤ i + 1 → listed_model (values ++ b ∷ []) v ≡ has_lit known (pos_lit v)
reads-more known values i b n before here v low high =
    elim (cases_lt i v) [
      | inl last ↦
          let same : i + 1 ≡ v = omega arith in
          let place : length values ≡ v - 1 = omega arith in
          get_or_push values b false (v - 1) place ∙ (here ∙ ap (λ w. has_lit known (pos_lit w)) same)
      | inr earlier ↦
          let within : v - 1 < length values = omega arith in
          get_or_append_left values (b ∷ []) false (v - 1) within ∙ before v low earlier
    ]

-- what is known of a variable that is true, or is not
pub value-reads : (known : List Lit) (v : ℕ) → unwrap_or (value_known known v) false ≡ has_lit known (pos_lit v)
value-reads known v = step (has_lit known (pos_lit v)) (has_lit known (neg_lit v))
  where
    step : (p n : Bool) → unwrap_or (if p then Some true else (if n then Some false else None)) false ≡ p
    step true n = refl
    step false true = refl
    step false false = refl
