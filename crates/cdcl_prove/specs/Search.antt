-- How a search can end.
use Rattle.std.specs.Prelude.{ℕ, ◌≡◌, ◌≢◌, ◌<◌, ◌+◌, not, true, length, List, Option, Some, None}
use Rattle.std.specs.List.{list_all}
use Rattle.clause_db.specs.Clause.{clause_at, is_empty_clause}
use Rattle.rup_check.specs.declared.line.Line.{Line}
use Rattle.rup_check.specs.Follows.{line_fault}
use Rattle.pack_defs.specs.Lists.{has_entry}
use Rattle.pack_defs.specs.declared.worker.Worker.{Worker}
use Rattle.pack_defs.specs.Book.{BookView}
use Rattle.cert_types.specs.declared.answer.Answer.{Answer}
use Rattle.cert_types.specs.declared.task.Task.{Task}
use Rattle.cert_types.specs.Refutes.{is_subset}
use Rattle.cert_types.specs.Valid.{IsValid}
use Rattle.pack_defs.specs.Scenario.{learns}
use Rattle.cert_types.specs.declared.answer.Answer.TheVariants as answer
use Rattle.trail_prop.specs.declared.entry.Conflict.{Conflict}
use Rattle.trail_prop.specs.Entries.{lits_of}
use Rattle.trail_prop.specs.Open.{IsComplete}
use Rattle.trail_prop.specs.Trails.{IsFalseAt}
use Rattle.cdcl_prove.specs.declared.search.SearchStep.{SearchStep}
use Rattle.cdcl_prove.specs.declared.search.SearchStep.TheVariants as step
use Rattle.cdcl_prove.specs.declared.solve.SearchEnd.{SearchEnd}
use Rattle.cdcl_prove.specs.declared.solve.SearchEnd.TheVariants as outcome
use Rattle.cdcl_prove.specs.Derivation.{Derived, clauses_of}
use Rattle.cdcl_prove.specs.Formulas.{IsFormulaOf}
use Rattle.cdcl_prove.specs.Guide.{IsTotal}

-- A model: every variable has a value, and no clause is false.
pub record IsModel (d : Derived) : Type 0 where
  pub complete : IsComplete (clauses_of d).list (lits_of d.entries)
  pub total : IsTotal d.formula.vars (lits_of d.entries)

-- What a descent ends with: a false clause, or a model.
abbrev pub DescentIs : Derived → Option Conflict → Type 0
DescentIs d (Some conflict) = IsFalseAt (lits_of d.entries) (clause_at (clauses_of d).list conflict.clause)
DescentIs d None = IsModel d

-- The last line of a refutation: it follows and is empty.
pub record IsLast (d : Derived) (line : Line) : Type 0 where
  pub follows : line_fault d.formula.vars (clauses_of d).list line ≡ None
  pub ends : is_empty_clause line.lits ≡ true

-- What one step leaves: one more line, a model, or the last line of a refutation.
abbrev pub SearchStepIs : Derived → Derived → SearchStep → Type 0
SearchStepIs earlier later step.Learnt = length later.lines ≡ length earlier.lines + 1
SearchStepIs earlier later step.Model = IsModel later × (later.lines ≡ earlier.lines)
SearchStepIs earlier later (step.Refuted line) = IsLast later line × (later.lines ≡ earlier.lines)

-- How a search ends, with a budget of lines and a query of this number, if the latest answer of the poll is `last`.
abbrev pub SearchEndIs : Derived → ℕ → ℕ → ℕ → SearchEnd → Type 0
SearchEndIs d budget number last outcome.Model = IsModel d
SearchEndIs d budget number last (outcome.Refuted line) = IsLast d line × (length d.lines < budget)
SearchEndIs d budget number last outcome.Spent = length d.lines ≡ budget
SearchEndIs d budget number last (outcome.Moved now) = (last ≡ now) × (now ≢ number)

-- Whether the answer is a fit, and each station that it names has another channel in the last map, or none.
abbrev pub IsFitOfChanges : List (ℕ × ℕ) → Answer → Type 0
IsFitOfChanges last (answer.Fit d) = list_all (λ x. not (has_entry last x)) d ≡ true
IsFitOfChanges last (answer.Refuted refutation) = ⊥
IsFitOfChanges last (answer.Spent receipt) = ⊥

-- Whether the answer refutes these stations: it is valid for each query whose set has them, from a learner whose budget exceeds the
-- number of lines, if the lines are derived from the stations' formula.
abbrev pub IsRefutationBy : List ℕ → Derived → Answer → Type 0
IsRefutationBy subset d answer = (book : BookView) (task : Task) (worker : Worker) → learns worker.kind ≡ true →
    IsFormulaOf book subset d.formula → is_subset subset task.set ≡ true → length d.lines < worker.budget →
    IsValid book task worker answer

-- Whether the answer is a receipt: it is valid for each query, from a learner with a budget of as many lines, if the lines are derived
-- from the formula of the query's set.
abbrev pub IsReceiptBy : Derived → Answer → Type 0
IsReceiptBy d answer = (book : BookView) (task : Task) (worker : Worker) → learns worker.kind ≡ true →
    IsFormulaOf book task.set d.formula → length d.lines ≡ worker.budget → IsValid book task worker answer
