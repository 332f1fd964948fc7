-- The formula that a derivation starts from.
use Rattle.std.specs.Prelude.{ℕ, ◌≡◌, List}
use Rattle.clause_db.specs.Clauses.{Clauses, ClausesWithin}
use Rattle.pack_defs.specs.Book.{BookView}
use Rattle.cnf_encode.specs.Formula.{packing_formula, variables_in}

-- Whether the clauses are the packing formula of the set.
pub record IsFormulaOf (book : BookView) (set : List ℕ) (formula : Clauses) : Type 0 where
  pub vars : formula.vars ≡ variables_in book set
  pub list : formula.list ≡ packing_formula book set
  pub within : ClausesWithin formula.vars formula.list
