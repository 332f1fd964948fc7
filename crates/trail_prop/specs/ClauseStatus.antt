-- The state of a clause under the true literals.
use Rattle.std.specs.Prelude.{◌≡◌, true, Some, List}
use Rattle.clause_db.specs.declared.lit.Lit.{Lit}
use Rattle.clause_db.specs.Forced.{is_false_clause, forced_by}
use Rattle.trail_prop.specs.Open.{IsClauseSettled}
use Rattle.trail_prop.specs.declared.clause_status.ClauseStatus.{ClauseStatus}
use Rattle.trail_prop.specs.declared.clause_status.ClauseStatus.TheVariants.{False, Forces, Settled}

-- What the state says: all literals are false; the clause forces this literal; or neither.
abbrev pub ClauseStatusIs : List Lit → List Lit → ClauseStatus → Type 0
ClauseStatusIs known clause False = is_false_clause known clause ≡ true
ClauseStatusIs known clause (Forces l) = forced_by known clause ≡ Some l
ClauseStatusIs known clause Settled = IsClauseSettled known clause
