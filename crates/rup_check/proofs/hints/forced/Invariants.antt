use Rattle.std.proofs.Common.{◌≡◌, ◌++◌, length, option_to_list}
use Rattle.clause_db.specs.Forced.{not_false, only_open, forced_by}
use Rattle.rup_check.proofs.hints.forced.Given as goal

abbrev pub invariant-loop-lit : goal.invariant-loop-lit
invariant-loop-lit l = only_open l.known.lits (option_to_list l.open ++ not_false l.known.lits l.left) ≡ forced_by l.known.lits l.fn.clause

abbrev pub decreases-loop-lit : goal.decreases-loop-lit
decreases-loop-lit l = length l.left
