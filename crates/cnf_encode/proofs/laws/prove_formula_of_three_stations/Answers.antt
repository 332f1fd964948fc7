-- Both sides compute to the same list.
use Rattle.std.proofs.Common.{refl}
use Rattle.pack_defs.specs.Examples.{three_stations}
use Rattle.cnf_encode.specs.Formula.{packing_formula}
use Rattle.cnf_encode.proofs.laws.prove_formula_of_three_stations.Goals as goal

pub returns-clause-clauses : goal.returns-clause-clauses
unfolding packing_formula three_stations
returns-clause-clauses c = refl

pub returns-clause-variables : goal.returns-clause-variables
unfolding three_stations
returns-clause-variables c = refl
