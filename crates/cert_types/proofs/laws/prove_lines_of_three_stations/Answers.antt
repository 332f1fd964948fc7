-- Each side computes.
use Rattle.std.proofs.Common.{refl}
use Rattle.rup_check.specs.Follows.{line_fault, lines_fault}
use Rattle.cert_types.proofs.laws.prove_lines_of_three_stations.Goals as goal

pub returns-clause-follows : goal.returns-clause-follows
unfolding line_fault lines_fault
returns-clause-follows c = refl

pub returns-clause-not_unit : goal.returns-clause-not_unit
unfolding line_fault lines_fault
returns-clause-not_unit c = refl

pub returns-clause-padded : goal.returns-clause-padded
unfolding line_fault lines_fault
returns-clause-padded c = refl
