use Rattle.std.proofs.Common.{ap, not, Some}
use Rattle.pack_defs.proofs.OneRow as rows
use Rattle.pack_defs.proofs.clock_laws.prove_row_depends_on_own_tests.Goals as goal

pub returns : goal.returns
returns c sc book order u v a b s known agree same = rows.one-row sc book order u v (Some a) (Some b) s known (λ r. ap not (agree r)) same
