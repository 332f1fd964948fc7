use Rattle.std.proofs.Common.{arith}
use Rattle.scenario_make.proofs.AcceptedLemmas.{are-accepted}
use Rattle.scenario_make.proofs.make.make.Goals as goal

pub returns-clause-accepted : goal.returns-clause-accepted
returns-clause-accepted c =
    let is = c.in_ok-made.ensures in
    are-accepted c.args.seed c.args.size c.in_ok-made.made.domains.items c.in_ok-made.made.rows.items c.in_ok-made.made.scenario.items (omega (arith, c.ranges.seed.fits)) (omega (arith, c.requires.most)) is.domains_are is.rows_are is.scenario_is
