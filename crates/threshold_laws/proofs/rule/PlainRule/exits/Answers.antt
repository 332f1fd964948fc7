-- The last round comes after the last price.
use Rattle.std.proofs.Common.{ap, length}
use Rattle.threshold_laws.proofs.RuleLemmas.{exits-at_last, exits-before}
use Rattle.threshold_laws.proofs.rule.PlainRule.exits.Goals as goal

pub returns-then-round-self : goal.returns-then-round-self
returns-then-round-self c =
    exits-at_last c.args.self.now.sc.now c.args.station c.args.round _ (ap length c.args.self.now.priced) c.if-round-self.true

pub returns-else-round-self : goal.returns-else-round-self
returns-else-round-self c =
    exits-before c.args.self.now.sc.now c.args.station c.args.round _ c.declines.result (ap length c.args.self.now.priced) c.if-round-self.false c.declines.ensures
