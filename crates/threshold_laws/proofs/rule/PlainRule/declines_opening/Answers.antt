use Rattle.std.proofs.Common.{length, ap, arith}
use Rattle.pack_defs.proofs.PriceLaws.{prices_rounds}
use Rattle.threshold_laws.proofs.rule.PlainRule.declines_opening.Goals as goal

pub declines-requires : goal.declines-requires
declines-requires c = omega (arith, ap length c.args.self.now.priced, prices_rounds c.args.self.now.sc.now)
