use Rattle.std.proofs.Common.{◌≡◌, filter, not, take}
use Rattle.pack_defs.specs.Prices.{declines}
use Rattle.threshold_laws.proofs.rule.PlainRule.bidders.Given as goal

abbrev pub invariant-loop-s : goal.invariant-loop-s
invariant-loop-s l = l.bidders.items ≡ filter (λ s. not (declines l.self.sc.now s 0)) (take l.s-index l.stations)
