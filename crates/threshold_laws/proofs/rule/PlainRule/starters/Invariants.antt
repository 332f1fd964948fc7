use Rattle.std.proofs.Common.{◌≡◌, filter, map, take}
use Rattle.pack_defs.specs.Prices.{declines}
use Rattle.pack_defs.proofs.OneRow.{start_entry}
use Rattle.threshold_laws.proofs.rule.PlainRule.starters.Given as goal

abbrev pub invariant-loop-s : goal.invariant-loop-s
invariant-loop-s l = l.on_air.items ≡ map start_entry (filter (λ s. declines l.self.sc.now s 0) (take l.s-index l.s-items))
