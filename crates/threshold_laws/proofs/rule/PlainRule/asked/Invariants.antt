use Rattle.std.proofs.Common.{◌≡◌, ◌||◌, ◌==◌, filter, take}
use Rattle.pack_defs.specs.ClockRule.{is_on_air}
use Rattle.threshold_laws.proofs.rule.PlainRule.asked.Given as goal

abbrev pub invariant-loop-f : goal.invariant-loop-f
invariant-loop-f l = l.set.items ≡ filter (λ f. is_on_air l.clock f || (f == l.station)) (take l.f-index l.f-items)
