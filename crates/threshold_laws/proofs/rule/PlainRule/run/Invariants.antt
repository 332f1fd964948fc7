use Rattle.std.proofs.Common.{◌≡◌, ◌+◌, ◌-◌, [], length}
use Rattle.pack_defs.specs.ClockRule.{after_tests, clock_rule, tests_of}
use Rattle.threshold_laws.proofs.rule.PlainRule.run.Given as goal

-- The remaining rounds lead to the rule's end.
abbrev pub invariant-loop-round : goal.invariant-loop-round
invariant-loop-round l =
    after_tests l.self.sc.now l.self.book.now [] (tests_of l.bidders.items l.round (length l.self.schedule.now + 1 - l.round)) l.clock
    ≡ clock_rule l.self.sc.now l.self.book.now l.fn.order []
