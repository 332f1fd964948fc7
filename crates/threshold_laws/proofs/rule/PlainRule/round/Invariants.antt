use Rattle.std.proofs.Common.{◌≡◌, [], drop}
use Rattle.pack_defs.specs.ClockRule.{after_tests}
use Rattle.threshold_laws.proofs.RuleLemmas.{tests_in}
use Rattle.threshold_laws.proofs.rule.PlainRule.round.Given as goal

-- The rest of the round leads where the complete round leads.
abbrev pub invariant-loop-s : goal.invariant-loop-s
invariant-loop-s l =
    after_tests l.self.sc.now l.self.book.now [] (tests_in l.round (drop l.s-index l.bidders)) l.clock
    ≡ after_tests l.self.sc.now l.self.book.now [] (tests_in l.round l.bidders) l.fn.clock
