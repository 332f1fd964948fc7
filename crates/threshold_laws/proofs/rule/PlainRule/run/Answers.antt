use Rattle.std.proofs.Common.{◌≤◌, ◌<◌, ◌+◌, ◌∙◌, ap, arith, filter, length, not}
use Rattle.pack_defs.specs.Prices.{declines}
use Rattle.threshold_laws.proofs.RuleLemmas.{ended, next-round, opened}
use Rattle.threshold_laws.proofs.rule.PlainRule.run.Goals as goal

pub loop-round-init : goal.loop-round-init
loop-round-init c =
    let sc = c.args.self.now.sc.now in
    let bidders = c.in_ok-bidders.ensures ∙ ap (filter (λ s. not (declines sc s 0))) (c.deref.ensures.value ∙ c.in_ok-round_order.ensures) in
    opened sc c.args.self.now.book.now c.args.order c.in_ok-bidders.bidders.items (length c.args.self.now.schedule.now) c.in_ok-clock.clock
    bidders (ap length c.args.self.now.priced) c.in_ok-clock.ensures

pub loop-round-preserved : goal.loop-round-preserved
loop-round-preserved c =
    let last = length c.args.self.now.schedule.now + 1 in
    let more : c.loop-round.round < last = omega arith in
    let after = rw (c.deref-in-loop-round.ensures.value) at c.in_ok-round.ensures in
    next-round c.args.self.now.sc.now c.args.self.now.book.now c.in_ok-bidders.bidders.items c.loop-round.round last c.loop-round.clock c.round.new.clock _
    more c.loop-round.invariant after

pub returns : goal.returns
returns c =
    let last = length c.args.self.now.schedule.now + 1 in
    let all : last ≤ c.loop-round.round = omega arith in
    ended c.args.self.now.sc.now c.args.self.now.book.now c.in_ok-bidders.bidders.items c.loop-round.round last c.loop-round.clock _ all c.loop-round.invariant
