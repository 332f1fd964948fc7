use Rattle.std.proofs.Common.{arith}
use Rattle.offer_sched.proofs.RateLemmas.{one-more, over, last}
use Rattle.offer_sched.proofs.offers.prices_by_rate.Goals as goal

pub returns-then-price-eq0 : goal.returns-then-price-eq0
returns-then-price-eq0 c =
    over c.args.rate c.args.floor c.args.opening c.loop.price c.loop.counter c.loop.prices.items c.push.new.self.items _ c.loop.invariant c.if-price-eq0.true c.in_ok-push.ensures.items

pub loop-preserved : goal.loop-preserved
loop-preserved c =
    one-more c.args.rate c.args.floor c.args.opening c.loop.price c.fall_by_rate-price.result c.loop.counter c.loop.prices.items c.push-in-loop.new.self.items _ c.loop.invariant c.loop-test.true c.if-price-eq0.false c.in_ok-push-2.ensures.items c.fall_by_rate-price.ensures.is

pub returns : goal.returns
returns c =
    last c.args.rate c.args.floor c.args.opening c.loop.price c.loop.counter c.loop.prices.items c.push-2.new.self.items _ c.loop.invariant (let end = c.loop-test.false in omega (arith, end)) c.in_ok-push-3.ensures.items
