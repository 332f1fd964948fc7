use Rattle.pack_defs.specs.Prices.{prices_from, rated_falls, most_falls}
use Rattle.offer_sched.proofs.RateLemmas.{IsSoFar}
use Rattle.offer_sched.proofs.offers.prices_by_rate.Given as goal

-- The prices so far, and those of the remaining falls, are all prices.
abbrev pub invariant-loop : goal.invariant-loop
invariant-loop l =
    IsSoFar l.fn.rate l.fn.floor l.fn.opening l.price l.counter l.prices.items (prices_from l.fn.opening (rated_falls l.fn.rate l.fn.floor l.fn.opening l.fn.opening most_falls))
