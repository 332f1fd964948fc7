use Rattle.std.proofs.Common.{◌≡◌, ◌++◌, drop}
use Rattle.pack_defs.specs.Prices.{prices_from}
use Rattle.offer_sched.proofs.offers.prices_by_list.Given as goal

-- The prices so far, and those of the remaining decrements, are all prices.
abbrev pub invariant-loop-decrement : goal.invariant-loop-decrement
invariant-loop-decrement l =
    l.prices.items ++ prices_from l.price (drop l.decrement-index l.decrements) ≡ prices_from l.fn.opening l.fn.decrements
