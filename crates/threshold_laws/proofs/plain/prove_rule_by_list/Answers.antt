-- Each side computes, once the fall is a list.
use Rattle.std.proofs.Common.{◌+◌, ap, not, length}
use Rattle.std.specs.Option.{option_map_or}
use Rattle.pack_defs.specs.Prices.{bidders, declines_by_value, falls_from, prices_from, stays}
use Rattle.pack_defs.specs.ClockRule.{tests_of}
use Rattle.threshold_laws.proofs.plain.prove_rule_by_list.Goals as goal

pub returns-clause-prices : goal.returns-clause-prices
returns-clause-prices c sc decrements e = ap (λ f. prices_from sc.opening (falls_from sc.opening f)) e

pub returns-clause-tests : goal.returns-clause-tests
returns-clause-tests c sc decrements e = ap (λ f. tests_of (bidders sc) 1 (length (falls_from sc.opening f) + 1)) e

pub returns-clause-declines : goal.returns-clause-declines
returns-clause-declines c sc s r e = ap (λ o. option_map_or (λ lines. not (stays lines r s)) o (declines_by_value sc s r)) e
