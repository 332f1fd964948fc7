-- By the invariant of the induction, which is equivalent to the rule.
use Rattle.auction_core.specs.State.{opening}
use Rattle.auction_core.specs.Take.{take}
use Rattle.auction_core.proofs.Kept.{kept-rule, rule-kept}
use Rattle.auction_core.proofs.Keeps.{opening-keeps, take-keeps}
use Rattle.auction_core.proofs.Orders.{take-order}
use Rattle.auction_core.proofs.laws.prove_posting_keeps_rule.Goals as goal

pub returns-clause-opening : goal.returns-clause-opening
returns-clause-opening c sc book order a = kept-rule sc book (opening sc book order) (opening-keeps sc book order a)

pub returns-clause-posting : goal.returns-clause-posting
returns-clause-posting c sc book state p a h =
    kept-rule sc book (take sc book state p).1 (take-keeps sc book state p a (rule-kept sc book state h))

pub returns-clause-order : goal.returns-clause-order
returns-clause-order c = take-order
