-- `take` branches on these conditions.
use Rattle.std.proofs.Common.{ap, ◌∙◌}
use Rattle.std.proofs.lemmas.Bool.{cond-true}
use Rattle.std.specs.Option.{option_map_or}
use Rattle.auction_core.specs.Take.{accepted, fault_of, judged, take}
use Rattle.auction_core.proofs.laws.prove_rejected_posting_changes_nothing.Goals as goal

pub returns-clause-turned : goal.returns-clause-turned
unfolding take
returns-clause-turned c sc book state p reply t =
    ap (λ o. option_map_or (λ r. (r, state)) o (judged sc book state p (fault_of sc book state p))) t

pub returns-clause-rejected : goal.returns-clause-rejected
unfolding take
returns-clause-rejected c sc book state p place t f =
    ap (λ o. option_map_or (λ r. (r, state)) o (judged sc book state p (fault_of sc book state p))) t ∙ ap (judged sc book state p) f

pub returns-clause-again : goal.returns-clause-again
unfolding take
returns-clause-again c sc book state p receipt t f a n =
    ap (λ o. option_map_or (λ r. (r, state)) o (judged sc book state p (fault_of sc book state p))) t
    ∙ (ap (judged sc book state p) f ∙ (ap (accepted sc book state p.worker) a ∙ cond-true _ _ _ n))
