-- The steps so far and those of the remaining lines are all steps.
use Rattle.std.proofs.Common.{◌≡◌, ◌++◌, drop}
use Rattle.std.specs.Vec.Iter.{into_iter_items}
use Rattle.auction_core.specs.StepList.{merged}
use Rattle.auction_core.proofs.step_list.StepList.into_items.Given as goal

abbrev pub invariant-loop-line : goal.invariant-loop-line
invariant-loop-line l =
    l.steps.items ++ merged (drop l.line-index l.line-items) (into_iter_items l.told) ≡ merged l.line-items (into_iter_items l.initial.told)
