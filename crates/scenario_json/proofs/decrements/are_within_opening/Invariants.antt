use Rattle.std.proofs.Common.{◌≡◌, ◌+◌, sum, take}
use Rattle.scenario_json.proofs.decrements.are_within_opening.Given as goal

abbrev pub invariant-loop-decrement : goal.invariant-loop-decrement
invariant-loop-decrement l = l.left + sum (take l.decrement-index l.decrements) ≡ l.opening
