use Rattle.trail_prop.specs.Watching.{AllPending}
use Rattle.trail_prop.proofs.watching.all_numbers.Given as goal

abbrev pub invariant-loop-at : goal.invariant-loop-at
invariant-loop-at l = AllPending l.at l.numbers.items
