-- The results so far are kept, and memory ran out in none of them.
use Rattle.std.proofs.Common.{◌≡◌, ◌++◌, map, Ok}
use Rattle.std.specs.Vec.Iter.{into_iter_items}
use Rattle.commands.proofs.batch_run.all_or_error.Given as goal

abbrev pub invariant-loop-ran : goal.invariant-loop-ran
invariant-loop-ran l = map (λ ran. Ok ran) l.all.items ++ into_iter_items l.ran-iterator ≡ l.fn.rans.items
