-- As many lists as this, each empty.
use Rattle.std.proofs.Common.{◌≡◌, [], map, replicate, length}
use Rattle.cert_types.proofs.clause_index.ClauseIndex.new.Given as goal

abbrev pub invariant-loop : goal.invariant-loop
invariant-loop l = record {
  lists : map (λ v. v.items) l.lists.items ≡ replicate l.counter [];
  size : length l.lists.items ≡ l.counter;
}
