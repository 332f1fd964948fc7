use Rattle.std.proofs.Common.{◌≡◌, ◌≤◌, count_by, take}
use Rattle.auction_core.specs.Prefix.{took_query}
use Rattle.auction_core.specs.declared.record.Step.{Step}
use Rattle.undecided_tests.proofs.queries.queries_among.Given as goal

abbrev pub invariant-loop-k : goal.invariant-loop-k
invariant-loop-k l = record {
  queries : l.queries ≡ count_by (λ (x : Step). took_query x.shown) (take l.k l.steps);
  few : l.queries ≤ l.k;
}
