use Rattle.std.proofs.Common.{rules}
use Rattle.std.proofs.lemmas.List.Sorted.{IsNonDecreasingBy-from_sort_by_key, answers_always}
use Rattle.pack_defs.proofs.Spans.{seconds-same}
use Rattle.pack_defs.proofs.station_pairs.sorted_by_second.Goals as goal

pub returns : goal.returns
returns c =
    let sorted = c.sort_by_key.new.self.items in
    let stable = c.sort_by_key.ensures.stable (λ p. p.g) (answers_always _ _ _ (λ f a r g called. search rules)) in
    record {
      rises = IsNonDecreasingBy-from_sort_by_key (λ p. p.g) sorted c.in_ok-sort_by_key.ensures.sorted (λ a r q k. search rules);
      same = rw (c.in_ok-sorted.ensures.items) at (seconds-same c.in_ok-sorted.sorted.items sorted stable);
    }
