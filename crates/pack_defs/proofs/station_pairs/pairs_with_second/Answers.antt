use Rattle.std.proofs.Common.{nat_lt, nat_le, rules}
use Rattle.std.proofs.lemmas.List.Sorted.{IsNonDecreasingBy-drop, IsPartitionPoint-from_clause, IsPartitionedBy-leb, IsPartitionedBy-ltb}
use Rattle.pack_defs.specs.declared.pair.Pair.{Pair}
use Rattle.pack_defs.proofs.Spans.{span-is, whole-rest}
use Rattle.pack_defs.proofs.station_pairs.pairs_with_second.Goals as goal

pub returns : goal.returns
returns c =
    let pairs = c.args.pairs.now in
    let begin = c.partition_point-begin.result in
    let count = c.partition_point-count.result in
    let low = IsPartitionPoint-from_clause (λ (p : Pair). nat_lt p.g c.args.g) _ _ c.partition_point-begin.ensures.partitioned (IsPartitionedBy-ltb (λ p. p.g) pairs c.args.g c.requires) (λ a r q k. search rules) in
    let rest = IsPartitionedBy-leb (λ p. p.g) _ c.args.g (IsNonDecreasingBy-drop (λ p. p.g) begin pairs c.requires) in
    let high = IsPartitionPoint-from_clause (λ (p : Pair). nat_le p.g c.args.g) _ _ c.partition_point-count.ensures.partitioned (rw (whole-rest pairs begin) rest) (λ a r q k. search rules) in
    rw (whole-rest pairs begin) (span-is (λ p. p.g) c.args.g begin count pairs low (rw (whole-rest pairs begin) at high))
