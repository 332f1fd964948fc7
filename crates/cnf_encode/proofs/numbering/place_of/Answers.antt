use Rattle.std.proofs.Common.{nat_lt, rules, arith}
use Rattle.std.proofs.lemmas.List.Sorted.{IsPartitionPoint-from_clause, IsPartitionedBy-ltb}
use Rattle.cnf_encode.proofs.AscendingLemmas.{few-bytes, rising, place-is}
use Rattle.cnf_encode.proofs.numbering.place_of.Goals as goal

pub returns : goal.returns
returns c =
    let low = IsPartitionPoint-from_clause (λ y. nat_lt y c.args.c) _ _ c.partition_point.ensures.partitioned (IsPartitionedBy-ltb (λ y. y) c.args.channels.now c.args.c (rising c.args.channels.now c.requires.ascending)) (λ a r q k. search rules) in
    let at = place-is c.args.channels.now c.args.c c.partition_point.result c.requires.ascending c.requires.has low in
    let few = few-bytes c.args.channels.now c.requires.ascending c.type_inv.channels in
    record { within = at.0; few = omega (arith, few, at.0); at = at.1 }
