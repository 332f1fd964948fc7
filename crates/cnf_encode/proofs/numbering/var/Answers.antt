use Rattle.std.proofs.Common.{◌≡◌, ◌∙◌, arith, ap, nat_lt, rules, take}
use Rattle.std.proofs.lemmas.List.Sorted.{IsPartitionPoint-from_clause, IsPartitionedBy-ltb}
use Rattle.cnf_encode.specs.Formula.{variables_in}
use Rattle.cnf_encode.proofs.AscendingLemmas.{rising, place-is}
use Rattle.cnf_encode.proofs.NumberLemmas.{variable-read}
use Rattle.cnf_encode.proofs.numbering.var.Goals as goal

pub overflow_cast-result : goal.overflow_cast-result
overflow_cast-result c = omega (arith, c.place_of.ensures.few)

pub overflow_add-result : goal.overflow_add-result
overflow_add-result c = omega (arith, c.place_of.ensures.few, c.loop-i.invariant.fits)

pub overflow_add-result-2 : goal.overflow_add-result-2
overflow_add-result-2 c = omega (arith, c.place_of.ensures.few, c.loop-i.invariant.fits)

pub returns : goal.returns
returns c =
    let low = IsPartitionPoint-from_clause (λ y. nat_lt y c.args.station) _ _ c.partition_point-place.ensures.partitioned (IsPartitionedBy-ltb (λ y. y) c.args.set.now c.args.station (rising c.args.set.now c.requires.ascending)) (λ a r q k. search rules) in
    let at = place-is c.args.set.now c.args.station c.partition_point-place.result c.requires.ascending c.requires.of_set low in
    let place : c.loop-i.i ≡ c.partition_point-place.result = omega arith in
    let counted : c.loop-i.before ≡ variables_in c.args.book.now (take c.partition_point-place.result c.args.set.now) = c.loop-i.invariant.exact ∙ ap (λ n. variables_in c.args.book.now (take n c.args.set.now)) place in
    variable-read c.args.book.now c.args.set.now c.channels_of.result.now c.loop-i.before c.partition_point-place.result c.place_of.result c.args.station c.args.c
    c.channels_of.ensures.channels c.requires.ascending c.channels_of.ensures.ascending at.0 at.1 c.place_of.ensures.within c.place_of.ensures.at counted
