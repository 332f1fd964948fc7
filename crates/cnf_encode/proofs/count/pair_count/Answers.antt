use Rattle.std.proofs.Common.{◌+◌, ◌∙◌, arith, ap, length, take_all}
use Rattle.std.specs.List.{sum_by}
use Rattle.cnf_encode.specs.ByStation.{pairs_inside_from}
use Rattle.cnf_encode.proofs.CountLemmas.{pairs-counted, pairs-most, sum-more}
use Rattle.cnf_encode.proofs.count.pair_count.Goals as goal

pub overflow_add-count : goal.overflow_add-count
overflow_add-count c =
    let book = c.args.book.now in
    let set = c.args.set.now in
    let most = pairs-most book set (c.loop-i.i + 1) c.requires c.keeps_order.ensures.pairs in
    let more = sum-more (λ s. length (pairs_inside_from book set s)) set c.loop-i.i (omega arith) in
    omega (arith, most, more, c.loop-i.invariant, c.pairs_inside-count.ensures, c.keeps_to_memory.ensures)

pub returns-clause-count : goal.returns-clause-count
returns-clause-count c =
    let book = c.args.book.now in
    let set = c.args.set.now in
    c.loop-i.invariant ∙ ap (sum_by (λ s. length (pairs_inside_from book set s))) (take_all c.loop-i.i set c.loop-i-test.false) ∙ pairs-counted book set c.requires c.keeps_order.ensures.pairs

pub returns-clause-few : goal.returns-clause-few
returns-clause-few c =
    let most = pairs-most c.args.book.now c.args.set.now c.loop-i.i c.requires c.keeps_order.ensures.pairs in
    omega (arith, most, c.loop-i.invariant, c.keeps_to_memory.ensures)
