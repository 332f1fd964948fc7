use Rattle.std.proofs.Common.{◌≤◌, ◌∙◌, arith, ap, length}
use Rattle.cnf_encode.proofs.NumberLemmas.{count-step}
use Rattle.cnf_encode.proofs.numbering.with_station.Goals as goal

pub returns : goal.returns
returns c =
    let stations : length c.args.book.now.domains ≤ 8192 = c.keeps_limit.ensures in
    count-step c.args.book.now c.args.set.now c.args.i c.args.before c.count_of.result c.requires.ascending stations c.requires.in_set c.requires.counted
    (c.count_of.ensures.count ∙ ap length c.channels_of.ensures.channels) c.count_of.ensures.few

pub overflow_add-result : goal.overflow_add-result
overflow_add-result c = omega (arith, (returns c).fits)
