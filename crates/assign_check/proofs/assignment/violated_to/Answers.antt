use Rattle.std.proofs.Common.{◌∙◌, ap, count_by, take_all}
use Rattle.assign_check.proofs.Counts.{is_violated_to, to-station}
use Rattle.assign_check.proofs.assignment.violated_to.Goals as goal

pub returns-clause-count : goal.returns-clause-count
returns-clause-count c =
    let test = is_violated_to c.args.entries.now c.args.own in
    c.loop-p.invariant
    ∙ ap (count_by test) (take_all c.loop-p.p-index c.pairs_to-p-items.result.now c.loop-p-test.false ∙ c.pairs_to-p-items.ensures)
    ∙ to-station c.args.entries.now c.args.own c.args.book.now.pairs c.requires.ascending c.requires.own
