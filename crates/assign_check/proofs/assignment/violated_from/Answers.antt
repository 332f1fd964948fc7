use Rattle.std.proofs.Common.{◌∙◌, ap, count_by, take_all}
use Rattle.assign_check.proofs.Counts.{from-station}
use Rattle.assign_check.proofs.Violations.{is_violated_from}
use Rattle.assign_check.proofs.assignment.violated_from.Goals as goal

pub returns-clause-count : goal.returns-clause-count
returns-clause-count c =
    let test = is_violated_from c.args.entries.now c.args.own in
    c.loop-p.invariant
    ∙ ap (count_by test) (take_all c.loop-p.p-index c.pairs_from-p-items.result.now c.loop-p-test.false ∙ c.pairs_from-p-items.ensures)
    ∙ from-station c.args.entries.now c.args.own c.args.book.now.pairs c.requires.ascending c.requires.own
