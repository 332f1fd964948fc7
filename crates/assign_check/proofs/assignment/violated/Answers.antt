use Rattle.std.proofs.Common.{◌∙◌, ap₂, ◌+◌, sym}
use Rattle.assign_check.proofs.Counts.{all-among, none-among, one-more}
use Rattle.assign_check.proofs.assignment.violated.Goals as goal

pub loop-x-init : goal.loop-x-init
loop-x-init c = none-among c.args.entries.now c.args.book.now.pairs

pub loop-x-preserved : goal.loop-x-preserved
loop-x-preserved c =
    ap₂ (λ m n. m + n) c.loop-x.invariant c.violated_from-count.ensures.count
    ∙ sym (one-more c.args.entries.now c.args.book.now.pairs c.loop-x.x-index c.requires c.loop-x-test.true)

pub returns-clause-count : goal.returns-clause-count
returns-clause-count c = c.loop-x.invariant ∙ all-among c.args.book.now c.args.entries.now c.loop-x.x-index c.loop-x-test.false
