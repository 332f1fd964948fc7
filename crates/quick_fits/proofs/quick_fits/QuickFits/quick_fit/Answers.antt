-- If a free channel makes a fit by itself, the channel is proposed and passes.
use Rattle.quick_fits.proofs.FreeLemmas.{not-refused, not-unproposed}
use Rattle.quick_fits.proofs.quick_fits.QuickFits.quick_fit.Goals as goal

pub returns-in_default-3-clause-free : goal.returns-in_default-3-clause-free
returns-in_default-3-clause-free c = λ s d tested fits.
    not-unproposed c.args.book.now c.args.task.now c.in-Some.s s d c.in_ok-proposal.field-0 c.keeps_order.ensures c.keeps_order-2.ensures c.in-Some.is tested fits c.in_ok-proposal.ensures c.in_default-3.is

pub returns-in_default-4-clause-free : goal.returns-in_default-4-clause-free
returns-in_default-4-clause-free c = λ s d tested fits.
    not-refused c.args.book.now c.args.task.now c.in-Some.s s d c.in_ok-proposal.field-0 c.in-Some-3.proposal c.in_ok-fit-2.field-0 c.keeps_order.ensures c.keeps_order-2.ensures c.in-Some.is tested fits c.in_ok-proposal.ensures c.in-Some-3.is c.in_ok-fit-2.ensures.free c.in_default-4.is
