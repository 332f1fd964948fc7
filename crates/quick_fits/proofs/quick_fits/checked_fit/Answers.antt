-- A free channel is a fit by itself.
use Rattle.std.proofs.Common.{◌∙◌, sym}
use Rattle.quick_fits.proofs.FreeLemmas.{free-fits}
use Rattle.quick_fits.proofs.quick_fits.checked_fit.Goals as goal

pub returns-then-not-fits_by_changes-clause-free : goal.returns-then-not-fits_by_changes-clause-free
returns-then-not-fits_by_changes-clause-free c = λ s tested there way.
    sym c.if-not-fits_by_changes.true
    ∙ free-fits c.args.book.now c.args.task.now s c.args.proposal _ c.fits_by_changes.result c.requires c.keeps_order.ensures c.keeps_order-2.ensures tested there way c.in_ok-delta.ensures c.fits_by_changes.ensures
