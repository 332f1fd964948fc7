use Rattle.transcript_text.proofs.PrefixSteps.{start-gives, start-kept}
use Rattle.transcript_text.proofs.prefix_reading.prefix_start.Goals as goal

pub returns-in-Ok : goal.returns-in-Ok
returns-in-Ok c = start-gives c.args.sc.now c.args.book.now c.args.order c.in-Ok.start c.args.lines c.in-Ok.rest c.started-begun.result c.prefix_steps.result c.in-Ok.ensures c.started-begun.ensures c.prefix_steps.ensures

pub returns-in-Err : goal.returns-in-Err
returns-in-Err c = start-kept c.args.sc.now c.args.book.now c.args.order c.args.lines c.in-Err.why c.unstarted.result c.kept_on_error.result c.in-Err.ensures c.unstarted.ensures c.kept_on_error.ensures
