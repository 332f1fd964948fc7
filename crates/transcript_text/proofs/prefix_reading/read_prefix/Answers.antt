use Rattle.transcript_text.proofs.PrefixSteps.{prefix-gives, prefix-kept}
use Rattle.transcript_text.proofs.prefix_reading.read_prefix.Goals as goal

pub returns-in-Ok : goal.returns-in-Ok
returns-in-Ok c = prefix-gives c.args.sc.now c.args.book.now c.args.text.now c.in-Ok.order c.in-Ok.lines c.prefix_start.result c.in-Ok.ensures c.prefix_start.ensures

pub returns-in-Err : goal.returns-in-Err
returns-in-Err c = prefix-kept c.args.sc.now c.args.book.now c.args.text.now c.in-Err.why c.unstarted.result c.kept_on_error.result c.in-Err.ensures c.unstarted.ensures c.kept_on_error.ensures
