use Rattle.std.proofs.Common.{None, arith}
use Rattle.transcript_text.specs.LogLines.{entries_at}
use Rattle.transcript_text.proofs.Fronts.{entries-ends, entries-goes-on, entries-stops}
use Rattle.transcript_text.proofs.log_lines.entries_at.Goals as goal

pub returns-in-Err : goal.returns-in-Err
returns-in-Err c = entries-stops c.args.sc.now c.loop-i.entries.items c.in-Err.why c.loop-i.above c.args.count c.loop-i.i c.loop-i.rest (entries_at c.args.sc.now None c.args.count c.args.lines) c.loop-i-test.true c.in-Err.ensures c.loop-i.invariant

pub loop-i-preserved : goal.loop-i-preserved
loop-i-preserved c = rw c.in_ok-push-in-Ok.ensures.items (entries-goes-on c.args.sc.now c.loop-i.entries.items c.in-Ok.entry c.loop-i.above c.args.count c.loop-i.i c.loop-i.rest c.in-Ok.after (entries_at c.args.sc.now None c.args.count c.args.lines) c.loop-i-test.true c.in-Ok.ensures c.loop-i.invariant)

pub returns : goal.returns
returns c = entries-ends c.args.sc.now c.loop-i.entries.items c.loop-i.above c.args.count c.loop-i.i c.loop-i.rest (entries_at c.args.sc.now None c.args.count c.args.lines) (omega arith) c.loop-i.invariant
