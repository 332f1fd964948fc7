use Rattle.std.proofs.Common.{arith}
use Rattle.transcript_text.specs.LogLines.{moves_at}
use Rattle.transcript_text.proofs.Fronts.{moves-ends, moves-goes-on, moves-stops}
use Rattle.transcript_text.proofs.log_lines.moves_at.Goals as goal

pub returns-in-Err : goal.returns-in-Err
returns-in-Err c = moves-stops c.args.sc.now c.loop-i.moves.items c.in-Err.why c.args.count c.loop-i.i c.loop-i.rest (moves_at c.args.sc.now c.args.count c.args.lines) c.loop-i-test.true c.in-Err.ensures c.loop-i.invariant

pub loop-i-preserved : goal.loop-i-preserved
loop-i-preserved c = rw c.in_ok-push-in-Ok.ensures.items (moves-goes-on c.args.sc.now c.loop-i.moves.items c.in-Ok.entry c.args.count c.loop-i.i c.loop-i.rest c.in-Ok.after (moves_at c.args.sc.now c.args.count c.args.lines) c.loop-i-test.true c.in-Ok.ensures c.loop-i.invariant)

pub returns : goal.returns
returns c = moves-ends c.args.sc.now c.loop-i.moves.items c.args.count c.loop-i.i c.loop-i.rest (moves_at c.args.sc.now c.args.count c.args.lines) (omega arith) c.loop-i.invariant
