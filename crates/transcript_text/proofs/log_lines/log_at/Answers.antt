use Rattle.std.proofs.Common.{◌∙◌, ◌∷◌, [], ap, arith, length, length-append}
use Rattle.transcript_text.specs.LogLines.{log_at}
use Rattle.transcript_text.proofs.Fronts.{log-ends, log-goes-on, log-stops}
use Rattle.transcript_text.proofs.log_lines.log_at.Goals as goal

pub returns-in-Err-clause-log : goal.returns-in-Err-clause-log
returns-in-Err-clause-log c = log-stops c.loop-i.log c.in-Err.why c.args.number c.args.count c.loop-i.i c.loop-i.rest (log_at c.args.number c.args.count c.args.lines) c.loop-i-test.true c.in-Err.ensures c.loop-i.invariant.read

pub loop-i-preserved : goal.loop-i-preserved
loop-i-preserved c =
    let pushed = rw (c.as_slice.ensures, c.as_slice-in-Ok.ensures) at c.in_ok-push-in-Ok.ensures.pushed in
    record {
      count = omega (arith, c.loop-i.invariant.count, ap length pushed ∙ length-append c.loop-i.log (c.in-Ok.line ∷ []));
      read = rw pushed (log-goes-on c.loop-i.log c.in-Ok.line c.args.number c.args.count c.loop-i.i c.loop-i.rest c.in-Ok.after (log_at c.args.number c.args.count c.args.lines) c.loop-i-test.true c.in-Ok.ensures c.loop-i.invariant.read);
    }

pub returns-clause-log : goal.returns-clause-log
returns-clause-log c = rw c.fitted.ensures (log-ends c.loop-i.log c.args.number c.args.count c.loop-i.i c.loop-i.rest (log_at c.args.number c.args.count c.args.lines) (omega arith) c.loop-i.invariant.read)
