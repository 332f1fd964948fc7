-- One more line.
use Rattle.rup_check.specs.Packed.{line_at}
use Rattle.cert_types.proofs.LineLemmas.{line-here}
use Rattle.cert_types.proofs.UseLemmas.{counted-line}
use Rattle.cert_types.proofs.uses.Uses.of.Goals as goal

pub loop-i-preserved : goal.loop-i-preserved
loop-i-preserved c =
    let lines = c.args.lines.now in
    let i = c.loop-i.i in
    let below = rw c.len-i-end.ensures at c.loop-i-test.true in
    counted-line c.args.vars c.loop-i.uses c.count_all.new.self lines i (line_at lines i) _ below (line-here lines i below) c.lits.ensures c.loop-i.invariant c.count_all.ensures.vars c.count_all.ensures.counted
