use Rattle.std.proofs.Common.{take}
use Rattle.rup_check.specs.Follows.{clauses_before}
use Rattle.rup_check.specs.Packed.{line_at}
use Rattle.rup_check.proofs.Reading.{line-answer, line-bad}
use Rattle.rup_check.proofs.check.check_at.Goals as goal

pub returns-then-not-branch-clause-answer : goal.returns-then-not-branch-clause-answer
returns-then-not-branch-clause-answer c =
    line-bad c.args.known.now.vars c.args.clauses.now.vars (clauses_before c.args.clauses.now.list (take c.args.place c.args.lines.now)) (line_at c.args.lines.now c.args.place) c.lits.result c.requires.same c.lits.ensures (rw c.if-not-branch.true at c.in_ok-deny.ensures.good)

pub returns-clause-answer : goal.returns-clause-answer
returns-clause-answer c =
    let good = rw c.if-not-branch.false at c.in_ok-deny.ensures.good in
    line-answer c.args.known.now.vars c.args.clauses.now.vars (clauses_before c.args.clauses.now.list (take c.args.place c.args.lines.now)) (line_at c.args.lines.now c.args.place) c.lits.result c.deny.new.known.lits c.hints.result _ c.requires.same c.lits.ensures good.1 c.hints.ensures good.0 c.check_hints.ensures.answer
