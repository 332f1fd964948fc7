use Rattle.std.proofs.Common.{◌≡◌, ◌<◌, ◌∙◌, sym, ap, take, length, None, Some, ◌+◌, arith}
use Rattle.std.proofs.lemmas.List.{drop_all, get_or_default}
use Rattle.rup_check.specs.Follows.{clauses_before, line_fault, lines_fault}
use Rattle.rup_check.specs.Packed.{line_at, no_line}
use Rattle.rup_check.proofs.Reading.{log-passed, log-stopped, fault-answered, no-lines}
use Rattle.rup_check.proofs.check.check_log.Goals as goal

pub loop-i-preserved : goal.loop-i-preserved
loop-i-preserved c =
    let lines = c.args.log.now.lines in
    let clauses = c.args.clauses.now in
    let i = c.loop-i.i in
    let line = line_at lines i in
    let there : i < length lines = omega (arith, c.loop-i-test.true, c.len-i-end.ensures) in
    let follows : line_fault clauses.vars (clauses_before clauses.list (take i lines)) line ≡ None = rw c.in_default.is at c.check_at.ensures.answer in
    record {
      same = ap (λ k. k.vars) c.clear.ensures ∙ c.check_at.ensures.vars ∙ c.loop-i.invariant.same;
      nothing = ap (λ k. k.lits) c.clear.ensures;
      left = log-passed clauses.vars clauses.list lines i line _ there (get_or_default lines i no_line line there) follows c.loop-i.invariant.left;
    }

pub returns-in_default-why : goal.returns-in_default-why
returns-in_default-why c =
    let lines = c.args.log.now.lines in
    let clauses = c.args.clauses.now in
    let i = c.loop-i.i in
    let line = line_at lines i in
    let there : i < length lines = omega (arith, c.loop-i-test.true, c.len-i-end.ensures) in
    let fault : line_fault clauses.vars (clauses_before clauses.list (take i lines)) line ≡ Some c.in-Err.why = fault-answered _ c.in-Err.why (rw c.in-Err.is at c.check_at.ensures.answer) c.in_default-why.not-NoMemory in
    log-stopped clauses.vars clauses.list lines i line c.in-Err.why _ there (get_or_default lines i no_line line there) fault c.loop-i.invariant.left

pub returns : goal.returns
returns c =
    let lines = c.args.log.now.lines in
    let i = c.loop-i.i in
    sym c.loop-i.invariant.left
    ∙ ap (lines_fault c.args.clauses.now.vars (clauses_before c.args.clauses.now.list (take i lines)) (i + 1)) (drop_all i lines (omega (arith, c.loop-i-test.false, c.len-i-end.ensures)))
    ∙ no-lines c.args.clauses.now.vars (i + 1) (clauses_before c.args.clauses.now.list (take i lines))
