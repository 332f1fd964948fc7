use Rattle.std.proofs.Common.{◌≡◌, ◌∙◌, ◌++◌, ◌∷◌, [], List, ap, append-nil, subst, take}
use Rattle.clause_db.specs.declared.lit.Lit.{Lit}
use Rattle.rup_check.specs.Answers.{LineAnswer}
use Rattle.rup_check.specs.declared.line.Line.{Line}
use Rattle.rup_check.specs.Follows.{clauses_before, line_fault}
use Rattle.rup_check.specs.Packed.{line_at}
use Rattle.rup_check.proofs.Reading.{line-answer, line-bad}
use Rattle.rup_check.proofs.check.check_line.Goals as goal

pub returns-then-not-branch : goal.returns-then-not-branch
returns-then-not-branch c =
    let clauses = c.args.clauses.now in
    line-bad c.in_ok-known.known.vars clauses.vars clauses.list c.args.line.now c.of_clause.result (ap (λ k. k.vars) c.in_ok-known.ensures ∙ c.vars.ensures) (c.of_clause.ensures ∙ c.as_slice.ensures) (rw c.if-not-branch.true at c.in_ok-deny.ensures.good)

pub returns : goal.returns
returns c =
    let clauses = c.args.clauses.now in
    let line = c.args.line.now in
    let alone : Line = record { lits = []; hints = c.as_slice-2.result.now } in
    let packed : c.push.new.self ≡ alone ∷ [] = c.in_ok-push.ensures.pushed ∙ ap (λ (z : List Line). z ++ alone ∷ []) c.new-packed.ensures in
    let hints : c.hints.result ≡ line.hints = c.hints.ensures ∙ ap (λ (z : List Line). (line_at z 0).hints) packed ∙ c.as_slice-2.ensures in
    let good = rw c.if-not-branch.false at c.in_ok-deny.ensures.good in
    subst (λ (before : List (List Lit)). LineAnswer (line_fault clauses.vars before line) c.check_hints.result) (append-nil clauses.list)
    (line-answer c.in_ok-known.known.vars clauses.vars (clauses_before clauses.list (take 0 c.push.new.self)) line c.of_clause.result c.deny.new.known.lits c.hints.result _ (ap (λ k. k.vars) c.in_ok-known.ensures ∙ c.vars.ensures) (c.of_clause.ensures ∙ c.as_slice.ensures) good.1 hints good.0 c.check_hints.ensures.answer)
