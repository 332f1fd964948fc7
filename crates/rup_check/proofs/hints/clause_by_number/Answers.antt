use Rattle.std.proofs.Common.{◌≡◌, ◌∙◌, ◌-◌, sym, ap, arith, length, map, take, Some}
use Rattle.std.proofs.lemmas.List.{get_or-take, get_or_default, length-map, length-take-le}
use Rattle.rup_check.specs.declared.line.Line.{Line}
use Rattle.clause_db.proofs.Numbering.{clause_at-zero, clause_at-before, clause_at-after, clause_at-past}
use Rattle.rup_check.specs.Follows.{clauses_before}
use Rattle.rup_check.specs.Packed.{line_at, no_line}
use Rattle.rup_check.proofs.Reading.{line-read}
use Rattle.rup_check.proofs.hints.clause_by_number.Goals as goal

pub returns-then-number-eq0 : goal.returns-then-number-eq0
returns-then-number-eq0 c = rw c.if-number-eq0.true (clause_at-zero (clauses_before c.args.clauses.now.list (take c.args.before c.args.lines.now)))

pub returns-then-number-count : goal.returns-then-number-count
returns-then-number-count c =
    clause_at-before c.args.clauses.now.list _ c.args.number (omega arith) (omega (arith, c.len-count.ensures)) ∙ c.get.ensures.clause ∙ ap Some (sym c.of_clause.ensures)

pub returns-then-past-before : goal.returns-then-past-before
returns-then-past-before c =
    let earlier = take c.args.before c.args.lines.now in
    clause_at-after c.args.clauses.now.list (map (λ (l : Line). l.lits) earlier) c.args.number (omega (arith, c.len-count.ensures))
    ∙ clause_at-past (map (λ (l : Line). l.lits) earlier) _ (omega (arith, c.len-count.ensures, length-map earlier (λ (l : Line). l.lits), length-take-le c.args.before c.args.lines.now c.requires))

pub returns : goal.returns
returns c =
    let lines = c.args.lines.now in
    let k = c.args.number - c.len-count.result - 1 in
    let line = line_at lines k in
    let long : length (take c.args.before lines) ≡ c.args.before = length-take-le c.args.before lines c.requires in
    line-read c.args.clauses.now.list (take c.args.before lines) c.args.number c.len-count.result line c.lits.result c.len-count.ensures c.if-number-count.false (omega (arith, long, c.if-past-before.false))
    (get_or_default lines k no_line line (omega (arith, c.requires, c.if-past-before.false, c.if-number-count.false)) ∙ sym (get_or-take c.args.before lines k line (omega (arith, c.if-past-before.false, c.if-number-count.false))))
    c.lits.ensures
