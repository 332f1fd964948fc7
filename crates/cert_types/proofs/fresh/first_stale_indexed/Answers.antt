-- A line is checked, and then filed.
use Rattle.std.proofs.Common.{◌≡◌, ◌∙◌, sym, ap, false, true, List, take, ◌+◌, ◌<◌, ◌++◌, length}
use Rattle.clause_db.specs.declared.lit.Lit.{Lit}
use Rattle.rup_check.specs.declared.line.Line.{Line}
use Rattle.rup_check.specs.Follows.{clauses_before}
use Rattle.rup_check.specs.Packed.{line_at}
use Rattle.std.specs.List.{list_all}
use Rattle.cert_types.specs.Uses.{is_used}
use Rattle.cert_types.specs.Fresh.{first_stale, is_fresh, is_fresh_line}
use Rattle.cert_types.proofs.ClauseIndexLemmas.{line-filed, not-found, was-found}
use Rattle.cert_types.proofs.UseLemmas.{line-used}
use Rattle.cert_types.proofs.LineLemmas.{first-passed, first-stopped, line-here}
use Rattle.cert_types.proofs.fresh.first_stale_indexed.Goals as goal

pub returns-then-has_indexed_within : goal.returns-then-has_indexed_within
returns-then-has_indexed_within c =
    let list = c.args.clauses.now.list in
    let lines = c.args.lines.now in
    let i = c.loop-i.i in
    let seen : List (List Lit) = clauses_before list (take i lines) in
    let line : Line = line_at lines i in
    let lits : List Lit = c.deref-in-loop-i.result.now in
    let below : i < length lines = rw c.len-i-end.ensures at c.loop-i-test.true in
    let read : lits ≡ line.lits = c.deref-in-loop-i.ensures.value ∙ c.in_ok-read_into.ensures ∙ (λ j. c.clear.ensures.items j ++ c.lits.ensures j) in
    let used : list_all (is_used c.args.uses.now) lits ≡ true = line-used _ c.args.uses.now lines i line lits below (line-here lines i below) read c.requires.counted in
    let stale : is_fresh seen lits ≡ false = was-found (is_used c.args.uses.now) (clauses_before list lines) seen c.loop-i.files lits c.has_indexed_within.result used c.loop-i.invariant.indexed c.has_indexed_within.ensures c.if-has_indexed_within.true in
    first-stopped is_fresh_line list lines i line (first_stale list 1 lines) below (line-here lines i below) (ap (is_fresh seen) (sym read) ∙ stale) c.loop-i.invariant.first

pub loop-i-preserved : goal.loop-i-preserved
loop-i-preserved c =
    let list = c.args.clauses.now.list in
    let lines = c.args.lines.now in
    let i = c.loop-i.i in
    let seen : List (List Lit) = clauses_before list (take i lines) in
    let line : Line = line_at lines i in
    let lits : List Lit = c.deref-in-loop-i.result.now in
    let below : i < length lines = rw c.len-i-end.ensures at c.loop-i-test.true in
    let here = line-here lines i below in
    let scratch : c.read_into.new.lits.items ≡ line.lits = c.in_ok-read_into.ensures ∙ (λ j. c.clear.ensures.items j ++ c.lits.ensures j) in
    let read : lits ≡ line.lits = c.deref-in-loop-i.ensures.value ∙ scratch in
    let used : list_all (is_used c.args.uses.now) lits ≡ true = line-used _ c.args.uses.now lines i line lits below here read c.requires.counted in
    let fresh : is_fresh seen lits ≡ true = not-found (is_used c.args.uses.now) (clauses_before list lines) seen c.loop-i.files lits c.has_indexed_within.result used c.loop-i.invariant.indexed c.has_indexed_within.ensures c.if-has_indexed_within.false in
    record {
      indexed = line-filed (is_used c.args.uses.now) list lines c.loop-i.files c.index_clause.new.self i c.in_ok-number.number line c.deref-in-loop-i-2.result.now below here (c.deref-in-loop-i-2.ensures.value ∙ scratch) (c.in_ok-number.ensures ∙ ap (λ n. n + i + 1) c.len.ensures) c.in_ok-index_clause.ensures c.loop-i.invariant.indexed;
      unmarked = ap (λ k. k.lits) c.clear-in-loop-i.ensures;
      first = first-passed is_fresh_line list lines i line (first_stale list 1 lines) below here (ap (is_fresh seen) (sym read) ∙ fresh) c.loop-i.invariant.first;
    }
