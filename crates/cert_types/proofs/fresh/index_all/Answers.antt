-- One more clause is filed.
use Rattle.std.proofs.Common.{◌≡◌, ◌∙◌, ◌+◌, ◌-◌, ◌<◌, ◌*◌, ap, arith, length, get_or, []}
use Rattle.rup_check.specs.Follows.{clauses_before}
use Rattle.cert_types.specs.Uses.{is_used}
use Rattle.cert_types.proofs.ClauseIndexLemmas.{nothing-filed, formula-filed}
use Rattle.cert_types.proofs.fresh.index_all.Goals as goal

pub loop-i-init : goal.loop-i-init
loop-i-init c = nothing-filed (is_used c.args.uses.now) (clauses_before c.args.clauses.now.list c.args.lines.now) c.in_ok-files.files c.vars.result (2 * c.vars.result) c.in_ok-files.ensures

pub loop-i-preserved : goal.loop-i-preserved
loop-i-preserved c =
    let list = c.args.clauses.now.list in
    let below : c.loop-i.i < length list = omega (arith, c.loop-i-test.true, c.len-i-end.ensures) in
    let place : c.loop-i.i + 1 - 1 ≡ c.loop-i.i = omega arith in
    formula-filed (is_used c.args.uses.now) list c.args.lines.now c.loop-i.files c.index_clause.new.self c.loop-i.i c.get.result.now below c.get.ensures.clause (c.get.ensures.at ∙ ap (λ k. get_or list k []) place) c.in_ok-index_clause.ensures c.loop-i.invariant
