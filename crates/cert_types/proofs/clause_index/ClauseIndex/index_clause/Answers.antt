-- The clause is filed under a literal of its own, or under none; or it has a literal that no line has.
use Rattle.std.proofs.lemmas.Result.{on_ok_weaker}
use Rattle.std.proofs.Common.{◌∙◌, sym, ap, get_or}
use Rattle.cert_types.specs.declared.clause_index.IndexedClause.{IndexedClause}
use Rattle.cert_types.specs.ClauseIndex.{with_indexed, zero_lit}
use Rattle.cert_types.specs.Uses.{is_used}
use Rattle.cert_types.proofs.ClauseIndexLemmas.{filed-at, filed-loosely, not-filed}
use Rattle.cert_types.proofs.clause_index.ClauseIndex.index_clause.Goals as goal

pub indexed_clause_of-requires-clause-small : goal.indexed_clause_of-requires-clause-small
indexed_clause_of-requires-clause-small c = c.in-Some.ensures.1.2

pub returns-then-not-are_used : goal.returns-then-not-are_used
returns-then-not-are_used c = λ all seen there h.
    not-filed (is_used c.args.uses.now) all seen c.args.self.now c.args.clause.now (sym c.are_used.ensures ∙ c.if-not-are_used.true) h

pub returns-in-Some : goal.returns-in-Some
returns-in-Some c =
    on_ok_weaker c.put.result
    (λ e. filed-at (is_used c.args.uses.now) c.args.self.now c.put.new.self c.args.clause.now c.args.number c.in-Some.at c.in-Some.other c.requires c.put.ensures.size c.in-Some.ensures.0 c.in-Some.ensures.1
    (e ∙ ap (λ (f : IndexedClause). with_indexed c.args.self.now (get_or c.args.clause.now c.in-Some.at zero_lit) f) c.indexed_clause_of.ensures))
    c.put.ensures.indexed

pub returns-in-None : goal.returns-in-None
returns-in-None c =
    on_ok_weaker c.put_unkeyed.result (λ e. filed-loosely (is_used c.args.uses.now) c.args.self.now c.put_unkeyed.new.self c.args.clause.now c.args.number e) c.put_unkeyed.ensures
