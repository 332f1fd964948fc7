-- One list changed.
use Rattle.std.proofs.Common.{◌≡◌, ◌∙◌, ◌*◌, ◌<◌, sym, ap, length, arith}
use Rattle.std.proofs.lemmas.List.{length-map}
use Rattle.clause_db.specs.Clause.{code_of}
use Rattle.cert_types.specs.ClauseIndex.{ClauseIndexView}
use Rattle.clause_db.proofs.ChangedLists.{lists-pushed}
use Rattle.cert_types.proofs.ClauseIndexLemmas.{put-view}
use Rattle.cert_types.proofs.clause_index.ClauseIndex.put.Goals as goal
use Rattle.clause_db.proofs.Literals.{code-below}

pub returns-clause-indexed : goal.returns-clause-indexed
returns-clause-indexed c =
    let old = c.args.self.now in
    let same = ap (λ (z : ClauseIndexView). z.lists) c.self.view_is in
    let size : length old.lists ≡ 2 * c.self.inside.vars = ap length (sym same) ∙ length-map c.self.inside.lists.items (λ v. v.items) ∙ c.self.invariant in
    let vars : c.self.inside.vars ≡ old.vars = ap (λ (z : ClauseIndexView). z.vars) c.self.view_is in
    let below : code_of c.args.lit < 2 * old.vars = code-below old.vars c.args.lit c.requires in
    let code : c.code.result ≡ code_of c.args.lit = c.code.ensures in
    let within : c.code.result < length old.lists = omega arith in
    sym (put-view old _ _ _ c.code.result c.args.lit c.args.indexed vars
    (lists-pushed (λ v. v.items) c.self.inside.lists.items c.code.result c.push.new.self c.index_mut.result.now c.args.indexed old.lists same within c.index_mut.ensures.value c.in_ok-push.ensures.items)
    (ap (λ (z : ClauseIndexView). z.unkeyed) c.self.view_is) code)
