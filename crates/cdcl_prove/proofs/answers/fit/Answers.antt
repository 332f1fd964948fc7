use Rattle.std.proofs.Common.{◌≡◌, ◌∙◌, not, true, ℕ, Bool, List, ap, sym, subst}
use Rattle.std.specs.List.{list_all}
use Rattle.clause_db.specs.declared.lit.Lit.{Lit}
use Rattle.clause_db.specs.Clause.{Satisfies}
use Rattle.pack_defs.specs.Lists.{has_entry, is_ascending}
use Rattle.pack_defs.proofs.BookLemmas.{list_all-filter_itself}
use Rattle.pack_defs.specs.Packing.{IsPacking}
use Rattle.cnf_encode.specs.Decode.{listed_model}
use Rattle.cnf_encode.specs.Formula.{packing_formula}
use Rattle.trail_prop.specs.Entries.{lits_of}
use Rattle.trail_prop.specs.Trails.{TrailView}
use Rattle.cdcl_prove.proofs.ModelLemmas.{Reads, model-satisfies}
use Rattle.cert_types.proofs.QueryLaws.{query-kept, query-parts}
use Rattle.cdcl_prove.proofs.AnswerLemmas.{fit-valid}
use Rattle.cdcl_prove.proofs.answers.fit.Goals as goal

pub decode-requires-clause-ascending : goal.decode-requires-clause-ascending
decode-requires-clause-ascending c = subst (λ (xs : List ℕ). is_ascending xs ≡ true) (sym c.as_slice.ensures) (query-parts c.args.book.now c.args.task.now c.requires.query).rises

pub decode-requires-clause-model : goal.decode-requires-clause-model
decode-requires-clause-model c =
    let reads : Reads c.args.derivation.now.formula.vars (lits_of c.args.derivation.now.entries) (listed_model c.in_ok-model.model.items) = subst (λ (t : TrailView). Reads t.clauses.vars (lits_of t.entries) (listed_model c.in_ok-model.model.items)) c.trail.ensures c.in_ok-model.ensures in
    let all = model-satisfies c.args.derivation.now.formula c.args.derivation.now.lines (lits_of c.args.derivation.now.entries) (listed_model c.in_ok-model.model.items) reads c.requires.model.total c.requires.formula.within c.requires.model.complete in
    let of-set : Satisfies (listed_model c.in_ok-model.model.items) (packing_formula c.args.book.now c.args.task.now.set) = subst (λ (z : List (List Lit)). Satisfies (listed_model c.in_ok-model.model.items) z) c.requires.formula.list all in
    let of-slice : Satisfies (listed_model c.in_ok-model.model.items) (packing_formula c.args.book.now c.as_slice.result.now) = subst (λ (xs : List ℕ). Satisfies (listed_model c.in_ok-model.model.items) (packing_formula c.args.book.now xs)) (sym c.as_slice.ensures) of-set in
    subst (λ (bs : List Bool). Satisfies (listed_model bs) (packing_formula c.args.book.now c.as_slice.result.now)) (sym c.deref.ensures.value) of-slice

pub returns-clause-valid : goal.returns-clause-valid
returns-clause-valid c worker =
    let packing : IsPacking c.args.book.now c.args.task.now.set c.in_ok-map.map = subst (λ (xs : List ℕ). IsPacking c.args.book.now xs c.in_ok-map.map) c.as_slice.ensures c.in_ok-map.ensures.packing in
    fit-valid c.args.book.now c.args.task.now worker c.in_ok-map.map c.in_ok-delta.field-0 packing
    (c.in_ok-delta.ensures.whole (query-kept c.args.book.now c.args.task.now c.in_ok-map.map c.requires.query packing.stations))

pub returns-clause-changes : goal.returns-clause-changes
returns-clause-changes c =
    let lacks : ℕ × ℕ → Bool = λ x. not (has_entry c.args.task.now.last x) in
    ap (list_all lacks) c.in_ok-delta.ensures.lacking ∙ list_all-filter_itself lacks c.in_ok-map.map
