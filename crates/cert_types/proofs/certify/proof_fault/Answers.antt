-- The two scans of the log find its first invalid line, and the tests before them passed.
use Rattle.std.proofs.Common.{◌≡◌, ◌<◌, ◌≤◌, length, true, option_map, sym, ap, ◌∙◌, arith}
use Rattle.std.proofs.lemmas.Bool.{eqb-false}
use Rattle.cnf_encode.specs.Formula.{packing_formula, variables_in}
use Rattle.cert_types.specs.declared.answer.Place.TheVariants.{LineAt}
use Rattle.cert_types.specs.FirstLine.{is_empty_iff_last}
use Rattle.cert_types.specs.Refutes.{is_subset}
use Rattle.pack_defs.specs.Scenario.{learns}
use Rattle.cert_types.proofs.CheckLemmas.{first-checked, proof-counted}
use Rattle.cert_types.proofs.certify.proof_fault.Goals as goal

pub returns : goal.returns
returns c =
    let book = c.args.book.now in
    let subset = c.args.subset.now in
    let lines = c.args.log.now.lines in
    let learner : learns c.args.worker.now.kind ≡ true = sym c.learns.ensures ∙ c.if-not-learns.false in
    let some : 0 < length lines = omega (arith, eqb-false (length lines) 0 (sym c.is_empty.ensures ∙ c.if-is_empty.false)) in
    let few : length lines ≤ c.args.worker.now.budget = omega (arith, c.len.ensures, c.if-len-worker.false) in
    let sub : is_subset subset c.args.task.now.set ≡ true = ap (is_subset subset) (sym c.as_slice.ensures) ∙ sym c.is_subset.ensures ∙ c.if-not-is_subset.false in
    let first = first-checked is_empty_iff_last c.in_ok-clauses.clauses.vars (variables_in book subset) c.in_ok-clauses.clauses.list (packing_formula book subset) lines c.in_ok-not_following.not_following c.first_misplaced.result c.lesser.result c.in_ok-clauses.ensures.variables c.in_ok-clauses.ensures.clauses c.in_ok-not_following.ensures (c.first_misplaced.ensures (packing_formula book subset)) c.lesser.ensures in
    c.line_at.ensures ∙ ap (option_map LineAt) first ∙ proof-counted book c.args.task.now c.args.worker.now subset lines learner some few sub
