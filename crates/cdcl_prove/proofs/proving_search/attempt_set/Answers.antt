use Rattle.std.proofs.Common.{ℕ, ◌≡◌, true, List, sym, subst}
use Rattle.pack_defs.specs.Lists.{is_ascending}
use Rattle.cert_types.specs.Refutes.{is_subset}
use Rattle.cert_types.proofs.QueryLaws.{query-parts}
use Rattle.cert_types.proofs.Outsiders.{subset-itself}
use Rattle.cdcl_prove.proofs.proving_search.attempt_set.Goals as goal

pub search_set-requires : goal.search_set-requires
search_set-requires g c = subst (λ (xs : List ℕ). is_ascending xs ≡ true) (sym c.as_slice-set.ensures) (query-parts c.args.book.now c.args.task.now c.requires.query).rises

pub returns-in_ok-answer-in-Refuted-clause-said : goal.returns-in_ok-answer-in-Refuted-clause-said
returns-in_ok-answer-in-Refuted-clause-said g c =
    let set = c.args.task.now.set in
    let within : is_subset c.as_slice-set.result.now set ≡ true = subst (λ (xs : List ℕ). is_subset xs set ≡ true) (sym c.as_slice-set.ensures) (subset-itself set (query-parts c.args.book.now c.args.task.now c.requires.query).rises) in
    let ended = rw c.in-Refuted.is at c.in_ok-derivation.ensures.outcome in
    c.in_ok-answer-in-Refuted.ensures c.args.book.now c.args.task.now c.args.worker c.requires.learner c.in_ok-derivation.ensures.formula within ended.1

pub returns-in-Model-clause-said : goal.returns-in-Model-clause-said
returns-in-Model-clause-said g c = c.fit_attempt.ensures c.args.worker _
