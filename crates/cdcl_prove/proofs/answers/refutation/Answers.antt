use Rattle.std.proofs.Common.{ℕ, ◌≡◌, ◌∙◌, ◌++◌, ◌∷◌, [], List, sym, subst}
use Rattle.cert_types.specs.declared.answer.Answer.TheVariants.{Refuted}
use Rattle.cert_types.specs.declared.answer.Refutation.TheVariants.{Proof}
use Rattle.cert_types.specs.Valid.{IsValid}
use Rattle.cdcl_prove.proofs.AnswerLemmas.{proof-valid}
use Rattle.cdcl_prove.proofs.answers.refutation.Goals as goal

pub returns : goal.returns
returns c book task worker learner formula within few =
    let subset = c.from_vec.ensures ∙ c.in_ok-from_slice.ensures.items in
    let pushed : c.push.new.self ≡ c.args.derivation.lines ++ c.args.last ∷ [] = c.in_ok-push.ensures.pushed ∙ (λ i. c.into_lines-lines.ensures.lines i ++ record { lits = c.as_slice.ensures i; hints = c.as_slice-2.ensures i } ∷ []) in
    subst (λ (xs : List ℕ). IsValid book task worker (Refuted (Proof xs (record { lines = c.fitted.result })))) (sym subset)
    (proof-valid book task worker c.args.subset.now c.args.derivation.formula c.args.derivation.lines c.args.last (record { lines = c.fitted.result }) learner formula within c.into_lines-lines.ensures.spent c.requires.follows c.requires.ends few (c.fitted.ensures ∙ pushed))
