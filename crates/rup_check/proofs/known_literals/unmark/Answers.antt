use Rattle.std.proofs.Common.{◌≡◌, ◌∙◌, sym, subst, List, length, false, ◌*◌, get_or}
use Rattle.std.proofs.lemmas.List.{drop_all}
use Rattle.clause_db.specs.declared.lit.Lit.{Lit}
use Rattle.clause_db.proofs.Literals.{drop-from}
use Rattle.rup_check.proofs.Marking.{MarkedIn, marked-first, marked-cleared, marked-skipped, marked-none, within-from}
use Rattle.rup_check.proofs.known_literals.unmark.Goals as goal
use Rattle.rup_check.proofs.known_literals.unmark.Goals.{then-within, else-within}

abbrev is_zero : Lit
is_zero = record { var = 0; positive = false }

pub loop-lit-init : goal.loop-lit-init
loop-lit-init c = marked-first c.args.vars c.args.marks.now c.args.lits.now c.requires.marked

pub loop-lit-preserved : goal.loop-lit-preserved
loop-lit-preserved c =
    let split = drop-from c.args.lits.now c.loop-lit.lit-index is_zero c.loop-lit-test.true in
    let before = subst (λ (z : List Lit). MarkedIn c.args.vars c.loop-lit.marks z) split c.loop-lit.invariant in
    elim c.if-within.branch [
      | then-within w ↦
          let size : length c.loop-lit.marks ≡ 2 * c.args.vars = c.loop-lit.auto.marks ∙ c.requires.size in
          rw (w.marks-is, w.code.ensures) (marked-cleared c.args.vars c.loop-lit.marks (get_or c.args.lits.now c.loop-lit.lit-index is_zero) _ size (within-from c.args.vars (get_or c.args.lits.now c.loop-lit.lit-index is_zero) (sym c.within.ensures ∙ w.if-within.true)) before)
      | else-within w ↦ rw w.marks-is (marked-skipped c.args.vars c.loop-lit.marks (get_or c.args.lits.now c.loop-lit.lit-index is_zero) _ (sym c.within.ensures ∙ w.if-within.false) before)
    ]

pub returns : goal.returns
returns c = marked-none c.args.vars c.loop-lit.marks (subst (λ (z : List Lit). MarkedIn c.args.vars c.loop-lit.marks z) (drop_all c.loop-lit.lit-index c.args.lits.now c.loop-lit-test.false) c.loop-lit.invariant)
