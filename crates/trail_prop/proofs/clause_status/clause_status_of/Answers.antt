use Rattle.std.proofs.Common.{◌≡◌, List, Option, true, false, sym, ap, ◌∙◌, option_to_list}
use Rattle.std.proofs.lemmas.List.{take_all}
use Rattle.std.specs.Prelude.{is_some}
use Rattle.clause_db.specs.declared.lit.Lit.{Lit}
use Rattle.clause_db.specs.Clause.{has_lit}
use Rattle.clause_db.specs.Forced.{not_false}
use Rattle.trail_prop.specs.Entries.{lits_of}
use Rattle.trail_prop.proofs.Forcing.{settled-read, false-from-none}
use Rattle.trail_prop.proofs.clause_status.clause_status_of.Goals as goal
use Rattle.trail_prop.proofs.clause_status.clause_status_of.Goals.{then-is_some-via-then-is_some, then-is_some-via-else-is_some+then-is_true}

pub returns-then-is_some : goal.returns-then-is_some
returns-then-is_some c =
    let e : has_lit (lits_of c.args.assigned.now.entries) c.opposite.result ≡ false = sym c.is_true.ensures ∙ c.if-not-is_true.true in
    let known = lits_of c.args.assigned.now.entries in
    elim c.then-is_some.branch [
      | then-is_some-via-then-is_some w ↦ settled-read known c.args.clause.now c.loop-lit.lit-index _ c.loop-lit.open c.loop-lit-test.true c.loop-lit.invariant.kept (ap (λ (z : Lit). has_lit known z) (sym c.opposite.ensures) ∙ e) (λ n. let some : is_some c.loop-lit.open ≡ true = sym c.is_some.ensures ∙ w.if-is_some.true in let none : is_some c.loop-lit.open ≡ false = ap (λ (z : Option Lit). is_some z) n in cc)
      | then-is_some-via-else-is_some+then-is_true w ↦ settled-read known c.args.clause.now c.loop-lit.lit-index _ c.loop-lit.open c.loop-lit-test.true c.loop-lit.invariant.kept (ap (λ (z : Lit). has_lit known z) (sym c.opposite.ensures) ∙ e) (λ n. sym w.is_true-else-is_some.ensures ∙ w.if-is_true.true)
    ]

pub returns-in-None : goal.returns-in-None
returns-in-None c =
    let known = lits_of c.args.assigned.now.entries in
    false-from-none known c.args.clause.now (ap (λ (z : List Lit). not_false known z) (sym (take_all c.loop-lit.lit-index c.args.clause.now c.loop-lit-test.false)) ∙ c.loop-lit.invariant.kept ∙ ap (λ (z : Option Lit). option_to_list z) c.in-None.is)
