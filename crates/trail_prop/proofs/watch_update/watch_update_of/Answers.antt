use Rattle.std.proofs.Common.{◌≡◌, true, sym, subst, ◌∙◌}
use Rattle.clause_db.specs.declared.lit.Lit.{Lit}
use Rattle.clause_db.specs.Clause.{has_lit, opposite}
use Rattle.trail_prop.specs.Entries.{lits_of}
use Rattle.trail_prop.specs.Watching.{lit_at}
use Rattle.trail_prop.proofs.Finding.{found-none}
use Rattle.trail_prop.proofs.watch_update.watch_update_of.Goals as goal

pub returns-in_default-find_place : goal.returns-in_default-find_place
returns-in_default-find_place c =
    let known = lits_of c.args.assigned.now.entries in
    let s = c.in-Some.ensures in
    let g : has_lit known (opposite (lit_at c.args.clause.now c.in-Some.sides.mine)) ≡ true = subst (λ (l : Lit). has_lit known (opposite l) ≡ true) (sym s.2) c.requires.gone in
    (found-none known c.args.clause.now c.in-Some.sides.mine c.in-Some.sides.other c.in_default-find_place.ensures s.1 g, sym c.is_true.ensures ∙ c.if-is_true.false)
