use Rattle.std.proofs.Common.{◌≡◌, Some, true, sym, subst, ap}
use Rattle.clause_db.specs.declared.lit.Lit.{Lit}
use Rattle.trail_prop.specs.Entries.{lits_of, Assigned}
use Rattle.trail_prop.specs.Watching.{HasTrue, lit_at}
use Rattle.trail_prop.proofs.Safety.{safe-good}
use Rattle.trail_prop.proofs.watchable.watchable_places.Goals as goal

pub returns : goal.returns
returns c =
    let es = c.args.plain.now.entries in
    let clause = c.args.clause.now in
    let holds = c.has_true-holds.result in
    let t : holds ≡ true → HasTrue (lits_of es) clause = subst (λ (a : Assigned). holds ≡ true → HasTrue (lits_of a.entries) clause) c.assigned.ensures c.has_true-holds.ensures in
    let first = c.in_ok-first.ensures in
    let second = c.in_ok-second.ensures in
    record {
      first_within = first.0;
      second_within = second.0;
      apart = λ e. second.2 (ap (λ (l : Lit). Some l) (sym e));
      first_safe = safe-good es holds clause (lit_at clause c.in_ok-first.first) t first.1;
      second_safe = safe-good es holds clause (lit_at clause c.in_ok-second.second) t second.1;
    }
