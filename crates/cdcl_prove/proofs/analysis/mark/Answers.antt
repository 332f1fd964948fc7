use Rattle.std.proofs.Common.{ℕ, ◌≡◌, ◌≤◌, ◌∙◌, Some, length, sym, ap, subst}
use Rattle.clause_db.specs.Clause.{clause_at}
use Rattle.clause_db.specs.Clauses.{Clauses}
use Rattle.trail_prop.specs.Entries.{lits_of}
use Rattle.trail_prop.specs.Open.{LitsWithin}
use Rattle.cdcl_prove.proofs.TrailLemmas.{false-number, false-within_at}
use Rattle.cdcl_prove.proofs.analysis.mark.Goals as goal

pub get-clause-requires-clause-from_one : goal.get-clause-requires-clause-from_one
get-clause-requires-clause-from_one c = (false-number (lits_of c.args.trail.now.entries) c.args.trail.now.clauses.list c.args.conflict.clause c.requires).0

pub get-clause-requires-clause-to_len : goal.get-clause-requires-clause-to_len
get-clause-requires-clause-to_len c =
    subst (λ (z : Clauses). c.args.conflict.clause ≤ length z.list) (sym c.clauses.ensures.clauses) (false-number (lits_of c.args.trail.now.entries) c.args.trail.now.clauses.list c.args.conflict.clause c.requires).1

pub mark_seen-unresolved-requires : goal.mark_seen-unresolved-requires
mark_seen-unresolved-requires c =
    let within : LitsWithin c.args.trail.now.clauses.vars c.get-clause.result.now = false-within_at c.args.trail.now.clauses c.args.trail.now.entries (clause_at c.args.trail.now.clauses.list c.args.conflict.clause) c.get-clause.result.now c.keeps_reasons.ensures (subst (λ (z : Clauses). clause_at z.list c.args.conflict.clause ≡ Some c.get-clause.result.now) c.clauses.ensures.clauses c.get-clause.ensures.clause) c.requires in
    let size : length c.reset.new.self ≡ c.args.trail.now.clauses.vars = c.in_ok-reset.ensures.size ∙ (c.vars.ensures ∙ ap (λ (z : Clauses). z.vars) c.clauses-2.ensures.clauses) in
    subst (λ (n : ℕ). LitsWithin n c.get-clause.result.now) (sym size) within
