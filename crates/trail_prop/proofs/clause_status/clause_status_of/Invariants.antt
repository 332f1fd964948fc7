use Rattle.std.proofs.Common.{◌≡◌, false, Some, take, option_to_list}
use Rattle.clause_db.specs.declared.lit.Lit.{Lit}
use Rattle.clause_db.specs.Clause.{has_lit}
use Rattle.clause_db.specs.Forced.{not_false}
use Rattle.trail_prop.specs.Entries.{lits_of}
use Rattle.trail_prop.proofs.clause_status.clause_status_of.Given as goal

abbrev pub invariant-loop-lit : goal.invariant-loop-lit
invariant-loop-lit l = record {
  kept : not_false (lits_of l.assigned.entries) (take l.lit-index l.clause) ≡ option_to_list l.open;
  still : (x : Lit) → l.open ≡ Some x → has_lit (lits_of l.assigned.entries) x ≡ false;
}
