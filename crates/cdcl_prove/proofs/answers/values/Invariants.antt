use Rattle.std.proofs.Common.{ℕ, ◌≡◌, ◌≤◌, length}
use Rattle.clause_db.specs.Clause.{has_lit, pos_lit}
use Rattle.cnf_encode.specs.Decode.{listed_model}
use Rattle.trail_prop.specs.Entries.{lits_of}
use Rattle.cdcl_prove.proofs.answers.values.Given as goal

abbrev pub invariant-loop-i : goal.invariant-loop-i
invariant-loop-i l = record {
  size : length l.values.items ≡ l.i;
  reads : (v : ℕ) → 1 ≤ v → v ≤ l.i → listed_model l.values.items v ≡ has_lit (lits_of l.trail.entries) (pos_lit v);
  end : l.i-end ≡ l.trail.clauses.vars;
}
