use Rattle.std.proofs.Common.{◌≡◌, take, map, length}
use Rattle.std.specs.List.{All}
use Rattle.clause_db.specs.Clauses.{LitWithin}
use Rattle.trail_prop.specs.declared.entry.TrailEntry.{TrailEntry}
use Rattle.cdcl_prove.specs.Analysis.{learnt_line_of, entries_passing, reason_of, keeps, resolves}
use Rattle.cdcl_prove.proofs.analysis.line_of.Given as goal

abbrev pub invariant-loop-entry : goal.invariant-loop-entry
invariant-loop-entry l = record {
  all : l.entry-items ≡ l.trail.entries;
  within : All (λ (e : TrailEntry). LitWithin (length l.marks) e.lit) l.trail.entries;
  lits : l.lits.items ≡ learnt_line_of (keeps l.marks) (take l.entry-index l.trail.entries);
  hints : l.hints.items ≡ map reason_of (entries_passing (resolves l.marks) (take l.entry-index l.trail.entries));
}
