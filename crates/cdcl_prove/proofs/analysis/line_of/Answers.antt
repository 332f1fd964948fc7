use Rattle.std.proofs.Common.{ℕ, sym, subst, []}
use Rattle.std.specs.List.{All}
use Rattle.clause_db.specs.Clauses.{LitWithin}
use Rattle.trail_prop.specs.declared.entry.TrailEntry.{TrailEntry}
use Rattle.cdcl_prove.proofs.TrailLemmas.{each-within}
use Rattle.cdcl_prove.proofs.analysis.line_of.Goals as goal

pub loop-entry-init : goal.loop-entry-init
loop-entry-init c = record {
  all = c.entries-entry-items.ensures;
  within = subst (λ (n : ℕ). All (λ (e : TrailEntry). LitWithin n e.lit) c.args.trail.now.entries) (sym c.requires) (each-within c.args.trail.now.clauses [] c.args.trail.now.entries c.keeps_reasons.ensures);
  lits = c.new-lits.ensures.items;
  hints = c.new-hints.ensures.items;
}
