use Rattle.std.proofs.Common.{sym, subst, arith}
use Rattle.trail_prop.specs.Entries.{Assigned, IsEntryOf}
use Rattle.trail_prop.proofs.assignment.TrueLiterals.entry_of.Goals as goal

pub returns-clause-found : goal.returns-clause-found
returns-clause-found c =
    subst (λ (v : Assigned). IsEntryOf v.entries c.args.var c.index-entry.result.now) c.self.view_is
    (c.index.result.now, (omega (arith, c.if-at-len.false, c.len.ensures, c.self.inside.entries.ok.0), sym c.index-entry.ensures), c.if-entry-var.false)
