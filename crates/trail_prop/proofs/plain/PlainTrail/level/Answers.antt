use Rattle.std.proofs.Common.{[], ◌≤◌, subst}
use Rattle.std.specs.List.{All}
use Rattle.trail_prop.specs.declared.entry.TrailEntry.{TrailEntry}
use Rattle.trail_prop.specs.Entries.{level_of}
use Rattle.trail_prop.specs.Trails.{TrailView}
use Rattle.trail_prop.proofs.Trailing.{levels-up}
use Rattle.trail_prop.proofs.plain.PlainTrail.level.Goals as goal

pub returns-clause-top : goal.returns-clause-top
returns-clause-top c = subst (λ (v : TrailView). All (λ (e : TrailEntry). e.level ≤ level_of v.entries) v.entries) c.self.view_is (levels-up c.self.inside.clauses [] c.self.inside.assigned.entries c.self.invariant.trail)
