use Rattle.std.proofs.Common.{◌≡◌, ℕ, ◌≤◌, List, [], length, sym, ap, subst, arith, refl}
use Rattle.std.specs.List.{All}
use Rattle.trail_prop.specs.declared.entry.TrailEntry.{TrailEntry}
use Rattle.trail_prop.specs.Trails.{TrailView}
use Rattle.trail_prop.specs.Watching.{WatchView, IsWatchInvariant}
use Rattle.trail_prop.proofs.Minding.{watchful-cut}
use Rattle.trail_prop.proofs.Trailing.{levels-up, same-trail}
use Rattle.trail_prop.proofs.watching.Watching.backjump.Goals as goal

pub invariant_of-self : goal.invariant_of-self
invariant_of-self c =
    let v : WatchView = record { trail = c.self.inside.plain; lists = c.self.inside.watches; places = c.self.inside.places.items; pending = c.self.inside.pending.items; head = c.self.inside.head } in
    let later = c.backjump.new.self.entries in
    let cut = c.backjump.ensures.cut in
    let up = levels-up c.backjump.new.self.clauses [] later c.keeps_reasons.ensures in
    let low : All (λ (e : TrailEntry). e.level ≤ c.args.level) later = subst (λ (n : ℕ). All (λ (e : TrailEntry). e.level ≤ n) later) c.backjump.ensures.level up in
    let e : c.backjump.new.self ≡ record { clauses = v.trail.clauses; entries = later } = same-trail c.backjump.new.self v.trail.clauses later c.backjump.ensures.clauses refl in
    let m = c.min-self-inside.ensures in
    let n : length c.entries.result.now ≡ length later = ap (λ (z : List TrailEntry). length z) c.entries.ensures in
    subst (λ (t : TrailView). IsWatchInvariant (record { trail = t; lists = v.lists; places = v.places; pending = v.pending; head = c.min-self-inside.result })) (sym e) (watchful-cut v later cut.gone c.args.level c.min-self-inside.result c.self.invariant cut.splits low cut.above (omega arith) (omega arith))
