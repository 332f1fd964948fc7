use Rattle.std.proofs.Common.{◌≡◌, List, [], length, sym, ap, subst, arith}
use Rattle.std.specs.List.{All}
use Rattle.trail_prop.specs.declared.entry.TrailEntry.{TrailEntry}
use Rattle.trail_prop.specs.Entries.{level_of}
use Rattle.trail_prop.specs.Steps.{IsWatchHeld}
use Rattle.trail_prop.specs.Watching.{WatchView, IsHeadOpposite, watches_at}
use Rattle.trail_prop.proofs.Settling.{watchful-advanced}
use Rattle.trail_prop.proofs.Trailing.{levels-up, no-more-entries}
use Rattle.trail_prop.proofs.watching.Watching.advance.Goals as goal

pub invariant_of-self : goal.invariant_of-self
invariant_of-self c =
    let v : WatchView = record { trail = c.self.inside.plain; lists = c.self.inside.watches; places = c.self.inside.places.items; pending = c.self.inside.pending.items; head = c.self.inside.head } in
    let s : IsHeadOpposite v.trail.entries v.head (level_of v.trail.entries) c.args.gone = subst (λ (x : WatchView). IsHeadOpposite x.trail.entries x.head (level_of x.trail.entries) c.args.gone) (sym c.self.view_is) c.requires.stands in
    let a : All (IsWatchHeld v) (watches_at v.lists c.args.gone) = subst (λ (x : WatchView). All (IsWatchHeld x) (watches_at x.lists c.args.gone)) (sym c.self.view_is) c.requires.held in
    watchful-advanced v c.args.gone (level_of v.trail.entries) c.self.invariant s (levels-up v.trail.clauses [] v.trail.entries c.keeps_reasons.ensures) a

pub returns-then-self-entries-clause-room : goal.returns-then-self-entries-clause-room
returns-then-self-entries-clause-room c =
    let v : WatchView = record { trail = c.self.inside.plain; lists = c.self.inside.watches; places = c.self.inside.places.items; pending = c.self.inside.pending.items; head = c.self.inside.head } in
    let few = no-more-entries v.trail.clauses v.trail.entries c.keeps_reasons.ensures in
    let t = c.if-self-entries.true in
    let e : length c.entries.result.now ≡ length v.trail.entries = ap (λ (z : List TrailEntry). length z) c.entries.ensures in
    omega arith
