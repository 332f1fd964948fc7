use Rattle.std.proofs.Common.{◌≡◌, ◌<◌, List, [], false, length, get_or, sym, ap, subst, arith, Some, None}
use Rattle.clause_db.specs.Clauses.{LitWithin}
use Rattle.trail_prop.specs.declared.entry.TrailEntry.{TrailEntry}
use Rattle.trail_prop.specs.Watching.{WatchView}
use Rattle.std.proofs.lemmas.List.{get_or_default}
use Rattle.trail_prop.specs.Steps.{NextIs}
use Rattle.trail_prop.specs.Entries.{IsTrailEntry}
use Rattle.trail_prop.proofs.Opening.{known-within}
use Rattle.trail_prop.proofs.Places.{entry-known}
use Rattle.trail_prop.proofs.Trailing.{fits-opens}
use Rattle.trail_prop.proofs.watching.Watching.next.Goals as goal

pub returns-then-self-entries : goal.returns-then-self-entries
returns-then-self-entries c =
    let v : WatchView = record { trail = c.self.inside.plain; lists = c.self.inside.watches; places = c.self.inside.places.items; pending = c.self.inside.pending.items; head = c.self.inside.head } in
    let es = v.trail.entries in
    let d : TrailEntry = record { lit = record { var = 0; positive = false }; level = 0; reason = None } in
    let same = c.entries-entries.ensures in
    let e = get_or es v.head d in
    let n : length c.entries-entries.result.now ≡ length es = ap (λ (z : List TrailEntry). length z) same in
    let t = c.if-self-entries.true in
    let b : v.head < length es = omega arith in
    let i : IsTrailEntry es v.head e = (b, get_or_default es v.head e d b) in
    let o = fits-opens v.trail.clauses [] es c.keeps_reasons.ensures in
    let w : LitWithin v.trail.clauses.vars e.lit = known-within v.trail.clauses.vars [] es e.lit o (entry-known es v.head e i) in
    let there : NextIs v (Some e) = (i, w) in
    subst (λ (z : List TrailEntry). NextIs c.args.self.now (Some (get_or z v.head d))) (sym same) (subst (λ (x : WatchView). NextIs x (Some e)) c.self.view_is there)
