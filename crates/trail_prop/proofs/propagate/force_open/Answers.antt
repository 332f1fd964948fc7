use Rattle.std.proofs.Common.{◌≡◌, ◌+◌, [], length, true, false, Some, refl, sym, ap, ◌∙◌, subst}
use Rattle.clause_db.specs.Clause.{opposite, has_lit}
use Rattle.clause_db.proofs.Cutting.{clause_at-get}
use Rattle.trail_prop.specs.declared.entry.TrailEntry.{TrailEntry}
use Rattle.trail_prop.specs.Entries.{lits_of, level_of}
use Rattle.trail_prop.specs.Steps.{AreHeld}
use Rattle.trail_prop.specs.Trails.{IsFalseAt, forced_at, TrailView}
use Rattle.trail_prop.specs.Watching.{WatchView, watches_at}
use Rattle.trail_prop.proofs.Meeting.{both-open, held-forced}
use Rattle.trail_prop.proofs.propagate.force_open.Goals as goal

pub returns-then-is_true-clause-met : goal.returns-then-is_true-clause-met
returns-then-is_true-clause-met c =
    let v = c.args.watching.now in
    let f = c.requires.next.fits in
    let look : has_lit (lits_of v.trail.entries) (opposite c.args.lit) ≡ true = sym (c.is_true.ensures ∙ (λ i. has_lit (lits_of (c.assigned.ensures i).entries) (c.opposite.ensures i)) ∙ ap (λ (t : TrailView). has_lit (lits_of t.entries) (opposite c.args.lit)) c.plain.ensures.plain) ∙ c.if-is_true.true in
    subst (λ o. IsFalseAt (lits_of v.trail.entries) o) (sym (clause_at-get v.trail.clauses.list c.args.watch.clause [] f.from_one f.to_last)) (c.requires.only.fails look)

pub force-requires : goal.force-requires
force-requires c =
    let v = c.args.watching.now in
    let f = c.requires.next.fits in
    let look : has_lit (lits_of v.trail.entries) (opposite c.args.lit) ≡ false = sym (c.is_true.ensures ∙ (λ i. has_lit (lits_of (c.assigned.ensures i).entries) (c.opposite.ensures i)) ∙ ap (λ (t : TrailView). has_lit (lits_of t.entries) (opposite c.args.lit)) c.plain.ensures.plain) ∙ c.if-is_true.false in
    ap (λ o. forced_at (lits_of v.trail.entries) o) (clause_at-get v.trail.clauses.list c.args.watch.clause [] f.from_one f.to_last) ∙ c.requires.only.forces (both-open (lits_of v.trail.entries) c.args.lit c.requires.unknown look)

pub returns-clause-met : goal.returns-clause-met
returns-clause-met c =
    let v = c.args.watching.now in
    let x : TrailEntry = record { lit = c.args.lit; level = level_of v.trail.entries; reason = Some c.args.watch.clause } in
    subst (λ (h : WatchView). AreHeld h c.args.gone (c.args.at + 1) × (length (watches_at h.lists c.args.gone) ≡ length (watches_at v.lists c.args.gone))) (sym c.force.ensures.pushed)
    (held-forced v c.args.gone c.args.at c.args.watch x c.requires.next.held c.requires.next.place c.requires.next.watch c.requires.only.has, refl)
