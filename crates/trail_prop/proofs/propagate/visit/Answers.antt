use Rattle.std.proofs.Common.{ℕ, List, sym, ◌∙◌, subst, arith}
use Rattle.std.specs.List.{All}
use Rattle.trail_prop.specs.declared.watches.Watch.{Watch}
use Rattle.trail_prop.specs.Entries.{level_of}
use Rattle.trail_prop.specs.Steps.{IsWatchHeld, WatchOutcomeIs}
use Rattle.trail_prop.specs.Watching.{watches_at}
use Rattle.std.proofs.lemmas.List.{take_all}
use Rattle.trail_prop.specs.Watching.{IsHeadOpposite}
use Rattle.trail_prop.proofs.Meeting.{stands-grows, stands-false}
use Rattle.trail_prop.proofs.Trailing.{grows-trans}
use Rattle.trail_prop.proofs.propagate.visit.Goals as goal

pub visit_watch-requires-clause-gone : goal.visit_watch-requires-clause-gone
visit_watch-requires-clause-gone c =
    let s = stands-grows c.args.watching.now.trail.entries c.loop-at.watching.trail.entries c.args.watching.now.head c.args.gone c.loop-at.invariant.grows c.requires.stands in
    stands-false c.loop-at.watching.trail.entries c.args.watching.now.head (level_of c.loop-at.watching.trail.entries) c.args.gone s

pub returns-in_err-conflict-clause-grows : goal.returns-in_err-conflict-clause-grows
returns-in_err-conflict-clause-grows c = grows-trans _ _ _ c.loop-at.invariant.grows c.in_err-conflict.ensures.grows

pub returns-in-False-clause-grows : goal.returns-in-False-clause-grows
returns-in-False-clause-grows c = grows-trans _ _ _ c.loop-at.invariant.grows c.in_ok-conflict.ensures.grows

pub loop-at-preserved-in-Stays : goal.loop-at-preserved-in-Stays
loop-at-preserved-in-Stays c =
    let i = c.loop-at.invariant in
    let e = c.in_ok-conflict.ensures in
    let m = subst (λ met. WatchOutcomeIs c.loop-at.watching c.visit_watch.new.watching c.args.gone c.loop-at.at met) c.in-Stays.is e.met in
    record { clauses = e.clauses ∙ i.clauses; head = e.head ∙ i.head; grows = grows-trans _ _ _ i.grows e.grows; held = m.0 }

pub loop-at-preserved : goal.loop-at-preserved
loop-at-preserved c =
    let i = c.loop-at.invariant in
    let e = c.in_ok-conflict.ensures in
    let m = subst (λ met. WatchOutcomeIs c.loop-at.watching c.visit_watch.new.watching c.args.gone c.loop-at.at met) c.in-Leaves.is e.met in
    record { clauses = e.clauses ∙ i.clauses; head = e.head ∙ i.head; grows = grows-trans _ _ _ i.grows e.grows; held = m.0 }

pub advance-requires-clause-stands : goal.advance-requires-clause-stands
advance-requires-clause-stands c =
    let s = stands-grows c.args.watching.now.trail.entries c.loop-at.watching.trail.entries c.args.watching.now.head c.args.gone c.loop-at.invariant.grows c.requires.stands in
    subst (λ (n : ℕ). IsHeadOpposite c.loop-at.watching.trail.entries n (level_of c.loop-at.watching.trail.entries) c.args.gone) (sym c.loop-at.invariant.head) s

pub advance-requires-clause-held : goal.advance-requires-clause-held
advance-requires-clause-held c =
    let v = c.loop-at.watching in
    let ws = watches_at v.lists c.args.gone in
    let over = c.loop-at-test.false in
    let count = c.count.ensures in
    subst (λ (z : List Watch). All (IsWatchHeld v) z) (take_all c.loop-at.at ws (omega arith)) c.loop-at.invariant.held
