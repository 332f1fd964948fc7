use Rattle.std.proofs.Common.{◌≡◌, ◌<◌, List, length, get_or, sym, ap, ◌∙◌, subst, arith}
use Rattle.clause_db.specs.Clauses.{LitWithin}
use Rattle.trail_prop.specs.declared.watches.Watch.{Watch}
use Rattle.trail_prop.specs.Watching.{WatchView, watches_at}
use Rattle.trail_prop.proofs.Minding.{code-listed}
use Rattle.trail_prop.proofs.Meeting.{same-watch, held-shrunk, moved-apart, hung-gone, hung-held, hung-new}
use Rattle.trail_prop.proofs.propagate.rewatch.Goals as goal

pub blocked_by-requires : goal.blocked_by-requires
blocked_by-requires c =
    let w = c.requires.other.1 in
    let s = c.requires.watch_invariant.small in
    record { from_one = c.requires.other.0; small = omega arith }

pub add_watch-requires-clause-within : goal.add_watch-requires-clause-within
add_watch-requires-clause-within c = c.requires.lit

pub drop_watch-requires-clause-stands : goal.drop_watch-requires-clause-stands
drop_watch-requires-clause-stands c =
    let v = c.args.watching.now in
    let apart = moved-apart v.trail.clauses.vars v.trail.entries _ _ c.args.gone c.args.moved c.requires.next.within c.requires.lit c.requires.gone c.requires.moved in
    let same = hung-gone v c.add_watch.new.self c.args.moved.lit c.args.gone _ c.in_ok-add_watch.ensures.watch_added apart in
    let n = c.requires.next.next in
    record {
      within = subst (λ (h : WatchView). LitWithin h.trail.clauses.vars c.args.gone) (sym c.in_ok-add_watch.ensures.watch_added) c.requires.next.within;
      place = subst (λ (z : List Watch). c.args.at < length z) (sym same) n.place;
      clause = subst (λ (z : List Watch). (d : Watch) → (get_or z c.args.at d).clause ≡ c.args.watch.clause) (sym same) (same-watch (watches_at v.lists c.args.gone) c.args.at c.args.watch n.place n.watch);
    }

pub drop_watch-requires-clause-lit : goal.drop_watch-requires-clause-lit
drop_watch-requires-clause-lit c = subst (λ (h : WatchView). LitWithin h.trail.clauses.vars c.args.moved.lit) (sym c.in_ok-add_watch.ensures.watch_added) c.requires.lit

pub drop_watch-requires-clause-other : goal.drop_watch-requires-clause-other
drop_watch-requires-clause-other c = subst (λ (h : WatchView). LitWithin h.trail.clauses.vars c.args.moved.other) (sym c.in_ok-add_watch.ensures.watch_added) c.requires.other

pub drop_watch-requires-clause-watch_added : goal.drop_watch-requires-clause-watch_added
drop_watch-requires-clause-watch_added c = hung-new c.args.watching.now c.add_watch.new.self c.args.moved.lit c.blocked_by.result c.args.watch.clause (code-listed c.args.watching.now c.args.moved.lit c.requires.watch_invariant c.requires.lit) c.in_ok-add_watch.ensures.watch_added c.blocked_by.ensures.same.0

pub returns-clause-met : goal.returns-clause-met
returns-clause-met c =
    let v = c.args.watching.now in
    let apart = moved-apart v.trail.clauses.vars v.trail.entries _ _ c.args.gone c.args.moved c.requires.next.within c.requires.lit c.requires.gone c.requires.moved in
    let same = hung-gone v c.add_watch.new.self c.args.moved.lit c.args.gone _ c.in_ok-add_watch.ensures.watch_added apart in
    let held = hung-held v c.add_watch.new.self c.args.moved.lit c.args.gone c.args.at _ c.in_ok-add_watch.ensures.watch_added apart c.requires.next.next.held in
    (held-shrunk c.add_watch.new.self c.drop_watch.new.self c.args.gone c.args.at c.drop_watch.ensures held, c.drop_watch.ensures.left ∙ ap (λ (z : List Watch). length z) same)
