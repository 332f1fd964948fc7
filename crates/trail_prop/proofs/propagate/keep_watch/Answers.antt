use Rattle.std.proofs.Common.{sym, subst, arith}
use Rattle.trail_prop.specs.Steps.{IsNextWatch}
use Rattle.trail_prop.specs.Watching.{WatchView}
use Rattle.trail_prop.proofs.Minding.{code-listed}
use Rattle.trail_prop.proofs.Meeting.{next-put, fits-named}
use Rattle.trail_prop.proofs.propagate.keep_watch.Goals as goal

pub blocked_by-named-requires : goal.blocked_by-named-requires
blocked_by-named-requires c =
    let w = c.requires.other.1 in
    let s = c.requires.watch_invariant.small in
    record { from_one = c.requires.other.0; small = omega arith }

pub force_open-requires-clause-next : goal.force_open-requires-clause-next
force_open-requires-clause-next c =
    let v = c.args.watching.now in
    let n = c.requires.next.next in
    let named = c.blocked_by-named.result in
    let says = c.blocked_by-named.ensures in
    let f = fits-named v.trail.clauses.list c.args.gone c.args.other c.args.watch named n.fits c.requires.next.long says.same says.blocker c.requires.only.has in
    subst (λ (h : WatchView). IsNextWatch h c.args.gone c.args.at named) (sym c.put.ensures) (next-put v c.args.gone c.args.at named (code-listed v c.args.gone c.requires.watch_invariant c.requires.next.within) n.place f n.held)
