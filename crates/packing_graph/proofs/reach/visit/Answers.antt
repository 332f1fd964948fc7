use Rattle.std.proofs.Common.{◌≡◌, true, false, get_or, rules}
use Rattle.std.specs.BTreeSet.{contains}
use Rattle.std.specs.Ordering.{nat_cmp}
use Rattle.pack_defs.specs.Lists.{is_in}
use Rattle.packing_graph.proofs.WalkLemmas.{has_more, step-off, step-known, step-new, was_in, was_out}
use Rattle.packing_graph.proofs.reach.visit.Goals as goal
use Rattle.packing_graph.proofs.reach.visit.Goals.{then-branch+in_ok-push, else-branch}

pub loop-t-preserved-then-not-has : goal.loop-t-preserved-then-not-has
loop-t-preserved-then-not-has g c =
    let on = g.S.StationSet.stations c.args.on.now in
    let x = get_or c.args.near.now c.loop-t.t-index 0 in
    let off : is_in on x ≡ false = search rules in
    step-off on c.args.near.now c.loop-t.t-index (contains nat_cmp c.args.seen.now) (contains nat_cmp c.loop-t.seen) c.args.waiting.now.items c.loop-t.waiting.items c.loop-t-test.true c.loop-t.invariant off

pub loop-t-preserved : goal.loop-t-preserved
loop-t-preserved g c =
    let on = g.S.StationSet.stations c.args.on.now in
    let x = get_or c.args.near.now c.loop-t.t-index 0 in
    let there : is_in on x ≡ true = search rules in
    let more = has_more c.loop-t.seen c.insert.new.self x c.in_ok-insert.ensures.updates in
    elim c.if-branch.branch [
      | then-branch+in_ok-push w ↦
          let new : contains nat_cmp c.loop-t.seen x ≡ false = was_out (contains nat_cmp c.loop-t.seen x) c.in_ok-insert.field-0 c.in_ok-insert.ensures.added w.if-branch.true in
          rw (w.waiting-is, w.in_ok-push.ensures.items) (step-new on c.args.near.now c.loop-t.t-index (contains nat_cmp c.args.seen.now) (contains nat_cmp c.loop-t.seen) (contains nat_cmp c.insert.new.self) c.args.waiting.now.items c.loop-t.waiting.items c.loop-t-test.true c.loop-t.invariant more there new)
      | else-branch w ↦
          let known : contains nat_cmp c.loop-t.seen x ≡ true = was_in (contains nat_cmp c.loop-t.seen x) c.in_ok-insert.field-0 c.in_ok-insert.ensures.added w.if-branch.false in
          rw w.waiting-is (step-known on c.args.near.now c.loop-t.t-index (contains nat_cmp c.args.seen.now) (contains nat_cmp c.loop-t.seen) (contains nat_cmp c.insert.new.self) c.args.waiting.now.items c.loop-t.waiting.items c.loop-t-test.true c.loop-t.invariant more known)
    ]
