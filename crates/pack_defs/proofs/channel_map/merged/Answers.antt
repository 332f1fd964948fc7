use Rattle.std.proofs.Common.{◌≤◌, ◌<◌, ◌⊎◌, get_or, length, arith, inl, inr}
use Rattle.pack_defs.proofs.MapLemmas.{merged-below, merged-same, merged-above, merged-end}
use Rattle.pack_defs.proofs.channel_map.merged.Goals as goal
use Rattle.pack_defs.proofs.channel_map.merged.Goals.{then-under-i-2, else-under-i-2, then-loop-i-test+else-j-over, else-loop-i-test}

pub loop-i-preserved-then-under-i : goal.loop-i-preserved-then-under-i
loop-i-preserved-then-under-i c = record {
  under = omega arith;
  over = c.loop-i.invariant.over;
  merged = rw c.in_ok-push.ensures.items (merged-below c.loop-i.entries.items c.args.under.now c.args.over.now _ c.loop-i.i c.loop-i.j c.requires c.loop-i-test.true c.if-j-over.true c.if-under-i.true c.loop-i.invariant.merged);
}

pub loop-i-preserved : goal.loop-i-preserved
loop-i-preserved c =
    elim c.if-under-i-2.branch [
      | then-under-i-2 w ↦ record {
        under = omega arith;
        over = omega arith;
        merged = rw (c.in_ok-push-2.ensures.items, w.i-is) (merged-same c.loop-i.entries.items c.args.under.now c.args.over.now _ c.loop-i.i c.loop-i.j c.requires c.loop-i-test.true c.if-j-over.true w.if-under-i-2.true c.loop-i.invariant.merged);
      }
      | else-under-i-2 w ↦
          let more : (get_or c.args.over.now c.loop-i.j (0, 0)).0 < (get_or c.args.under.now c.loop-i.i (0, 0)).0 = omega arith in
          record {
            under = omega arith;
            over = omega arith;
            merged = rw (c.in_ok-push-2.ensures.items, w.i-is) (merged-above c.loop-i.entries.items c.args.under.now c.args.over.now _ c.loop-i.i c.loop-i.j c.requires c.loop-i-test.true c.if-j-over.true more c.loop-i.invariant.merged);
          }
    ]

pub returns : goal.returns
returns c =
    let past : (length c.args.under.now ≤ c.loop-i.i) ⊎ (length c.args.over.now ≤ c.loop-i.j) = elim c.loop-i-test.branch [
      | then-loop-i-test+else-j-over w ↦ inr w.if-j-over.false
      | else-loop-i-test w ↦ inl w.loop-i-test.false
    ] in
    rw (c.in_ok-extend_from_slice-2.ensures.items, c.in_ok-extend_from_slice.ensures.items) (merged-end c.loop-i.entries.items c.args.under.now c.args.over.now _ c.loop-i.i c.loop-i.j c.requires past c.loop-i.invariant.merged)
