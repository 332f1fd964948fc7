use Rattle.std.proofs.Common.{length, ◌-◌, ◌≡◌, ◌+◌, ◌≤◌, ◌++◌, drop}
use Rattle.pack_defs.specs.ChannelMap.{overlaid}
use Rattle.pack_defs.proofs.channel_map.merged.Given as goal

abbrev pub invariant-loop-i : goal.invariant-loop-i
invariant-loop-i l = record {
  under : l.i ≤ length l.under;
  over : l.j ≤ length l.over;
  merged : l.entries.items ++ overlaid (drop l.i l.under) (drop l.j l.over) ≡ overlaid l.fn.under l.fn.over;
}

abbrev pub decreases-loop-i : goal.decreases-loop-i
decreases-loop-i l = (length l.under - l.i) + (length l.over - l.j)
