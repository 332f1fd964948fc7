use Rattle.std.proofs.Common.{arith}
use Rattle.pack_defs.specs.ChannelMap.{IsAscending}
use Rattle.pack_defs.proofs.MapLemmas.{overlaid-ascending}
use Rattle.pack_defs.proofs.channel_map.ChannelMap.overlay.Goals as goal

pub invariant_of-result : goal.invariant_of-result
invariant_of-result c =
    let up : IsAscending c.in_ok-entries.entries.items = rw (c.in_ok-entries.ensures, c.deref.ensures.value) (overlaid-ascending c.self.inside.entries.items c.deref-2.result.now c.self.invariant.0) in
    (up, omega arith)
