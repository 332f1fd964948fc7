use Rattle.std.proofs.Common.{length, ◌≡◌, true, take}
use Rattle.pack_defs.specs.Packing.{is_apart}
use Rattle.plain_pack.specs.Search.{NoneExtendsBy}
use Rattle.plain_pack.proofs.search.+extend.Given as goal

abbrev pub decreases-extend : goal.decreases-extend
decreases-extend l = length l.left.now

abbrev pub invariant-loop-channel : goal.invariant-loop-channel
invariant-loop-channel l = record {
  chosen : l.chosen.items ≡ l.fn.chosen.items;
  apart : is_apart l.book l.fn.chosen.items ≡ true;
  none : NoneExtendsBy l.book l.fn.chosen.items l.station (take l.channel-index l.channel-items) l.others;
}
