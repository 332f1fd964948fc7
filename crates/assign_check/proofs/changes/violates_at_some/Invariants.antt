use Rattle.std.proofs.Common.{◌≡◌, drop}
use Rattle.pack_defs.specs.ChannelMap.{overlaid}
use Rattle.assign_check.specs.Changes.{violates_at_some}
use Rattle.assign_check.proofs.changes.violates_at_some.Given as goal

abbrev pub invariant-loop-x : goal.invariant-loop-x
invariant-loop-x l = violates_at_some l.book (overlaid l.last l.changes) (drop l.x-index l.x-items) ≡ violates_at_some l.book (overlaid l.last l.changes) l.x-items
