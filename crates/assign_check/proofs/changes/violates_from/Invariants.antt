use Rattle.std.proofs.Common.{◌≡◌, drop}
use Rattle.std.specs.List.{list_any}
use Rattle.pack_defs.specs.ChannelMap.{overlaid}
use Rattle.assign_check.proofs.Violations.{is_violated_from}
use Rattle.assign_check.proofs.changes.violates_from.Given as goal

abbrev pub invariant-loop-p : goal.invariant-loop-p
invariant-loop-p l = list_any (is_violated_from (overlaid l.last l.changes) l.own) (drop l.p-index l.p-items) ≡ list_any (is_violated_from (overlaid l.last l.changes) l.own) l.p-items
