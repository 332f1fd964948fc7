-- The record picked so far is the one asked for, among the records already passed.
use Rattle.std.specs.Prelude.{All, length}
use Rattle.commands.specs.Seek.{IsTopRecord, Picks}
use Rattle.commands.proofs.top_channel_runs.pick_records.Given as goal

abbrev pub invariant-loop-x : goal.invariant-loop-x
invariant-loop-x l =
    All (IsTopRecord l.fn.records.base) l.kept.items
    × Picks l.fn.records.base l.fn.records.kept l.kept.items l.first.top l.first.answer l.picked.first
    × Picks l.fn.records.base l.fn.records.kept l.kept.items l.second.top l.second.answer l.picked.second

abbrev pub decreases-loop-x : goal.decreases-loop-x
decreases-loop-x l = length l.kept.items
