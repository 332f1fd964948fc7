-- The records are of the same scenario and files, and the search got their answers.
use Rattle.std.proofs.Common.{◌≡◌}
use Rattle.target_seek.specs.BinarySearch.{questions_left}
use Rattle.target_seek.specs.Searching.{IsSearching}
use Rattle.commands.specs.Seek.{asked_of, base_of}
use Rattle.commands.proofs.top_channel_runs.search_tops.Given as goal

abbrev pub invariant-loop-top : goal.invariant-loop-top
invariant-loop-top g l = (l.records.base ≡ base_of l.fn.sources) × IsSearching 14 l.last (asked_of l.records.kept) l.search

abbrev pub decreases-loop-top : goal.decreases-loop-top
decreases-loop-top g l = questions_left l.search
