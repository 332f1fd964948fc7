use Rattle.std.proofs.Common.{◌≡◌, ◌++◌, decimal, map, take}
use Rattle.lrat_text.specs.Write.{spaced}
use Rattle.transcript_text.proofs.line_writers.push_subset.Given as goal

abbrev pub invariant-loop-s : goal.invariant-loop-s
invariant-loop-s l = l.text.items ≡ l.initial.text.items ++ spaced (map decimal (take l.s-index l.subset))
