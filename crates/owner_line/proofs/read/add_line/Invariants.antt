use Rattle.std.proofs.Common.{◌≡◌, drop, map}
use Rattle.constraint_files.specs.Records.{line_records}
use Rattle.owner_line.specs.OwnersOf.{with_records}
use Rattle.owner_line.proofs.read.add_line.Given as goal

abbrev pub invariant-loop-record : goal.invariant-loop-record
invariant-loop-record l =
    with_records l.rounds l.ids l.owners (drop l.record-index (map (λ r. map (λ f. f.items) r.items) l.record-items))
    ≡ with_records l.fn.rounds l.fn.ids l.fn.owners (line_records l.fn.line)
