use Rattle.std.proofs.Common.{◌≡◌, drop, map}
use Rattle.constraint_files.specs.Records.{line_records}
use Rattle.batch_list.specs.ListOf.{with_all_listed}
use Rattle.batch_list.proofs.read.add_line.Given as goal

abbrev pub invariant-loop-record : goal.invariant-loop-record
invariant-loop-record l =
    with_all_listed l.list.items (drop l.record-index (map (λ r. map (λ f. f.items) r.items) l.record-items))
    ≡ with_all_listed l.fn.list.items (line_records l.fn.line)
