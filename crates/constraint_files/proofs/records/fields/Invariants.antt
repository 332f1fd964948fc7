use Rattle.std.proofs.Common.{◌≡◌, ◌++◌, drop, map}
use Rattle.constraint_files.specs.Records.{line_records}
use Rattle.constraint_files.proofs.records.fields.Given as goal

abbrev pub invariant-loop-record : goal.invariant-loop-record
invariant-loop-record l = map (λ r. map (λ f. f.items) r.items) l.list.items ++ drop l.record-index l.record-items ≡ line_records l.fn.line
