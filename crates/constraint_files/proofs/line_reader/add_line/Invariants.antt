use Rattle.std.proofs.Common.{◌≡◌, drop}
use Rattle.constraint_files.specs.Records.{after_records, line_records}
use Rattle.constraint_files.proofs.line_reader.add_line.Given as goal

abbrev pub invariant-loop-record : goal.invariant-loop-record
invariant-loop-record g l =
    after_records g.T.Table.add l.table (drop l.record-index l.record-items)
    ≡ after_records g.T.Table.add l.fn.table (line_records l.fn.line)
