use Rattle.std.proofs.Common.{◌≡◌, ◌+◌, length}
use Rattle.constraint_files.specs.Records.{after_lines, lines_of}
use Rattle.constraint_files.proofs.line_reader.LineReader.add_each_line.Given as goal

abbrev pub invariant-loop-rest : goal.invariant-loop-rest
invariant-loop-rest g l = record {
  lines : after_lines g.T.Table.add l.table l.number (lines_of l.rest) ≡ after_lines g.T.Table.add l.fn.self.made l.fn.self.line (lines_of l.fn.bytes);
  count : l.number + length (lines_of l.rest) ≡ l.fn.self.line + length (lines_of l.fn.bytes);
}

abbrev pub decreases-loop-rest : goal.decreases-loop-rest
decreases-loop-rest g l = length l.rest
