use Rattle.std.proofs.Common.{◌≡◌, drop}
use Rattle.constraint_files.specs.PlainLines.{is_plain}
use Rattle.constraint_files.proofs.plain_lines.is_plain.Given as goal

abbrev pub invariant-loop-byte : goal.invariant-loop-byte
invariant-loop-byte l = is_plain (drop l.byte-index l.bytes) ≡ is_plain l.fn.bytes
