use Rattle.std.proofs.Common.{◌≡◌, ◌++◌, drop, map}
use Rattle.auction_core.specs.LogNumbers.{first_of}
use Rattle.transcript_text.specs.Spelling.{receipts_text}
use Rattle.transcript_text.proofs.line_writers.push_receipts.Given as goal

abbrev pub invariant-loop-i : goal.invariant-loop-i
invariant-loop-i l = l.text.items ++ receipts_text l.i (drop l.i l.receipts) (map (first_of l.clauses) (drop l.i l.receipts)) ≡ l.initial.text.items ++ receipts_text 0 l.receipts (map (first_of l.clauses) l.receipts)
