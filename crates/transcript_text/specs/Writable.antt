-- Preconditions of writing a step: the stations of a proof ascend, and no log has more lines than a text may count.
-- Every step of a backed record satisfies them.
use Rattle.std.specs.Prelude.{IsTrue, ◌≤◌, ℕ, length}
use Rattle.std.specs.List.{All}
use Rattle.pack_defs.specs.Lists.{is_ascending}
use Rattle.cert_types.specs.declared.answer.Receipt.{Receipt}
use Rattle.cert_types.specs.declared.answer.Receipt.TheVariants.{Lines, Moves}
use Rattle.cert_types.specs.declared.answer.Refutation.{Refutation}
use Rattle.cert_types.specs.declared.answer.Refutation.TheVariants.{Proof, Dead}
use Rattle.auction_core.specs.declared.record.Shown.{Shown}
use Rattle.auction_core.specs.declared.record.Shown.TheVariants.{Empty, Fits, Same, NoChannel, Refuted, Outside, Undecided}
use Rattle.transcript_text.specs.Fields.{most_counted}

-- The number of lines that a receipt's log has.
abbrev pub lines_in : Receipt → ℕ
lines_in (Lines log) = length log.lines
lines_in (Moves moves) = 0

-- Whether the stations of a proof ascend and its log is not too long.
abbrev pub IsWritable : Refutation → Type 0
IsWritable (Proof subset log) = IsTrue (is_ascending subset) × (length log.lines ≤ most_counted)
IsWritable (Dead p) = Unit {0}

-- Whether the logs of a step are not too long, and the stations of its proof ascend.
abbrev pub IsShownWritable : Shown → Type 0
IsShownWritable Empty = Unit {0}
IsShownWritable (Fits delta) = Unit {0}
IsShownWritable Same = Unit {0}
IsShownWritable (NoChannel s) = Unit {0}
IsShownWritable (Refuted worker how) = IsWritable how
IsShownWritable (Outside proof) = length proof.log.lines ≤ most_counted
IsShownWritable (Undecided receipts) = All (λ x. lines_in x ≤ most_counted) receipts
