use Rattle.std.proofs.Common.{◌≡◌, ◌<◌, ℕ, List, Some, Ok, length}
use Rattle.csv.specs.Reading.{Reached, Ready, default_config, source_of, strip_bom}
use Rattle.csv.specs.declared.parser.State.TheVariants as st
use Rattle.csv.specs.declared.reader.Trim.TheVariants as trim
use Rattle.constraint_files.specs.PlainLines.{after_raws}
use Rattle.constraint_files.proofs.plain_lines.add_records.Given as goal

abbrev pub invariant-loop-row : goal.invariant-loop-row
invariant-loop-row g l = (l.row-iterator.rdr.trim ≡ trim.None) × Ready l.row-iterator.rdr × (0 < l.row-iterator.left) × (l.row-iterator.rdr.config ≡ default_config)
    × (y : List ℕ) × (source_of (λ s. Some s.now) l.row-iterator.rdr ≡ Some y)
    × (done : List (List (List ℕ))) × Reached default_config st.StartRecord (strip_bom l.fn.bytes) done l.row-iterator.rdr.state y
    × (after_raws g.T.Table.add l.fn.table done ≡ Ok l.table) × (length done ≡ l.before)
