-- The lines of a log in a transcript, and the lines of entries and moves.
use Rattle.std.specs.Prelude.{ℕ, zero, suc, ◌+◌, ◌==◌, if◌then◌else◌, List, [], ◌∷◌, Option, Some, None, Result, Ok, Err, codes}
use Rattle.pack_defs.specs.Lists.{is_empty}
use Rattle.pack_defs.specs.declared.scenario.Scenario.{Scenario}
use Rattle.clause_db.specs.declared.lit.Lit.{Lit}
use Rattle.rup_check.specs.declared.line.Line.{Line}
use Rattle.lrat_text.specs.declared.field.Field.{Field}
use Rattle.lrat_text.specs.declared.field.Field.TheVariants.{End, Number}
use Rattle.lrat_text.specs.Write.{greatest}
use Rattle.transcript_text.specs.declared.error.TextErr.{TextErr}
use Rattle.transcript_text.specs.declared.error.TextErr.TheVariants.{BadLine}
use Rattle.pack_defs.specs.Steps.{◌>>=◌}
use Rattle.transcript_text.specs.Fields.{RemainingLines, RemainingFields, next_line, line_end, word_at, plain_field, number_at, station_above, channel_at}

-- The literals before a 0, and the fields after the 0, given the meaning of the first field and what the fields after
-- it come to.
abbrev pub lits_or : ℕ → Option Field → List (List ℕ) → Result (List Lit × List (List ℕ)) TextErr → Result (List Lit × List (List ℕ)) TextErr
lits_or n None fields rest = Err (BadLine n)
lits_or n (Some End) fields rest = Ok ([], fields)
lits_or n (Some (Number l)) fields rest = rest >>= λ x. Ok (l ∷ x.0, x.1)

-- The literals before a 0 in line `n`, and the fields after the 0.
unfoldable pub lits_at : ℕ → List (List ℕ) → Result (List Lit × List (List ℕ)) TextErr
lits_at n [] = Err (BadLine n)
lits_at n (field ∷ fields) = lits_or n (plain_field field) fields (lits_at n fields)

-- The hints before a 0, which is the last field, given the meaning of the first field and what the fields after it
-- come to.
abbrev pub hints_or : ℕ → Option Field → List (List ℕ) → Result (List ℕ) TextErr → Result (List ℕ) TextErr
hints_or n None fields rest = Err (BadLine n)
hints_or n (Some End) fields rest = if is_empty fields then Ok [] else Err (BadLine n)
hints_or n (Some (Number l)) fields rest = if l.positive then (rest >>= λ hints. Ok (l.var ∷ hints)) else Err (BadLine n)

-- The hints before a 0, which is the last field of line `n`.
unfoldable pub hints_at : ℕ → List (List ℕ) → Result (List ℕ) TextErr
hints_at n [] = Err (BadLine n)
hints_at n (field ∷ fields) = hints_or n (plain_field field) fields (hints_at n fields)

-- A line of a log, which must have this number.
unfoldable pub log_line : ℕ → RemainingFields → Result Line TextErr
log_line number line = do
  own ← number_at greatest line
  lits ← (if own.0 == number then lits_at line.number own.1.fields else Err (BadLine line.number))
  hints ← hints_at line.number lits.1
  Ok (record { lits = lits.0; hints = hints })

-- A log of this many lines, numbered from this number on, and the lines after it.
unfoldable pub log_at : ℕ → ℕ → RemainingLines → Result (List Line × RemainingLines) TextErr
log_at number zero lines = Ok ([], lines)
log_at number (suc k) lines = do
  next ← next_line lines
  line ← log_line number next.0
  rest ← log_at (number + 1) k next.1
  Ok (line ∷ rest.0, rest.1)

-- A station above the one before it, and a channel; nothing follows them.
unfoldable pub entry_at : Scenario → List ℕ → Option ℕ → RemainingFields → Result (ℕ × ℕ) TextErr
entry_at sc word above line = do
  rest ← word_at word line
  s ← station_above sc above rest
  c ← channel_at s.1
  u ← line_end c.1
  Ok (s.0, c.0)

-- This many entries of a map, ascending by station from above this one, and the lines after them.
unfoldable pub entries_at : Scenario → Option ℕ → ℕ → RemainingLines → Result (List (ℕ × ℕ) × RemainingLines) TextErr
entries_at sc above zero lines = Ok ([], lines)
entries_at sc above (suc k) lines = do
  next ← next_line lines
  entry ← entry_at sc (codes "at") above next.0
  rest ← entries_at sc (Some entry.0) k next.1
  Ok (entry ∷ rest.0, rest.1)

-- This many moves, and the lines after them.
unfoldable pub moves_at : Scenario → ℕ → RemainingLines → Result (List (ℕ × ℕ) × RemainingLines) TextErr
moves_at sc zero lines = Ok ([], lines)
moves_at sc (suc k) lines = do
  next ← next_line lines
  move ← entry_at sc (codes "move") None next.0
  rest ← moves_at sc k next.1
  Ok (move ∷ rest.0, rest.1)

-- The stations that are left of line `n`, ascending from above this one.
unfoldable pub stations_at : Scenario → ℕ → Option ℕ → List (List ℕ) → Result (List ℕ) TextErr
stations_at sc n above [] = Ok []
stations_at sc n above (field ∷ fields) = do
  s ← station_above sc above (record { number = n; fields = field ∷ [] })
  rest ← stations_at sc n (Some s.0) fields
  Ok (s.0 ∷ rest)

-- ---- one line, and the lines after it

-- What was read, together with these lines.
abbrev pub with_remaining : {A : Type 0} → RemainingLines → Result A TextErr → Result (A × RemainingLines) TextErr
with_remaining left read = read >>= λ x. Ok (x, left)

-- The next line as a log's line with this number, and the lines after it.
abbrev pub numbered_line : ℕ → RemainingLines → Result (Line × RemainingLines) TextErr
numbered_line number lines = next_line lines >>= λ next. with_remaining next.1 (log_line number next.0)

-- The next line as an entry that begins with this word, and the lines after it.
abbrev pub entry_line : Scenario → List ℕ → Option ℕ → RemainingLines → Result ((ℕ × ℕ) × RemainingLines) TextErr
entry_line sc word above lines = next_line lines >>= λ next. with_remaining next.1 (entry_at sc word above next.0)

-- The station that one field of line `n` names, above the one before it.
abbrev pub station_field : Scenario → ℕ → Option ℕ → List ℕ → Result ℕ TextErr
station_field sc n above field = station_above sc above (record { number = n; fields = field ∷ [] }) >>= λ s. Ok s.0
