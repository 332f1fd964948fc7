-- The lines of a file, the records of its lines, and their effect on a state.
use Rattle.std.specs.Prelude.{ℕ, Bool, not, List, [], ◌∷◌, map, filter, reverse, Result, Ok, Err, ◌+◌, ◌==◌, ◌||◌, if◌then◌else◌}
use Rattle.csv.specs.Reading.{default_config, records, strip_bom}
use Rattle.pack_defs.specs.Lists.{is_empty}
use Rattle.pack_defs.specs.Steps.{◌>>=◌}
use Rattle.constraint_files.specs.declared.error.ReadErr.{ReadErr}
use Rattle.constraint_files.specs.declared.error.ReadErr.TheVariants.{Row}
use Rattle.constraint_files.specs.declared.error.RowWhy.{RowWhy}

-- The lines with one more byte at the start of the first line, or a line of this byte.
abbrev pub prepend_to_first : ℕ → List (List ℕ) → List (List ℕ)
prepend_to_first c [] = (c ∷ []) ∷ []
prepend_to_first c (line ∷ lines) = (c ∷ line) ∷ lines

-- The lines of some bytes. The byte 0A ends a line; bytes after the last 0A are a line too.
unfoldable pub lines_of : List ℕ → List (List ℕ)
lines_of [] = []
lines_of (c ∷ rest) = if c == 10 then [] ∷ lines_of rest else prepend_to_first c (lines_of rest)

-- Whether the byte is a space or a tab.
abbrev pub is_blank : ℕ → Bool
is_blank c = c == 32 || c == 9

-- The items from the first one on that doesn't pass.
abbrev pub without_leading : {A : Type 0} → (A → Bool) → List A → List A
without_leading p [] = []
without_leading p (x ∷ xs) = if p x then without_leading p xs else x ∷ xs

-- The items up to the last one that doesn't pass.
unfoldable pub without_trailing : {A : Type 0} → (A → Bool) → List A → List A
without_trailing p xs = reverse (without_leading p (reverse xs))

-- A field without the blanks around it.
abbrev pub trimmed : List ℕ → List ℕ
trimmed field = without_trailing is_blank (without_leading is_blank field)

-- The fields of a record without the blanks around them, and without the empty ones at its end.
abbrev pub kept_fields : List (List ℕ) → List (List ℕ)
kept_fields fields = without_trailing is_empty (map trimmed fields)

-- The records of one line by itself, each a list of fields, except those without a field. A byte order mark at the line's start is
-- dropped.
abbrev pub line_records : List ℕ → List (List (List ℕ))
line_records line = filter (λ r. not (is_empty r)) (map kept_fields (records default_config (strip_bom line)))

-- The state after these records, where `add` is the state after one record or its error. The first error is the error of all.
unfoldable pub after_records : {S : Type 0} → (S → List (List ℕ) → Result S RowWhy) → S → List (List (List ℕ)) → Result S RowWhy
after_records add state [] = Ok state
after_records add state (r ∷ rs) = do
  next ← add state r
  after_records add next rs

-- What comes after a line, or the error of this line.
abbrev pub after_read_line : {S : Type 0} → ℕ → Result S RowWhy → (S → Result S ReadErr) → Result S ReadErr
after_read_line line (Ok next) rest = rest next
after_read_line line (Err why) rest = Err (Row line why)

-- The state after the records of these lines; the first line has this number. The first invalid record is the error of all, with its line
-- number.
unfoldable pub after_lines : {S : Type 0} → (S → List (List ℕ) → Result S RowWhy) → S → ℕ → List (List ℕ) → Result S ReadErr
after_lines add state number [] = Ok state
after_lines add state number (line ∷ lines) =
    after_read_line number (after_records add state (line_records line)) (λ next. after_lines add next (number + 1) lines)
