-- The lines of a transcript and the fields of a line, taken one after the other.
use Rattle.std.specs.Prelude.{ℕ, Bool, true, false, not, ◌≡◌, ◌<◌, ◌≤◌, get_or, ◌+◌, ◌==◌, nat_lt, nat_le, if◌then◌else◌, List, [], ◌∷◌, length, Option, Some, None, Result, Ok, Err}
use Rattle.std.specs.Str.{all_ascii_digits, bytes_eq}
use Rattle.pack_defs.specs.Lists.{is_empty, is_in}
use Rattle.pack_defs.specs.Limits.{GREATEST_CHANNEL, LEAST_CHANNEL}
use Rattle.pack_defs.specs.declared.scenario.Scenario.{Scenario}
use Rattle.pack_defs.specs.Scenario.{facilities}
use Rattle.lrat_text.specs.declared.field.Field.{Field}
use Rattle.lrat_text.specs.Lines.{fields_of}
use Rattle.lrat_text.specs.Read.{natural, field_of}
use Rattle.lrat_text.specs.Write.{greatest}
use Rattle.transcript_text.specs.declared.error.TextErr.{TextErr}
use Rattle.transcript_text.specs.declared.error.TextErr.TheVariants.{BadLine, Truncated}
use Rattle.pack_defs.specs.Steps.{◌>>=◌}

-- The complete lines that are left of a text, and the number of the first of them.
pub record RemainingLines : Type 0 where
  pub number : ℕ
  pub left : List (List ℕ)

-- The fields that are left of a line, and the line's number.
pub record RemainingFields : Type 0 where
  pub number : ℕ
  pub fields : List (List ℕ)

-- The fields of the first line, which has number `n`, and the lines after it; an error if no line is left.
abbrev line_or : ℕ → List (List ℕ) → Result (RemainingFields × RemainingLines) TextErr
line_or n [] = Err Truncated
line_or n (line ∷ lines) = Ok (record { number = n; fields = fields_of line }, record { number = n + 1; left = lines })

-- The fields of the next line, and the lines after it.
abbrev pub next_line : RemainingLines → Result (RemainingFields × RemainingLines) TextErr
next_line lines = line_or lines.number lines.left

-- The first field of line `n`, and the fields after it; an error if no field is left.
abbrev field_or : ℕ → List (List ℕ) → Result (List ℕ × RemainingFields) TextErr
field_or n [] = Err (BadLine n)
field_or n (field ∷ fields) = Ok (field, record { number = n; fields = fields })

-- The next field, and the fields after it.
abbrev pub next_field : RemainingFields → Result (List ℕ × RemainingFields) TextErr
next_field line = field_or line.number line.fields

-- The value, with what is left after it; an error on line `n` if there is no value.
abbrev pub found_or : {A B : Type 0} → ℕ → Option A → B → Result (A × B) TextErr
found_or n None rest = Err (BadLine n)
found_or n (Some x) rest = Ok (x, rest)

-- The check that no field is left.
unfoldable pub line_end : RemainingFields → Result (Unit {0}) TextErr
line_end line = if is_empty line.fields then Ok tt else Err (BadLine line.number)

-- The fields after the next one, which must be this word.
unfoldable pub word_at : List ℕ → RemainingFields → Result RemainingFields TextErr
word_at word line = do
  field ← next_field line
  if bytes_eq field.0 word then Ok field.1 else Err (BadLine line.number)

-- Whether a number has no leading zero, neither at its start nor after a minus sign.
abbrev pub is_plainly_spelled : List ℕ → Bool
is_plainly_spelled [] = false
is_plainly_spelled (c ∷ []) = true
is_plainly_spelled (c ∷ d ∷ rest) = if c == 45 then not (d == 48) else not (c == 48)

-- The number of a field, if the field is a plainly spelled number up to `most`.
unfoldable pub plain_number : ℕ → List ℕ → Option ℕ
plain_number most field = if is_plainly_spelled field then natural most field else None

-- The literal or the 0 that a field of a log's line spells, if it spells one plainly.
unfoldable pub plain_field : List ℕ → Option Field
plain_field field = if is_plainly_spelled field then field_of field else None

-- Whether these digits spell this number, which is at least 1, without a leading zero.
abbrev pub IsNumeral : List ℕ → ℕ → Type 0
IsNumeral digits n = (0 < length digits) × (48 < get_or digits 0 0) × (all_ascii_digits digits ≡ true) × (natural greatest digits ≡ Some n) × (1 ≤ n)

-- The number in the next field, up to `most`, and the fields after it.
unfoldable pub number_at : ℕ → RemainingFields → Result (ℕ × RemainingFields) TextErr
number_at most line = do
  field ← next_field line
  found_or line.number (plain_number most field.0) field.1

-- The greatest round, station number or worker number that a field may have.
abbrev pub greatest_u32 : ℕ
greatest_u32 = 4294967295

-- The greatest count of entries, log lines or moves that a field may have.
abbrev pub most_counted : ℕ
most_counted = 1000000

-- A count of entries, log lines or moves, and the fields after it.
abbrev pub count_at : RemainingFields → Result (ℕ × RemainingFields) TextErr
count_at = number_at most_counted

-- A station of the scenario, and the fields after it.
unfoldable pub station_at : Scenario → RemainingFields → Result (ℕ × RemainingFields) TextErr
station_at sc line = do
  s ← number_at greatest_u32 line
  if is_in (facilities sc) s.0 then Ok s else Err (BadLine line.number)

-- A channel (14 to 51), and the fields after it.
unfoldable pub channel_at : RemainingFields → Result (ℕ × RemainingFields) TextErr
channel_at line = do
  c ← number_at GREATEST_CHANNEL line
  if nat_le LEAST_CHANNEL c.0 then Ok c else Err (BadLine line.number)

-- The number of a worker of the scenario, and the fields after it.
unfoldable pub worker_at : Scenario → RemainingFields → Result (ℕ × RemainingFields) TextErr
worker_at sc line = do
  w ← number_at greatest_u32 line
  if nat_lt w.0 (length sc.workers) then Ok w else Err (BadLine line.number)

-- The fields after the next one, which must be this number.
unfoldable pub exact_number_at : ℕ → RemainingFields → Result RemainingFields TextErr
exact_number_at n line = do
  m ← number_at n line
  if m.0 == n then Ok m.1 else Err (BadLine line.number)

-- Whether the number is above the one before it; true if there is none.
abbrev pub is_above : Option ℕ → ℕ → Bool
is_above None n = true
is_above (Some m) n = nat_lt m n

-- A station above the one before it, and the fields after it.
unfoldable pub station_above : Scenario → Option ℕ → RemainingFields → Result (ℕ × RemainingFields) TextErr
station_above sc above line = do
  s ← station_at sc line
  if is_above above s.0 then Ok s else Err (BadLine line.number)
