-- The contents of an owners' file: the lines of a live auction. The format is this project's own; its lines, records and numbers are
-- those of the constraint files.
use Rattle.std.specs.Prelude.{ℕ, Bool, true, false, nat_lt, ◌+◌, if◌then◌else◌, List, [], ◌∷◌, ◌++◌, Option, Some, None, Result, Ok, Err, codes}
use Rattle.std.specs.Option.{ok_or, option_map}
use Rattle.std.specs.Str.{bytes_eq}
use Rattle.pack_defs.specs.Lists.{is_in}
use Rattle.pack_defs.specs.Prices.{has_line_for}
use Rattle.pack_defs.specs.declared.owners.OwnerLine.{OwnerLine}
use Rattle.constraint_files.specs.Field.{number}
use Rattle.constraint_files.specs.Records.{line_records, lines_of}
use Rattle.pack_defs.specs.Steps.{◌>>=◌}
use Rattle.owner_line.specs.declared.error.OwnerErr.{OwnerErr}
use Rattle.owner_line.specs.declared.error.OwnerErr.TheVariants.{Row}
use Rattle.owner_line.specs.declared.error.OwnerWhy.{OwnerWhy}
use Rattle.owner_line.specs.declared.error.OwnerWhy.TheVariants.{Fields, BadNumber, RoundRange, UnknownStation, BadWord, Repeated}

-- Whether the word says that the station stays; none for an unknown word.
abbrev pub stay_of_word : List ℕ → Option Bool
stay_of_word word =
    if bytes_eq word (codes "stay") then Some true
    else if bytes_eq word (codes "leave") then Some false
    else None

-- The line of this round, station and word, in an auction with these stations whose price falls in R rounds.
abbrev pub line_on : ℕ → List ℕ → ℕ → ℕ → List ℕ → Result OwnerLine OwnerWhy
line_on R ids round station word =
    if nat_lt R round then Err RoundRange
    else if is_in ids station then ok_or (option_map (λ stays. record { round = round; station = station; stays = stays }) (stay_of_word word)) BadWord
    else Err UnknownStation

-- The line of these fields.
abbrev pub line_from : ℕ → List ℕ → List ℕ → List ℕ → List ℕ → Result OwnerLine OwnerWhy
line_from R ids round station word = do
  r ← ok_or (number round) BadNumber
  s ← ok_or (number station) BadNumber
  line_on R ids r s word

-- The line of a record: `round,facility,word`.
unfoldable pub owner_line : ℕ → List ℕ → List (List ℕ) → Result OwnerLine OwnerWhy
owner_line R ids (round ∷ station ∷ word ∷ []) = line_from R ids round station word
owner_line R ids _ = Err Fields

-- The earlier lines with one more, if none of them has its round and station.
abbrev pub with_owner_line : List OwnerLine → OwnerLine → Result (List OwnerLine) OwnerWhy
with_owner_line said line = if has_line_for said line.round line.station then Err Repeated else Ok (said ++ line ∷ [])

-- The earlier lines with the line of a record.
abbrev pub with_record : ℕ → List ℕ → List OwnerLine → List (List ℕ) → Result (List OwnerLine) OwnerWhy
with_record R ids said fields = do
  line ← owner_line R ids fields
  with_owner_line said line

-- The earlier lines with those of these records, one after the other. The first error is the error of all.
unfoldable pub with_records : ℕ → List ℕ → List OwnerLine → List (List (List ℕ)) → Result (List OwnerLine) OwnerWhy
with_records R ids said [] = Ok said
with_records R ids said (r ∷ rs) = do
  next ← with_record R ids said r
  with_records R ids next rs

-- What comes after a line of the file, or the error of this line.
abbrev pub after_owner_line : ℕ → Result (List OwnerLine) OwnerWhy → (List OwnerLine → Result (List OwnerLine) OwnerErr) → Result (List OwnerLine) OwnerErr
after_owner_line line (Ok next) rest = rest next
after_owner_line line (Err why) rest = Err (Row line why)

-- The earlier lines with those of these lines of the file, the first of which has this number. The first invalid record is the error of
-- all, with its line number.
unfoldable pub with_file_lines : ℕ → List ℕ → List OwnerLine → ℕ → List (List ℕ) → Result (List OwnerLine) OwnerErr
with_file_lines R ids said number [] = Ok said
with_file_lines R ids said number (line ∷ lines) =
    after_owner_line number (with_records R ids said (line_records line)) (λ next. with_file_lines R ids next (number + 1) lines)

-- The lines of a file, for an auction with these stations whose price falls in R rounds, or its first error.
unfoldable pub owners_of : List ℕ → ℕ → List ℕ → Result (List OwnerLine) OwnerErr
owners_of bytes R ids = with_file_lines R ids [] 1 (lines_of bytes)
