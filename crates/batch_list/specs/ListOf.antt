-- The contents of a batch list: the names of scenario files and of the files for their results. The format is this project's own; its
-- lines, records and fields are those of the constraint files.
use Rattle.std.specs.Prelude.{ℕ, ◌&&◌, nat_lt, ◌+◌, if◌then◌else◌, List, [], ◌∷◌, ◌++◌, length, Option, Some, None, Result, Ok, Err}
use Rattle.std.specs.Option.{option_and_then, option_map}
use Rattle.std.specs.Str.{is_utf8}
use Rattle.constraint_files.specs.Records.{line_records, lines_of}
use Rattle.batch_list.specs.declared.error.ListErr.{ListErr}
use Rattle.batch_list.specs.declared.error.ListErr.TheVariants.{BadLine, Empty}

-- The names of a record, in bytes: of a scenario file, and of the file for its result.
pub record ListedNames : Type 0 where
  pub scenario : List ℕ
  pub result : List ℕ

-- The most records of a list.
abbrev pub list_limit : ℕ
list_limit = 256

-- The names in the fields of a record, if it has two fields and both are UTF-8.
abbrev pub listed_of : List (List ℕ) → Option ListedNames
listed_of (scenario ∷ result ∷ []) = if is_utf8 scenario && is_utf8 result then Some (record { scenario = scenario; result = result }) else None
listed_of _ = None

-- The earlier names with those of one more record, if the list isn't full.
abbrev pub with_listed : List ListedNames → List (List ℕ) → Option (List ListedNames)
with_listed listed fields = if nat_lt (length listed) list_limit then option_map (λ names. listed ++ names ∷ []) (listed_of fields) else None

-- The earlier names with those of these records, one after the other. If one is invalid, there are none.
unfoldable pub with_all_listed : List ListedNames → List (List (List ℕ)) → Option (List ListedNames)
with_all_listed listed [] = Some listed
with_all_listed listed (r ∷ rs) = option_and_then (λ next. with_all_listed next rs) (with_listed listed r)

-- What comes after a line of the file, or the error of this line.
abbrev pub after_list_line : ℕ → Option (List ListedNames) → (List ListedNames → Result (List ListedNames) ListErr) → Result (List ListedNames) ListErr
after_list_line line (Some next) rest = rest next
after_list_line line None rest = Err (BadLine line)

-- The earlier names with those in these lines of the file, the first of which has this number. The first invalid record is the error of
-- all, with its line number.
unfoldable pub with_list_lines : List ListedNames → ℕ → List (List ℕ) → Result (List ListedNames) ListErr
with_list_lines listed number [] = Ok listed
with_list_lines listed number (line ∷ lines) =
    after_list_line number (with_all_listed listed (line_records line)) (λ next. with_list_lines next (number + 1) lines)

-- A list that was read to its end, unless it has no record.
abbrev pub unless_empty : Result (List ListedNames) ListErr → Result (List ListedNames) ListErr
unless_empty (Ok []) = Err Empty
unless_empty (Ok (x ∷ xs)) = Ok (x ∷ xs)
unless_empty (Err e) = Err e

-- The names of each record of a list, in its order, or the list's error.
unfoldable pub list_of : List ℕ → Result (List ListedNames) ListErr
list_of bytes = unless_empty (with_list_lines [] 1 (lines_of bytes))
