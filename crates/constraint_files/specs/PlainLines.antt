-- Lines that are read at once: the effect of their records, and the line of each record.
use Rattle.std.specs.Prelude.{◌≡◌, ℕ, Bool, not, List, [], ◌∷◌, ◌++◌, Result, Ok, Err, length, nat_lt, ◌+◌, ◌-◌, ◌==◌, ◌||◌, if◌then◌else◌, ⊤}
use Rattle.std.specs.List.{list_all}
use Rattle.csv.specs.Reading.{default_config, records, strip_bom}
use Rattle.pack_defs.specs.Lists.{is_empty}
use Rattle.constraint_files.specs.Records.{kept_fields}
use Rattle.pack_defs.specs.Steps.{◌>>=◌}
use Rattle.constraint_files.specs.declared.error.RowWhy.{RowWhy}
use Rattle.constraint_files.specs.declared.plain_lines.RecordsErr.{RecordsErr}
use Rattle.constraint_files.specs.declared.plain_lines.RecordsErr.TheVariants.{Refused, NoMemory}

-- Whether the byte is a quote, or the first byte of a byte order mark.
abbrev pub is_special : ℕ → Bool
is_special c = c == 34 || c == 239

-- Whether no byte is special.
abbrev pub is_plain : List ℕ → Bool
is_plain bytes = list_all (λ c. not (is_special c)) bytes

-- The records that `csv` returns for a line by itself, untrimmed.
abbrev pub raw_records : List ℕ → List (List (List ℕ))
raw_records line = records default_config (strip_bom line)

-- The state after a raw record, trimmed, or its error. A record without a field changes nothing.
abbrev pub after_raw : {S : Type 0} → (S → List (List ℕ) → Result S RowWhy) → S → List (List ℕ) → Result S RowWhy
after_raw add state r = if is_empty (kept_fields r) then Ok state else add state (kept_fields r)

-- The state after some raw records.
unfoldable pub after_raws : {S : Type 0} → (S → List (List ℕ) → Result S RowWhy) → S → List (List (List ℕ)) → Result S RowWhy
after_raws add state [] = Ok state
after_raws add state (r ∷ rs) = do
  next ← after_raw add state r
  after_raws add next rs

-- A step adds a record with `before` records before it, and returns the number of records before the next one; or it returns the record's
-- error, or reports that memory ran out.
abbrev pub RunsNext : {S : Type 0} → (S → List (List ℕ) → Result S RowWhy) → S → List (List ℕ) → ℕ → S → Result ℕ RecordsErr → Type 0
RunsNext add state r before new (Ok next) = (after_raw add state r ≡ Ok new) × (next ≡ before + 1)
RunsNext add state r before new (Err (Refused count why)) = (count ≡ before) × (after_raw add state r ≡ Err why)
RunsNext add state r before new (Err NoMemory) = ⊤

-- The first invalid record has this many records before it.
pub record IsRefusedBehind {S : Type 0} (add : S → List (List ℕ) → Result S RowWhy) (state : S) (raws : List (List (List ℕ))) (before : ℕ) (why : RowWhy) : Type 0 where
  pub done : List (List (List ℕ))
  pub refused : List (List ℕ)
  pub left : List (List (List ℕ))
  pub all : raws ≡ done ++ (refused ∷ left)
  pub count : length done ≡ before
  pub made : S
  pub taken : after_raws add state done ≡ Ok made
  pub is : after_raw add made refused ≡ Err why

-- A run returns the state after some records, or the first invalid record, or reports that memory ran out.
abbrev pub Runs : {S : Type 0} → (S → List (List ℕ) → Result S RowWhy) → S → List (List (List ℕ)) → Result S RecordsErr → Type 0
Runs add state raws (Ok made) = after_raws add state raws ≡ Ok made
Runs add state raws (Err (Refused before why)) = IsRefusedBehind add state raws before why
Runs add state raws (Err NoMemory) = ⊤

-- The number of the line of a record with this many records before it; the first line has this number.
unfoldable pub line_number_at : ℕ → ℕ → List (List ℕ) → ℕ
line_number_at number before [] = number
line_number_at number before (line ∷ lines) =
    if nat_lt before (length (raw_records line)) then number else line_number_at (number + 1) (before - length (raw_records line)) lines
