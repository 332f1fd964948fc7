-- What a reader may return, given the definition of its value or error.
use Rattle.std.specs.Prelude.{◌≡◌, ⊤, Result, Ok, Err}
use Rattle.constraint_files.specs.declared.error.ReadErr.{ReadErr}
use Rattle.constraint_files.specs.declared.error.ReadErr.TheVariants.{Row, NoMemory}
use Rattle.constraint_files.specs.declared.error.RowErr.{RowErr}
use Rattle.constraint_files.specs.declared.error.RowErr.TheVariants.{Refused, NoMemory as NoRoom}
use Rattle.constraint_files.specs.declared.error.RowWhy.{RowWhy}

-- A reader of a file returns the value or the error of the definition, or reports that memory ran out.
abbrev pub Reads : {A : Type 0} → Result A ReadErr → Result A ReadErr → Type 0
Reads o (Ok x) = o ≡ Ok x
Reads o (Err (Row line why)) = o ≡ Err (Row line why)
Reads o (Err NoMemory) = ⊤

-- A reader of a record returns the value or the error of the definition, or reports that memory ran out.
abbrev pub Takes : {A : Type 0} → Result A RowWhy → Result A RowErr → Type 0
Takes o (Ok x) = o ≡ Ok x
Takes o (Err (Refused why)) = o ≡ Err why
Takes o (Err NoRoom) = ⊤

-- A call that changes a state to this new one stores the value or returns the error of the definition, or reports that memory ran out.
abbrev pub Changes : {A : Type 0} → Result A RowWhy → A → Result (Unit {0}) RowErr → Type 0
Changes o new (Ok u) = o ≡ Ok new
Changes o new (Err (Refused why)) = o ≡ Err why
Changes o new (Err NoRoom) = ⊤
