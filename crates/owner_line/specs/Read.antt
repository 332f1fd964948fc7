-- What a reader may return, given the definition of its value or error.
use Rattle.std.specs.Prelude.{◌≡◌, ⊤, Result, Ok, Err}
use Rattle.owner_line.specs.declared.error.OwnerAddErr.{OwnerAddErr}
use Rattle.owner_line.specs.declared.error.OwnerAddErr.TheVariants.{Refused, NoMemory as NoRoom}
use Rattle.owner_line.specs.declared.error.OwnerErr.{OwnerErr}
use Rattle.owner_line.specs.declared.error.OwnerErr.TheVariants.{Row, NoMemory}
use Rattle.owner_line.specs.declared.error.OwnerWhy.{OwnerWhy}

-- A reader of a file returns the value or the error of the definition, or reports that memory ran out.
abbrev pub OwnerReads : {A : Type 0} → Result A OwnerErr → Result A OwnerErr → Type 0
OwnerReads o (Ok x) = o ≡ Ok x
OwnerReads o (Err (Row line why)) = o ≡ Err (Row line why)
OwnerReads o (Err NoMemory) = ⊤

-- A call that changes a state to this new one stores the value or returns the error of the definition, or reports that memory ran out.
abbrev pub OwnerChanges : {A : Type 0} → Result A OwnerWhy → A → Result (Unit {0}) OwnerAddErr → Type 0
OwnerChanges o new (Ok u) = o ≡ Ok new
OwnerChanges o new (Err (Refused why)) = o ≡ Err why
OwnerChanges o new (Err NoRoom) = ⊤
