-- What a reader may return, given the definition of its value or error.
use Rattle.std.specs.Prelude.{◌≡◌, ⊤, List, Option, Some, None, Result, Ok, Err}
use Rattle.std.specs.Global.{Vec}
use Rattle.batch_list.specs.ListOf.{ListedNames}
use Rattle.batch_list.specs.declared.error.ListAddErr.{ListAddErr}
use Rattle.batch_list.specs.declared.error.ListAddErr.TheVariants.{Refused, NoMemory as NoRoom}
use Rattle.batch_list.specs.declared.error.ListErr.{ListErr}
use Rattle.batch_list.specs.declared.error.ListErr.TheVariants.{BadLine, Empty, NoMemory}

-- A reader of a file returns the list or the error of the definition, or reports that memory ran out.
abbrev pub ListReads : Result (List ListedNames) ListErr → Result (Vec ListedNames) ListErr → Type 0
ListReads o (Ok v) = o ≡ Ok v.items
ListReads o (Err (BadLine line)) = o ≡ Err (BadLine line)
ListReads o (Err Empty) = o ≡ Err Empty
ListReads o (Err NoMemory) = ⊤

-- A call that changes a list to this new one stores the list of the definition, rejects if there is none, or reports that memory ran out.
abbrev pub ListChanges : Option (List ListedNames) → List ListedNames → Result (Unit {0}) ListAddErr → Type 0
ListChanges o new (Ok u) = o ≡ Some new
ListChanges o new (Err Refused) = o ≡ None
ListChanges o new (Err NoRoom) = ⊤
