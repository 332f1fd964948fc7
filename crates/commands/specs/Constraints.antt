-- What reading a file in pieces returns, by the bytes that are left of the file.
use Rattle.std.specs.Prelude.{◌≡◌, ℕ, Bool, true, List, [], Option, Some, Result, Ok, Err, take, drop, ⊤}
use Rattle.constraint_files.specs.declared.error.ReadErr.{ReadErr}
use Rattle.outside_io.specs.Pieces.{piece_size}
use Rattle.commands.specs.declared.inputs.input_file.Stop.{Stop}
use Rattle.commands.specs.declared.inputs.input_file.Stop.TheVariants.{CannotRead, Refused, NoMemory}
use Rattle.commands.specs.Inputs.{Agrees}

-- The result of opening a file to read in pieces. On success the bytes left are those that the file holds; an error agrees with
-- what the file holds.
abbrev pub IsBegun : Bool → Result (List ℕ) Stop → Option (List ℕ) → Result (Unit {0}) Stop → Type 0
IsBegun steady held left (Ok u) = (bytes : List ℕ) × (held ≡ Ok bytes) × (left ≡ Some bytes)
IsBegun steady held left (Err why) = Agrees (λ (u : Unit {0}). []) steady held (Err why)

-- The result of reading a piece of the bytes left. On success the piece is the first of them, and the others are left. A file
-- that is too long was rejected when it was opened. A piece may run out of memory, and fails only in a folder that isn't steady.
abbrev pub IsHandedOut : Bool → List ℕ → Option (List ℕ) → List ℕ → Result (Unit {0}) Stop → Type 0
IsHandedOut steady rest left piece (Ok u) = (piece ≡ take piece_size rest) × (left ≡ Some (drop piece_size rest))
IsHandedOut steady rest left piece (Err (CannotRead i)) = steady ≡ true → ⊥
IsHandedOut steady rest left piece (Err (Refused why)) = ⊥
IsHandedOut steady rest left piece (Err NoMemory) = ⊤

-- The result of feeding all bytes left to a reader. On success the reader is as if fed the whole file; a rejection is what the
-- file holds. Memory may run out, and a folder that isn't steady may fail.
abbrev pub IsFed : {R A : Type 0} → Bool → Result R ReadErr → Result A Stop → Result R Stop → Type 0
IsFed steady fed held (Ok reader) = fed ≡ Ok reader
IsFed steady fed held (Err (CannotRead i)) = steady ≡ true → ⊥
IsFed steady fed held (Err (Refused why)) = held ≡ Err (Refused why)
IsFed steady fed held (Err NoMemory) = ⊤
