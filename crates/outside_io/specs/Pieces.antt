-- What `begin` and `piece` return, in terms of the modelled contents.
use Rattle.std.specs.Prelude.{◌≡◌, ◌≢◌, ◌<◌, ◌≤◌, ℕ, List, [], ◌++◌, length, take, drop, Option, Some, None, Result, Ok, Err, ⊤, MatchOption}
use Rattle.outside_io.specs.declared.folder.TheConstants.{PIECE_SIZE}
use Rattle.outside_io.specs.declared.folder.LoadErr.{LoadErr}
use Rattle.outside_io.specs.declared.folder.LoadErr.TheVariants.{Failed, TooLong, NoMemory}
use Rattle.outside_io.specs.Files.{StoredFile, bytes_of}

-- The most bytes in a piece.
abbrev pub piece_size : ℕ
piece_size = PIECE_SIZE

-- What `begin` returns for a modelled file. If it succeeds, all bytes of the file are left, and they are within the limit.
-- `TooLong` means that they are not. A name without a file is never opened.
abbrev pub BeginsFile : Option (List ℕ) → ℕ → Result (Unit {0}) LoadErr → Option (List ℕ) → Type 0
BeginsFile (Some bytes) limit (Ok u) left = (left ≡ Some bytes) × (length bytes ≤ limit)
BeginsFile (Some bytes) limit (Err Failed) left = ⊤
BeginsFile (Some bytes) limit (Err TooLong) left = limit < length bytes
BeginsFile (Some bytes) limit (Err NoMemory) left = ⊤
BeginsFile None limit (Ok u) left = ⊥
BeginsFile None limit (Err Failed) left = ⊤
BeginsFile None limit (Err TooLong) left = ⊥
BeginsFile None limit (Err NoMemory) left = ⊤

-- What `begin` returns. If the folder is not modelled, neither is the open file, and it may be reported as too long.
abbrev pub Begins : Option (List StoredFile) → List ℕ → ℕ → Result (Unit {0}) LoadErr → Option (List ℕ) → Type 0
Begins (Some files) name limit result left = BeginsFile (bytes_of files name) limit result left
Begins None name limit (Ok u) left = left ≡ None
Begins None name limit (Err Failed) left = ⊤
Begins None name limit (Err TooLong) left = ⊤
Begins None name limit (Err NoMemory) left = ⊤

-- What `piece` returns, given the bytes left before and after it. A modelled file returns its next bytes, as many as a piece may
-- have, and is never too long. For a file that is not modelled, no bytes mean its end; a piece with bytes leaves it open.
abbrev pub GivesPiece : Option (List ℕ) → Option (List ℕ) → Result (Unit {0}) LoadErr → List ℕ → Type 0
GivesPiece (Some left) after (Ok u) into = (into ≡ take piece_size left) × (after ≡ Some (drop piece_size left))
GivesPiece (Some left) after (Err Failed) into = ⊤
GivesPiece (Some left) after (Err TooLong) into = ⊥
GivesPiece (Some left) after (Err NoMemory) into = ⊤
GivesPiece None after (Ok u) into = (into ≡ [] → after ≡ Some []) × (into ≢ [] → after ≡ None)
GivesPiece None after (Err why) into = ⊤

-- Whether, in a modelled folder, the bytes read so far and those that are left make up the file of this name.
abbrev pub GaveSoFar : Option (List StoredFile) → List ℕ → List ℕ → Option (List ℕ) → Type 0
GaveSoFar modelled name done left = MatchOption modelled ⊤ (λ files. (rest : List ℕ) × (left ≡ Some rest) × (bytes_of files name ≡ Some (done ++ rest)))

-- Whether, in a modelled folder, these bytes are the complete file of this name.
abbrev pub GaveAll : Option (List StoredFile) → List ℕ → List ℕ → Type 0
GaveAll modelled name done = MatchOption modelled ⊤ (λ files. bytes_of files name ≡ Some done)
