-- What the calls of a folder and a sink return, in terms of the modelled contents.
use Rattle.std.specs.Prelude.{◌≡◌, ◌≢◌, ◌<◌, ◌≤◌, ℕ, true, List, ◌++◌, length, take, Option, Some, None, Result, Ok, Err, ⊤, MatchOption, MatchResult}
use Rattle.outside_io.specs.declared.folder.LoadErr.{LoadErr}
use Rattle.outside_io.specs.declared.folder.LoadErr.TheVariants.{Failed, TooLong, NoMemory}
use Rattle.outside_io.specs.declared.folder.StoreErr.{StoreErr}
use Rattle.outside_io.specs.declared.sink.Failed.{Failed as WriteFailed}
use Rattle.outside_io.specs.Files.{StoredFile, bytes_of, OthersUnchanged, Puts}
use Rattle.outside_io.specs.Models.{FolderModel}

-- What a load of a modelled file returns. If it succeeds, it returns the file's bytes, which are within the limit. `TooLong` means
-- that they are not. A name without a file is never loaded.
abbrev pub LoadsFile : Option (List ℕ) → ℕ → Result (Unit {0}) LoadErr → List ℕ → Type 0
LoadsFile (Some bytes) limit (Ok u) into = (into ≡ bytes) × (length bytes ≤ limit)
LoadsFile (Some bytes) limit (Err Failed) into = ⊤
LoadsFile (Some bytes) limit (Err TooLong) into = limit < length bytes
LoadsFile (Some bytes) limit (Err NoMemory) into = ⊤
LoadsFile None limit (Ok u) into = ⊥
LoadsFile None limit (Err Failed) into = ⊤
LoadsFile None limit (Err TooLong) into = ⊥
LoadsFile None limit (Err NoMemory) into = ⊤

-- What a load returns; nothing is said of a folder that is not modelled.
abbrev pub Loads : Option (List StoredFile) → List ℕ → ℕ → Result (Unit {0}) LoadErr → List ℕ → Type 0
Loads modelled name limit result into = MatchOption modelled ⊤ (λ files. LoadsFile (bytes_of files name) limit result into)

-- Whether a load or `begin` does not return `Failed`, if the folder is steady and modelled and has the file.
abbrev pub FindsExisting : FolderModel → List ℕ → Result (Unit {0}) LoadErr → Type 0
FindsExisting modelled name result = (files : List StoredFile) (bytes : List ℕ) →
    modelled.steady ≡ true → modelled.files ≡ Some files → bytes_of files name ≡ Some bytes → result ≢ Err Failed

-- What a store leaves in a modelled folder: the bytes under the name, and all other files unchanged. After an error the name may
-- hold anything, or be gone. A folder that is not modelled stays so.
abbrev pub Stores : Option (List StoredFile) → Option (List StoredFile) → List ℕ → List ℕ → Result (Unit {0}) StoreErr → Type 0
Stores None None name bytes result = ⊤
Stores None (Some new) name bytes result = ⊥
Stores (Some old) None name bytes result = ⊥
Stores (Some old) (Some new) name bytes result =
    MatchResult result (λ u. Puts old new name bytes) (λ e. OthersUnchanged old new name)

-- What a write leaves in a modelled sink: the old bytes and then the new ones. After an error some of the new ones, from the first
-- on, may have been written. A sink that is not modelled stays so.
abbrev pub Writes : Option (List ℕ) → Option (List ℕ) → List ℕ → Result (Unit {0}) WriteFailed → Type 0
Writes None None bytes result = ⊤
Writes None (Some new) bytes result = ⊥
Writes (Some old) None bytes result = ⊥
Writes (Some old) (Some new) bytes result =
    MatchResult result (λ u. new ≡ old ++ bytes) (λ e. (n : ℕ) × (new ≡ old ++ take n bytes))
