-- The files of a modelled folder.
use Rattle.std.specs.Prelude.{◌≡◌, ◌≢◌, ℕ, ◌<◌, length, take, if◌then◌else◌, List, [], ◌∷◌, Option, Some, None}
use Rattle.std.specs.List.{HoldsAt}
use Rattle.std.specs.Str.{bytes_eq}

-- A file: the bytes of its name, and its contents.
pub record StoredFile : Type 0 where
  pub name : List ℕ
  pub bytes : List ℕ

-- The contents of the first file of this name, if there is one.
abbrev pub bytes_of : List StoredFile → List ℕ → Option (List ℕ)
bytes_of [] name = None
bytes_of (x ∷ xs) name = if bytes_eq x.name name then Some x.bytes else bytes_of xs name

-- Whether all files, except the one of this name, are unchanged.
abbrev pub OthersUnchanged : List StoredFile → List StoredFile → List ℕ → Type 0
OthersUnchanged old new name = (other : List ℕ) → other ≢ name → bytes_of new other ≡ bytes_of old other

-- Whether the file of this name has these contents, and all others are unchanged.
pub record Puts (old new : List StoredFile) (name bytes : List ℕ) : Type 0 where
  pub holds : bytes_of new name ≡ Some bytes
  pub others : OthersUnchanged old new name

-- Whether the first file of this name is at this index.
pub record IsPlace (files : List StoredFile) (name : List ℕ) (index : ℕ) : Type 0 where
  pub within : index < length files
  pub named : HoldsAt (λ x. x.name ≡ name) files index
  pub first : bytes_of (take index files) name ≡ None

-- The files with these contents under the name: in place of the old ones, or as a new file at the end.
abbrev pub with_file : List StoredFile → List ℕ → List ℕ → List StoredFile
with_file [] name bytes = record { name = name; bytes = bytes } ∷ []
with_file (x ∷ xs) name bytes = if bytes_eq x.name name then record { name = name; bytes = bytes } ∷ xs else x ∷ with_file xs name bytes
