-- The diary of a folder: the calls that were made of it, the latest first.
use Rattle.std.specs.Prelude.{◌≡◌, List, [], ◌∷◌, ℕ, Option, Some, None, Result, Ok, Err, IsSome}
use Rattle.outside_io.specs.declared.diary.CallKind.{CallKind}
use Rattle.outside_io.specs.declared.diary.CallKind.TheVariants.{Piece, Store}
use Rattle.outside_io.specs.declared.diary.CallEnd.{CallEnd}
use Rattle.outside_io.specs.declared.diary.CallEnd.TheVariants.{Done, Failed, TooLong, NoMemory}
use Rattle.outside_io.specs.declared.folder.LoadErr.{LoadErr}
use Rattle.outside_io.specs.declared.folder.LoadErr.TheVariants.{Failed as LoadFailed, TooLong as LongFile, NoMemory as NoLoad}
use Rattle.outside_io.specs.declared.folder.StoreErr.{StoreErr}
use Rattle.outside_io.specs.declared.folder.StoreErr.TheVariants.{Failed as StoreFailed, NoMemory as NoStore}

-- A call: what it asked, the file's name, and how it ended. A piece is of the file that was begun last, and has no name.
pub record FolderCall : Type 0 where
  pub kind : CallKind
  pub name : List ℕ
  pub end : CallEnd

-- How a load, a `begin` or a piece ended.
abbrev pub load_end : Result (Unit {0}) LoadErr → CallEnd
load_end (Ok u) = Done
load_end (Err LoadFailed) = Failed
load_end (Err LongFile) = TooLong
load_end (Err NoLoad) = NoMemory

-- How a store ended.
abbrev pub store_end : Result (Unit {0}) StoreErr → CallEnd
store_end (Ok u) = Done
store_end (Err StoreFailed) = Failed
store_end (Err NoStore) = NoMemory

-- A load of the file of this name, or a `begin`, that ended so.
abbrev pub load_call : CallKind → List ℕ → Result (Unit {0}) LoadErr → FolderCall
load_call kind name result = record { kind = kind; name = name; end = load_end result }

-- A piece that ended so.
abbrev pub piece_call : Result (Unit {0}) LoadErr → FolderCall
piece_call result = record { kind = Piece; name = []; end = load_end result }

-- A store under this name that ended so.
abbrev pub store_call : List ℕ → Result (Unit {0}) StoreErr → FolderCall
store_call name result = record { kind = Store; name = name; end = store_end result }

-- The diary with one more call, if there is a diary.
abbrev pub with_call : FolderCall → Option (List FolderCall) → Option (List FolderCall)
with_call x None = None
with_call x (Some calls) = Some (x ∷ calls)

-- If there is a diary after the call, it is the one before with this call. A folder may lose its diary, and never begins one.
abbrev pub Adds : FolderCall → Option (List FolderCall) → Option (List FolderCall) → Type 0
Adds x old new = IsSome new → new ≡ with_call x old

-- What a piece leaves of the diary: it has an entry only if it fails.
abbrev pub AddsPiece : Result (Unit {0}) LoadErr → Option (List FolderCall) → Option (List FolderCall) → Type 0
AddsPiece (Ok u) old new = new ≡ old
AddsPiece (Err why) old new = Adds (piece_call (Err why)) old new
