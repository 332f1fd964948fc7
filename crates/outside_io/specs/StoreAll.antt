-- Several files that are stored in one call: each as if alone, in order, up to the first that cannot be stored.
use Rattle.std.specs.Prelude.{◌≡◌, ◌≢◌, ◌≤◌, ℕ, true, List, [], ◌∷◌, take, Some, Ok, Err, slice_get}
use Rattle.outside_io.specs.declared.folder.NewFile.{NewFile}
use Rattle.outside_io.specs.declared.folder.StoreErr.{StoreErr}
use Rattle.outside_io.specs.declared.folder.StoreErr.TheVariants.{Failed}
use Rattle.outside_io.specs.Diary.{Adds, store_call}
use Rattle.outside_io.specs.Faults.{HasRisen}
use Rattle.outside_io.specs.Files.{StoredFile}
use Rattle.outside_io.specs.Loads.{Stores}
use Rattle.outside_io.specs.Models.{FolderModel}

-- A file to store, as part of a modelled folder.
abbrev pub stored_file : NewFile → StoredFile
stored_file x = record { name = x.name.now; bytes = x.bytes.now }

-- Whether the file was stored between these two states of the folder.
pub record StoresOne (x : StoredFile) (old new : FolderModel) : Type 0 where
  pub stores : Stores old.files new.files x.name x.bytes (Ok tt)
  pub faults : new.faults ≡ old.faults
  pub steady : new.steady ≡ old.steady
  pub called : Adds (store_call x.name (Ok tt)) old.calls new.calls

-- Whether each of these files was stored, in order, between these two states of the folder.
abbrev pub AreAllStored : List StoredFile → FolderModel → FolderModel → Type 0
AreAllStored [] old new = new ≡ old
AreAllStored (x ∷ xs) old new = (next : FolderModel) × StoresOne x old next × AreAllStored xs next new

-- Whether the file was not stored between these two states of the folder, for this reason.
pub record FailsOne (x : StoredFile) (why : StoreErr) (old new : FolderModel) : Type 0 where
  pub stores : Stores old.files new.files x.name x.bytes (Err why)
  pub counted : old.faults ≤ new.faults
  pub failed : why ≡ Failed → HasRisen old.faults new.faults
  pub faults_unchanged : why ≢ Failed → new.faults ≡ old.faults
  pub steady : new.steady ≡ old.steady
  pub steady_never_fails : old.steady ≡ true → why ≢ Failed
  pub called : Adds (store_call x.name (Err why)) old.calls new.calls

-- Whether the files before this place were stored, in order, and the file at this place was not, for this reason.
pub record StopsAt (xs : List StoredFile) (place : ℕ) (why : StoreErr) (old new : FolderModel) : Type 0 where
  pub file : StoredFile
  pub there : slice_get xs place ≡ Some file
  pub between : FolderModel
  pub before : AreAllStored (take place xs) old between
  pub fails : FailsOne file why between new
