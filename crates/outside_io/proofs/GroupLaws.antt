-- Laws of several files that are stored in order. For the two `store_all`.
use Rattle.std.proofs.Common.{arith, ◌≡◌, ◌≢◌, ◌<◌, ◌≤◌, ◌+◌, ◌∙◌, ℕ, false, None, List, [], ◌∷◌, ◌++◌, ap, get_or, length, map, refl, subst, sym, take}
use Rattle.std.specs.Prelude.{option_map, Some}
use Rattle.std.proofs.lemmas.List.{take-map, take_more}
use Rattle.std.proofs.lemmas.Option.{slice_get-get_or, slice_get-map}
use Rattle.outside_io.specs.Faults.{HasRisen}
use Rattle.outside_io.specs.Files.{StoredFile}
use Rattle.outside_io.specs.StoreAll.{AreAllStored, FailsOne, StopsAt, StoresOne, stored_file}
use Rattle.outside_io.specs.Memory.{FolderView}
use Rattle.outside_io.specs.Models.{FolderModel}
use Rattle.outside_io.specs.declared.folder.NewFile.{NewFile}
use Rattle.outside_io.specs.declared.folder.StoreErr.{StoreErr}
use Rattle.outside_io.specs.declared.folder.StoreErr.TheVariants.{Failed}

-- what is known of a folder in memory
abbrev pub memory_told : FolderView → FolderModel
memory_told s = record { files = Some s.files; faults = s.faults; steady = s.steady; calls = s.calls }

-- one more file after those that were stored
pub and-then : (xs : List StoredFile) (x : StoredFile) (old between new : FolderModel) → AreAllStored xs old between → StoresOne x between new → AreAllStored (xs ++ x ∷ []) old new
and-then [] x old between new all one = (new, subst (λ (t : FolderModel). StoresOne x t new) all one, refl)
and-then (y ∷ ys) x old between new all one = (all.0, all.1, and-then ys x all.0 between new all.2 one)

-- the first files and one more
first-and-one : (files : List NewFile) (i : ℕ) (any : NewFile) → i < length files → take (i + 1) (map stored_file files) ≡ take i (map stored_file files) ++ stored_file (get_or files i any) ∷ []
first-and-one files i any within =
    take-map stored_file (i + 1) files
    ∙ ap (λ xs. map stored_file xs) (take_more files i any within)
    ∙ map-behind (take i files) (get_or files i any)
    ∙ ap (λ xs. xs ++ stored_file (get_or files i any) ∷ []) (sym (take-map stored_file i files))
  where
    map-behind : (xs : List NewFile) (x : NewFile) → map stored_file (xs ++ x ∷ []) ≡ map stored_file xs ++ stored_file x ∷ []
    map-behind [] x = refl
    map-behind (y ∷ ys) x = ap (λ zs. stored_file y ∷ zs) (map-behind ys x)

pub stores-more : (files : List NewFile) (i : ℕ) (any : NewFile) (old between new : FolderModel) → i < length files → AreAllStored (take i (map stored_file files)) old between → StoresOne (stored_file (get_or files i any)) between new
    → AreAllStored (take (i + 1) (map stored_file files)) old new
stores-more files i any old between new within all one =
    subst (λ xs. AreAllStored xs old new) (sym (first-and-one files i any within)) (and-then (take i (map stored_file files)) (stored_file (get_or files i any)) old between new all one)

pub stops-here : (files : List NewFile) (i : ℕ) (any : NewFile) (why : StoreErr) (old between new : FolderModel) → i < length files → AreAllStored (take i (map stored_file files)) old between → FailsOne (stored_file (get_or files i any)) why between new
    → StopsAt (map stored_file files) i why old new
stops-here files i any why old between new within all fails = record {
  file = stored_file (get_or files i any);
  there = slice_get-map stored_file files i ∙ ap (option_map stored_file) (slice_get-get_or files i any within);
  between = between;
  before = all;
  fails = fails;
}

-- ---- a folder that is not modelled

-- what is known of a folder that is not modelled
abbrev pub untold : ℕ → FolderModel
untold faults = record { files = None; faults = faults; steady = false; calls = None }

-- if nothing fails, any files may count as stored
pub all-untold : (xs : List StoredFile) (faults : ℕ) → AreAllStored xs (untold faults) (untold faults)
all-untold [] faults = refl
all-untold (x ∷ xs) faults = (untold faults, record { stores = tt; faults = refl; steady = refl; called = λ kept. refl }, all-untold xs faults)

-- if a file is not stored, the count of faults agrees with the reason
pub stops-untold : (files : List NewFile) (place : ℕ) (why : StoreErr) (old new : ℕ) → place < length files → old ≤ new → (why ≡ Failed → HasRisen old new) → (why ≢ Failed → new ≡ old)
    → StopsAt (map stored_file files) place why (untold old) (untold new)
stops-untold [] place why old new within counted failed faults_unchanged = absurd (none-within place within)
  where
    none-within : (n : ℕ) → n < 0 → ⊥
    none-within n h = omega (arith, h)
stops-untold (x ∷ xs) place why old new within counted failed faults_unchanged =
    stops-here (x ∷ xs) place x why (untold old) (untold old) (untold new) within (all-untold (take place (map stored_file (x ∷ xs))) old)
    (record { stores = tt; counted = counted; failed = failed; faults_unchanged = faults_unchanged; steady = refl; steady_never_fails = λ steady e. cc steady; called = λ kept. refl })
