-- The delivery of texts: each is stored under its name, in order, and then another text is printed.
use Rattle.std.specs.Prelude.{◌≡◌, ◌≢◌, ◌⊎◌, ◌<◌, ◌≤◌, ◌++◌, ℕ, true, All, List, [], ◌∷◌, length, map, Option, Some, Ok, Err}
use Rattle.outside_io.specs.Faults.{HasRisen}
use Rattle.outside_io.specs.Files.{StoredFile, bytes_of}
use Rattle.outside_io.specs.Loads.{Stores, Writes}
use Rattle.outside_io.specs.declared.folder.NewFile.{NewFile}
use Rattle.outside_io.specs.declared.folder.StoreErr.{StoreErr}
use Rattle.outside_io.specs.declared.folder.StoreErr.TheVariants.{Failed, NoMemory}
use Rattle.commands.specs.Outside.{Outside, IsLinePrinted}
use Rattle.commands.specs.Messages.{PrintsText, memory_line, unwritten_line}
use Rattle.commands.specs.Statuses.{UNWRITTEN, NO_MEMORY}

-- A text, and the name to store it under.
pub record NamedText : Type 0 where
  pub name : List ℕ
  pub text : List ℕ

-- The text with this name and these bytes.
abbrev pub named : List ℕ → List ℕ → NamedText
named name text = record { name = name; text = text }

-- The name and the text of a file to store.
abbrev pub named_text : NewFile → NamedText
named_text x = named x.name.now x.bytes.now

-- The text was stored. The sink and whether the folder is steady are unchanged, and the folder's fault count didn't fall.
pub record IsStored (x : NamedText) (before after : Outside) : Type 0 where
  pub stores : Stores before.files after.files x.name x.text (Ok tt)
  pub faults : before.faults ≤ after.faults
  pub steady : after.steady ≡ before.steady
  pub held : after.held ≡ before.held
  pub sink_faults : after.sink_faults ≡ before.sink_faults
  pub sure : after.sure ≡ before.sure

-- The text was not stored, and the line says so. Either the store failed in a folder that isn't steady, or memory ran out.
pub data IsNotStored (x : NamedText) (before after : Outside) (status : ℕ) : Type 0 where
  Unwritten : status ≡ UNWRITTEN → Stores before.files after.files x.name x.text (Err Failed) → HasRisen before.faults after.faults →
      before.steady ≢ true → IsLinePrinted before after (unwritten_line x.name) → IsNotStored x before after status
  OutOfRoom : status ≡ NO_MEMORY → Stores before.files after.files x.name x.text (Err NoMemory) → IsLinePrinted before after memory_line →
      IsNotStored x before after status

-- The status and the line for a text that was not stored: the file can't be written, or memory ran out.
abbrev pub ExplainsStore : List ℕ → StoreErr → Option (List ℕ) → Option (List ℕ) → ℕ → ℕ → ℕ → Type 0
ExplainsStore name Failed held held' sink_faults sink_faults' status = (status ≡ UNWRITTEN) × PrintsText held held' sink_faults sink_faults' (unwritten_line name)
ExplainsStore name NoMemory held held' sink_faults sink_faults' status = (status ≡ NO_MEMORY) × PrintsText held held' sink_faults sink_faults' memory_line

-- The text was printed, and the status is `done`. Or the sink failed, without having guaranteed room for the text, and holds the
-- text or some of it from the first byte on. No file changed.
pub data IsPrinted (text : List ℕ) (done : ℕ) (before after : Outside) (status : ℕ) : Type 0 where
  Written : status ≡ done → after.files ≡ before.files → Writes before.held after.held text (Ok tt) →
      IsPrinted text done before after status
  CutShort : status ≡ UNWRITTEN → after.files ≡ before.files → HasRisen before.sink_faults after.sink_faults → before.sure < length text →
      IsLinePrinted before after text → IsPrinted text done before after status

-- What is left outside after these texts are stored in order and then the summary is printed. Either each text was stored and the
-- summary printed as `IsPrinted` says, or the first text that was not stored ended the delivery.
abbrev pub Delivers : List NamedText → List ℕ → ℕ → Outside → Outside → ℕ → Type 0
Delivers [] summary done before after status = IsPrinted summary done before after status
Delivers (x ∷ xs) summary done before after status =
    ((next : Outside) × IsStored x before next × Delivers xs summary done next after status)
    ⊎ IsNotStored x before after status

-- Each of these texts was stored, in order, and nothing else was done.
abbrev pub AreAllStored : List NamedText → Outside → Outside → Type 0
AreAllStored [] before after = after ≡ before
AreAllStored (x ∷ xs) before after = (next : Outside) × IsStored x before next × AreAllStored xs next after

-- The texts before one were stored, that one was not, and nothing else was done.
abbrev pub StopsAtOne : List NamedText → Outside → Outside → ℕ → Type 0
StopsAtOne [] before after status = ⊥
StopsAtOne (x ∷ xs) before after status =
    ((next : Outside) × IsStored x before next × StopsAtOne xs next after status) ⊎ IsNotStored x before after status

-- ---- What the delivery leaves of modelled files

-- The names of these texts.
abbrev pub names_of : List NamedText → List (List ℕ)
names_of xs = map (λ x. x.name) xs

-- The name is none of these names.
abbrev pub IsOther : List (List ℕ) → List ℕ → Type 0
IsOther names other = All (λ name. other ≢ name) names

-- All files except those of these names are unchanged.
abbrev pub AllOthersUnchanged : List StoredFile → List StoredFile → List (List ℕ) → Type 0
AllOthersUnchanged old new names = (other : List ℕ) → IsOther names other → bytes_of new other ≡ bytes_of old other

-- The file of each text's name holds that text.
abbrev pub AreHeldUnder : List StoredFile → List NamedText → Type 0
AreHeldUnder new xs = All (λ x. bytes_of new x.name ≡ Some x.text) xs

-- The file of each text's name holds that text, and all other files are unchanged.
pub record AreStored (old new : List StoredFile) (xs : List NamedText) : Type 0 where
  pub hold : AreHeldUnder new xs
  pub others : AllOthersUnchanged old new (names_of xs)

-- The first of the texts are stored under their names. The next text's name may hold anything or be gone. All other files are
-- unchanged, also those of the names after it.
pub record AreStoredUpTo (old new : List StoredFile) (xs : List NamedText) : Type 0 where
  pub stored : List NamedText
  pub failed : NamedText
  pub left : List NamedText
  pub parts : stored ++ failed ∷ left ≡ xs
  pub hold : AreHeldUnder new stored
  pub others : AllOthersUnchanged old new (names_of stored ++ failed.name ∷ [])

-- The texts are stored only up to one name. The texts before it are stored, that name may hold anything or be gone, and all other
-- files are unchanged.
pub record AreTextsStoredUpTo (files : List StoredFile) (texts : List NamedText) (after : Outside) : Type 0 where
  pub new : List StoredFile
  pub now_modelled : after.files ≡ Some new
  pub part : AreStoredUpTo files new texts
