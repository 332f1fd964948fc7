-- The calls that a command makes of a folder that keeps a diary: which inputs it reads, where the reading stops, and what it stores.
use Rattle.std.specs.Prelude.{◌≡◌, ◌⊎◌, ℕ, All, List, [], ◌∷◌, ◌++◌, Option, Some, None, Result, Ok, Err, IsSome, IsTrue}
use Rattle.pack_defs.specs.Lists.{is_in}
use Rattle.auction_core.specs.declared.record.Record.{Record}
use Rattle.outside_io.specs.Diary.{FolderCall, with_call}
use Rattle.outside_io.specs.declared.diary.CallKind.TheVariants.{Load, Begin, Piece, Store}
use Rattle.outside_io.specs.declared.diary.CallEnd.{CallEnd}
use Rattle.outside_io.specs.declared.diary.CallEnd.TheVariants.{Done, Failed}
use Rattle.command_words.specs.declared.run_words.Input.{Input}
use Rattle.command_words.specs.Words.{InputNames, name_of}
use Rattle.commands.specs.declared.inputs.input_file.Stop.{Stop}
use Rattle.commands.specs.declared.inputs.input_file.Stop.TheVariants.{CannotRead, Refused, NoMemory}
use Rattle.commands.specs.Messages.{unread_line}
use Rattle.commands.specs.Outside.{Outside, IsLinePrinted}
use Rattle.commands.specs.Statuses.{DONE, LEFT_OPEN, UNREAD, UNWRITTEN, REFUSED, START_UNFIT, START_OPEN, NO_MEMORY}

-- A diary, if the folder keeps one.
abbrev pub Diary : Type 0
Diary = Option (List FolderCall)

-- The `begin` of the file of this name, with this end.
abbrev pub begun_as : CallEnd → List ℕ → FolderCall
begun_as end name = record { kind = Begin; name = name; end = end }

-- The load of the file of this name, with this end.
abbrev pub loaded_as : CallEnd → List ℕ → FolderCall
loaded_as end name = record { kind = Load; name = name; end = end }

-- A piece of the file that was begun last, with this end.
abbrev pub piece_as : CallEnd → FolderCall
piece_as end = record { kind = Piece; name = []; end = end }

-- The call with another end.
abbrev pub ended_as : CallEnd → FolderCall → FolderCall
ended_as end call = record { kind = call.kind; name = call.name; end = end }

-- Why a reading stopped, if it did.
abbrev pub stopped_by : {A : Type 0} → Result A Stop → Option Stop
stopped_by (Ok x) = None
stopped_by (Err why) = Some why

-- ---- one file

-- The call that reads a file failed, or the file was begun and a piece of it failed. The diary has no later call.
pub data IsUnread (call : FolderCall) (old new : Diary) : Type 0 where
  CallFailed : new ≡ with_call (ended_as Failed call) old → IsUnread call old new
  PieceFailed : call.kind ≡ Begin → new ≡ with_call (piece_as Failed) (with_call call old) → IsUnread call old new

-- The file was not asked for, or the call that reads it was made, or the file was begun and a piece of it was not returned. The
-- diary has no later call.
pub data IsPartRead (call : FolderCall) (old new : Diary) : Type 0 where
  NotAsked : new ≡ old → IsPartRead call old new
  Asked : (end : CallEnd) → new ≡ with_call (ended_as end call) old → IsPartRead call old new
  PieceLost : (end : CallEnd) → call.kind ≡ Begin → new ≡ with_call (piece_as end) (with_call call old) → IsPartRead call old new

-- What the reading of one input by this call leaves of the diary: the call alone, if the input is read. If the input cannot be
-- read, it is this one, and its call or a piece of it failed.
abbrev pub CallsOne : FolderCall → Input → Diary → Diary → Option Stop → Type 0
CallsOne call input old new None = IsSome new → new ≡ with_call call old
CallsOne call input old new (Some (CannotRead i)) = (i ≡ input) × (IsSome new → IsUnread call old new)
CallsOne call input old new (Some (Refused why)) = IsSome new → IsPartRead call old new
CallsOne call input old new (Some NoMemory) = IsSome new → IsPartRead call old new

-- What the pieces of a file leave of the diary: nothing, if all are read. If the file cannot be read, it is this one, and a piece
-- failed.
abbrev pub CallsPieces : Input → Diary → Diary → Option Stop → Type 0
CallsPieces input old new None = new ≡ old
CallsPieces input old new (Some (CannotRead i)) = (i ≡ input) × (IsSome new → new ≡ with_call (piece_as Failed) old)
CallsPieces input old new (Some (Refused why)) = IsSome new → (new ≡ old) ⊎ ((end : CallEnd) × (new ≡ with_call (piece_as end) old))
CallsPieces input old new (Some NoMemory) = IsSome new → (new ≡ old) ⊎ ((end : CallEnd) × (new ≡ with_call (piece_as end) old))

-- ---- several files

-- The diary with these calls, of which the first was made first.
abbrev pub after_calls : List FolderCall → Diary → Diary
after_calls [] old = old
after_calls (x ∷ xs) old = after_calls xs (with_call x old)

-- The reading by these calls, in their order, stopped at one of them or after the last. If a name is given, the file of that name
-- could not be read: its call or a piece of it is the last call, and it failed. Each call before that one was made once.
abbrev pub IsReadUpTo : List FolderCall → Option (List ℕ) → Diary → Diary → Type 0
IsReadUpTo [] None old new = new ≡ old
IsReadUpTo [] (Some name) old new = ⊥
IsReadUpTo (x ∷ xs) None old new = IsPartRead x old new ⊎ IsReadUpTo xs None (with_call x old) new
IsReadUpTo (x ∷ xs) (Some name) old new = ((name ≡ x.name) × IsUnread x old new) ⊎ IsReadUpTo xs (Some name) (with_call x old) new

-- What the reading of inputs by these calls leaves of the diary: each call, once and in order. If an input cannot be read, the last
-- call is of that input, and it failed.
abbrev pub CallsAll : InputNames → List FolderCall → Diary → Diary → Option Stop → Type 0
CallsAll names calls old new None = IsSome new → new ≡ after_calls calls old
CallsAll names calls old new (Some (CannotRead input)) = IsSome new → IsReadUpTo calls (Some (name_of names input)) old new
CallsAll names calls old new (Some (Refused why)) = IsSome new → IsReadUpTo calls None old new
CallsAll names calls old new (Some NoMemory) = IsSome new → IsReadUpTo calls None old new

-- The calls that read the domains, the rows and the scenario.
abbrev pub source_calls : InputNames → List FolderCall
source_calls names = begun_as Done names.domains ∷ begun_as Done names.rows ∷ loaded_as Done names.scenario ∷ []

-- The call that reads the owners' file, if one is named.
abbrev pub owner_calls : Option (List ℕ) → List FolderCall
owner_calls None = []
owner_calls (Some name) = loaded_as Done name ∷ []

-- The calls that read the inputs of an auction.
abbrev pub input_calls : InputNames → List FolderCall
input_calls names = source_calls names ++ owner_calls names.owners

-- ---- stores

-- Only stores were made.
abbrev pub AreStores : List FolderCall → Type 0
AreStores calls = All (λ call. call.kind ≡ Store) calls

-- Between these two diaries only stores were made, at least one.
pub record HasAsked (old new : Diary) : Type 0 where
  pub first : FolderCall
  pub later : List FolderCall
  pub stores : AreStores (first ∷ later)
  pub made : new ≡ after_calls (first ∷ later) old

-- ---- a run

-- What the end of an auction leaves of the diary: nothing if the start set doesn't fit or is undecided, or if memory ran out before
-- a store, and then there is no record at status 8. Otherwise stores alone.
pub data ConcludesCalls (old new : Diary) (status : ℕ) (found : Option Record) : Type 0 where
  NoStore : IsTrue (is_in (START_UNFIT ∷ START_OPEN ∷ NO_MEMORY ∷ []) status) → (status ≡ NO_MEMORY → found ≡ None) → new ≡ old →
      ConcludesCalls old new status found
  Stores : IsTrue (is_in (DONE ∷ LEFT_OPEN ∷ UNWRITTEN ∷ NO_MEMORY ∷ []) status) → HasAsked old new → ConcludesCalls old new status found

-- What a command that reads inputs by these calls, and then stores, leaves of the diary.
pub data RunCalls (calls : List FolderCall) (before after : Outside) (old new : Diary) (status : ℕ) (found : Option Record) : Type 0 where
  -- At status 3 the line names the file whose load, `begin` or piece failed, and that was the last call.
  Unread : status ≡ UNREAD → found ≡ None → (name : List ℕ) → IsReadUpTo calls (Some name) old new → IsLinePrinted before after (unread_line name) →
      RunCalls calls before after old new status found
  -- An input was rejected, or memory ran out while the inputs were read.
  Stopped : IsTrue (is_in (REFUSED ∷ NO_MEMORY ∷ []) status) → found ≡ None → IsReadUpTo calls None old new →
      RunCalls calls before after old new status found
  -- All inputs were read, and then either nothing was asked or stores alone.
  AllRead : ConcludesCalls (after_calls calls old) new status found → RunCalls calls before after old new status found

-- What a run leaves of the diary, if the folder still keeps one at the end.
abbrev pub KeepsRunDiary : List FolderCall → Outside → Outside → Diary → Diary → ℕ → Option Record → Type 0
KeepsRunDiary calls before after old new status found = IsSome new → RunCalls calls before after old new status found
