-- What each view promises, by what it answers.
use Rattle.std.specs.Prelude.{Contains, ◌≡◌, ◌≢◌, ◌⊎◌, ◌<◌, ◌≤◌, ℕ, true, List, [], ◌∷◌, length, Some, Ok, IsTrue, MatchOption}
use Rattle.pack_defs.specs.Lists.{is_in}
use Rattle.outside_io.specs.Faults.{HasRisen}
use Rattle.outside_io.specs.Files.{StoredFile}
use Rattle.outside_io.specs.Loads.{Writes}
use Rattle.auction_core.specs.declared.record.Record.{Record}
use Rattle.commands.specs.declared.inputs.Inputs.{Inputs}
use Rattle.commands.specs.Delivery.{AllOthersUnchanged, AreStored, AreTextsStoredUpTo, NamedText}
use Rattle.commands.specs.Ends.{IsShown, IsStatusOr}
use Rattle.commands.specs.Messages.{unwritten_line}
use Rattle.commands.specs.Outside.{Outside, IsLinePrinted}
use Rattle.commands.specs.Promises.{TellsFailures}
use Rattle.commands.specs.Statuses.{DONE, LEFT_OPEN, UNREAD, UNWRITTEN, REFUSED, NO_MEMORY, NOT_SHOWN, NOT_SETTLED}
use Rattle.commands.specs.VerifyPromises.{ChecksTranscript, IsSoundTranscript, ReadsTranscript}
use Rattle.commands.specs.Views.{Lacks, Tells, ViewAnswer}
use Rattle.command_words.specs.Words.{VerifyNames}

-- A transcript of these inputs is sound, and the answer about its record is these texts to store, this text to print and this
-- status. Where the folder's files are modelled, they hold the inputs and the transcript.
pub record IsAnswered (names : VerifyNames) (says : Inputs → Record → ViewAnswer) (before : Outside) : Type 0 where
  pub inputs : Inputs
  pub rec : Record
  pub shown : IsShown names before inputs rec
  pub texts : List NamedText
  pub text : List ℕ
  pub done : ℕ
  pub answer : says inputs rec ≡ Tells texts text done

-- What a view promises that answers so about a transcript and stores files of these names.
pub record ViewPromises (names : VerifyNames) (stored : List (List ℕ)) (says : Inputs → Record → ViewAnswer) (before after : Outside) (status : ℕ) : Type 0 where
  -- The status is 0, 1, 3, 4, 5, 8, 9 or 10.
  pub statuses : IsTrue (is_in (DONE ∷ LEFT_OPEN ∷ UNREAD ∷ UNWRITTEN ∷ REFUSED ∷ NO_MEMORY ∷ NOT_SHOWN ∷ NOT_SETTLED ∷ []) status)
  -- Of the inputs, of the transcript and of failures it promises what `verify` does.
  pub reads : ReadsTranscript names before after status
  pub checks : ChecksTranscript names before after status
  pub failures : TellsFailures before after status
  -- At status 0 and 1 the transcript is sound, and the status is the answer's. The sink grew by the text to print, and over modelled
  -- files the texts to store are stored and every other file is unchanged.
  pub done : IsTrue (is_in (DONE ∷ LEFT_OPEN ∷ []) status) →
      (a : IsAnswered names says before) × (status ≡ a.done) × Writes before.held after.held a.text (Ok tt)
      × ((files : List StoredFile) → before.files ≡ Some files → MatchOption after.files ⊥ (λ new. AreStored files new a.texts))
  -- Over modelled files, at status 10 the transcript is sound, what the words name is lacking, and the answer's line was printed.
  pub lacking : (files : List StoredFile) → before.files ≡ Some files → status ≡ NOT_SETTLED →
      (s : IsSoundTranscript files names) × (line : List ℕ) × (says s.inputs s.rec ≡ Lacks line) × IsLinePrinted before after line
  -- Over modelled files, a sound transcript ends at 10 if what the words name is lacking. Otherwise it ends at the answer's status or
  -- at 4. In both cases memory may have run out, or an unsteady folder failed to read.
  pub lacks : (files : List StoredFile) (s : IsSoundTranscript files names) (line : List ℕ) →
      before.files ≡ Some files → says s.inputs s.rec ≡ Lacks line → IsStatusOr NOT_SETTLED before status
  pub complete : (files : List StoredFile) (s : IsSoundTranscript files names) (texts : List NamedText) (text : List ℕ) (done : ℕ) →
      before.files ≡ Some files → says s.inputs s.rec ≡ Tells texts text done → IsStatusOr done before status ⊎ (status ≡ UNWRITTEN)
  -- At status 4 the transcript is sound. Either a store failed in a folder that isn't steady, its fault count rose, and the line
  -- names the file; over modelled files the texts are then stored only up to that one. Or the sink failed at the text to print, for
  -- which it did not guarantee room, and grew by it or by some of it, from the first byte on. Over modelled files the texts are then
  -- stored.
  pub unwritten : status ≡ UNWRITTEN → (a : IsAnswered names says before) × (
      (HasRisen before.faults after.faults × (before.steady ≢ true)
      × (x : NamedText) × Contains a.texts x × IsLinePrinted before after (unwritten_line x.name)
      × ((files : List StoredFile) → before.files ≡ Some files → (upto : AreTextsStoredUpTo files a.texts after) × (upto.part.failed ≡ x)))
      ⊎ (HasRisen before.sink_faults after.sink_faults × (before.sure < length a.text) × IsLinePrinted before after a.text
      × ((files : List StoredFile) → before.files ≡ Some files → MatchOption after.files ⊥ (λ new. AreStored files new a.texts))))
  -- Status 4 never comes from a steady folder and a sink that guarantees room for the text to print, whatever the answer is.
  pub surely_written : before.steady ≡ true → ((a : IsAnswered names says before) → length a.text ≤ before.sure) → status ≢ UNWRITTEN
  -- Over modelled files, at status 8 no file changes, or the texts are stored only up to one name. At 3, 5, 9 and 10 no file changes,
  -- and at no status does a file change except those of the names to store.
  pub part_stored : (files : List StoredFile) → before.files ≡ Some files → status ≡ NO_MEMORY →
      (after.files ≡ before.files) ⊎ ((a : IsAnswered names says before) × AreTextsStoredUpTo files a.texts after)
  pub untouched : IsTrue (is_in (UNREAD ∷ REFUSED ∷ NOT_SHOWN ∷ NOT_SETTLED ∷ []) status) → after.files ≡ before.files
  pub others : (files : List StoredFile) → before.files ≡ Some files → MatchOption after.files ⊥ (λ new. AllOthersUnchanged files new stored)
