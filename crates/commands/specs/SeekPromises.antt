-- What `seek` promises, clause by clause.
use Rattle.std.specs.Prelude.{◌≡◌, ◌≢◌, ◌⊎◌, ◌<◌, ◌≤◌, ℕ, Bool, false, true, List, [], ◌∷◌, length, Option, Some, None, Ok, IsFalse, IsTrue, MatchOption}
use Rattle.pack_defs.specs.Limits.{LEAST_CHANNEL}
use Rattle.pack_defs.specs.Lists.{is_in}
use Rattle.pack_defs.specs.Packing.{IsPacking}
use Rattle.pack_defs.specs.Prices.{start_set}
use Rattle.outside_io.specs.Faults.{HasRisen}
use Rattle.outside_io.specs.Files.{StoredFile}
use Rattle.outside_io.specs.Loads.{Writes}
use Rattle.auction_core.specs.declared.record.Record.{Record}
use Rattle.auction_core.specs.declared.record.Shown.{Shown}
use Rattle.auction_core.specs.declared.record.Shown.TheVariants.{Empty, Fits, Same, NoChannel, Refuted, Outside as ByProof, Undecided}
use Rattle.result_text.specs.ChannelsText.{channels_text}
use Rattle.target_seek.specs.TopChannels.{book_at, fits_at}
use Rattle.commands.specs.declared.inputs.sources.Sources.{Sources}
use Rattle.commands.specs.declared.top_channel_runs.LeastTop.{LeastTop}
use Rattle.commands.specs.Delivery.{AllOthersUnchanged, AreStored, NamedText, named}
use Rattle.commands.specs.Ends.{AreSought, IsStatusOr}
use Rattle.commands.specs.Outside.{Outside, IsLinePrinted}
use Rattle.commands.specs.Promises.{KeepsRecord, ReadsInputs, TellsFailures}
use Rattle.commands.specs.Records.{IsOpenRecordOf, IsRefutedRecordOf}
use Rattle.commands.specs.Messages.{open_line, unfit_line, unwritten_line}
use Rattle.commands.specs.Seek.{IsLeastTop, IsSeekable, base_of, inputs_at, seekable_of, top_status, top_text}
use Rattle.commands.specs.Statuses.{DONE, LEFT_OPEN, UNREAD, UNWRITTEN, REFUSED, START_UNFIT, START_OPEN, NO_MEMORY}
use Rattle.command_words.specs.Words.{SeekNames, seek_inputs}

-- What `seek` stores: the text of the channels up to the top that was found.
abbrev pub seek_texts : SeekNames → Record → List NamedText
seek_texts names rec = named names.channels (channels_text rec.map) ∷ []

-- The verdict shows that the set doesn't fit, by a station without a channel or by a worker's refutation.
abbrev pub shows_unfit : Shown → Bool
shows_unfit Empty = false
shows_unfit (Fits delta) = false
shows_unfit Same = false
shows_unfit (NoChannel s) = true
shows_unfit (Refuted worker how) = true
shows_unfit (ByProof proof) = false
shows_unfit (Undecided receipts) = false

-- A top channel was found for the inputs, and the start set fits up to it. The files hold the inputs where they are modelled.
pub record IsTopOf (names : SeekNames) (before : Outside) (found below : Option Record) : Type 0 where
  pub sources : Sources
  pub sought : AreSought names before sources
  pub seekable : IsSeekable (base_of sources)
  pub x : LeastTop
  -- The first record is of the start set alone up to that top. If the top is above 14, the second record is of the start set
  -- alone up to one channel less.
  pub least : IsLeastTop (base_of sources) x
  pub recorded : found ≡ Some x.rec
  pub lower : below ≡ x.below
  pub fit : IsTrue (fits_at (base_of sources) x.top)
  -- The first record's map has a channel for exactly the stations of the start set, and violates no row.
  pub channels : IsPacking (book_at (base_of sources) x.top) (start_set sources.scenario) x.rec.map

-- The start set doesn't fit up to the scenario's own top channel. The record is of the auction that ended at that start, and the
-- line says so.
pub record IsNoTop (names : SeekNames) (before after : Outside) (found : Option Record) : Type 0 where
  pub sources : Sources
  pub sought : AreSought names before sources
  pub seekable : IsSeekable (base_of sources)
  pub rec : Record
  pub recorded : found ≡ Some rec
  pub auction : IsRefutedRecordOf (inputs_at (base_of sources) sources.scenario.top) rec
  pub unfit : IsFalse (fits_at (base_of sources) sources.scenario.top)
  pub line : IsLinePrinted before after unfit_line

-- The start test up to the scenario's own top channel is undecided. The record has a receipt from every worker, and the line says
-- so.
pub record IsTopOpen (names : SeekNames) (before after : Outside) (found : Option Record) : Type 0 where
  pub sources : Sources
  pub sought : AreSought names before sources
  pub seekable : IsSeekable (base_of sources)
  pub rec : Record
  pub recorded : found ≡ Some rec
  pub auction : IsOpenRecordOf (inputs_at (base_of sources) sources.scenario.top) rec
  pub line : IsLinePrinted before after open_line

-- What `seek` promises, by its status and its two records.
pub record SeekPromises (names : SeekNames) (before after : Outside) (status : ℕ) (found below : Option Record) : Type 0 where
  -- The status is 0, 1 or from 3 to 8.
  pub statuses : IsTrue (is_in (DONE ∷ LEFT_OPEN ∷ UNREAD ∷ UNWRITTEN ∷ REFUSED ∷ START_UNFIT ∷ START_OPEN ∷ NO_MEMORY ∷ []) status)
  -- Of the inputs, of failures and of the first record it promises what others do. At 6 and 7 no file changes.
  pub inputs : ReadsInputs (seek_inputs names) before after status
  pub failures : TellsFailures before after status
  pub keeps : KeepsRecord before after status found
  pub unfit_untouched : IsTrue (is_in (START_UNFIT ∷ START_OPEN ∷ []) status) → after.files ≡ before.files
  -- Also where the folder's files are not modelled, a top channel was found at status 0, 1 and 4. At 0 and 1 it was printed. At 0
  -- the start set fits up to no smaller channel from 14 on. If the top is then above 14, the second record's start is shown not
  -- to fit. At 1 the test of one channel less is undecided, and that channel was printed too. At 8 either there is no record, or
  -- a top channel was found.
  pub of : IsTrue (is_in (DONE ∷ LEFT_OPEN ∷ UNWRITTEN ∷ []) status) → IsTopOf names before found below
  pub done : IsTrue (is_in (DONE ∷ LEFT_OPEN ∷ []) status) →
      (of : IsTopOf names before found below) × (status ≡ top_status of.x.is_open)
      × Writes before.held after.held (top_text of.x.top of.x.is_open) (Ok tt)
  pub least : status ≡ DONE →
      (of : IsTopOf names before found below) × ((less : ℕ) → LEAST_CHANNEL ≤ less → less < of.x.top → IsFalse (fits_at (base_of of.sources) less))
      × MatchOption below (of.x.top ≡ LEAST_CHANNEL) (λ rec. (LEAST_CHANNEL < of.x.top) × IsTrue (shows_unfit rec.start))
      × Writes before.held after.held (top_text of.x.top false) (Ok tt)
  pub out_of_memory : status ≡ NO_MEMORY → ((found ≡ None) × (below ≡ None)) ⊎ IsTopOf names before found below
  -- Over modelled files, at status 0 and 1 CHANNELS holds the text of the channels, and every other file is unchanged.
  pub stored : (files : List StoredFile) → before.files ≡ Some files → IsTrue (is_in (DONE ∷ LEFT_OPEN ∷ []) status) →
      (of : IsTopOf names before found below) × MatchOption after.files ⊥ (λ new. AreStored files new (seek_texts names of.x.rec))
  -- At status 6 the start set doesn't fit up to the scenario's own top channel. At 7 the record has a receipt from every worker
  -- that its budget was spent on that test. Over modelled files, if the set doesn't fit there, the status is 6 or 7, unless
  -- memory ran out or an unsteady folder failed.
  pub unfit : status ≡ START_UNFIT → IsNoTop names before after found
  pub left_open : status ≡ START_OPEN → IsTopOpen names before after found
  pub unfits : (files : List StoredFile) (sources : Sources) → before.files ≡ Some files → seekable_of files (seek_inputs names) ≡ Ok sources →
      IsFalse (fits_at (base_of sources) sources.scenario.top) → IsStatusOr START_UNFIT before status ⊎ (status ≡ START_OPEN)
  -- Over modelled files, if the set fits up to the scenario's own top channel, the status is 0, 1, 4 or 7. Otherwise memory ran
  -- out, or an unsteady folder failed to read.
  pub complete : (files : List StoredFile) (sources : Sources) → before.files ≡ Some files → seekable_of files (seek_inputs names) ≡ Ok sources →
      IsTrue (fits_at (base_of sources) sources.scenario.top) → IsStatusOr DONE before status ⊎ IsTrue (is_in (LEFT_OPEN ∷ UNWRITTEN ∷ START_OPEN ∷ []) status)
  -- Over modelled files, if nobody starts on air, the status is 0 or 4, unless memory ran out or an unsteady folder failed to
  -- read. At 0 the printed top is 14.
  pub nobody : (files : List StoredFile) (sources : Sources) → before.files ≡ Some files → seekable_of files (seek_inputs names) ≡ Ok sources →
      start_set sources.scenario ≡ [] →
      (IsStatusOr DONE before status ⊎ (status ≡ UNWRITTEN)) × (status ≡ DONE → Writes before.held after.held (top_text LEAST_CHANNEL false) (Ok tt))
  -- At status 4 there are two cases. The store failed in a folder that isn't steady, its fault count rose, and the line names the
  -- file. Or the sink failed at the text of the top, for which it did not guarantee room, and over modelled files the channels
  -- are stored. The sink then grew by that text or by some of it, from the first byte on.
  pub unwritten : status ≡ UNWRITTEN →
      (HasRisen before.faults after.faults × (before.steady ≢ true) × IsLinePrinted before after (unwritten_line names.channels))
      ⊎ ((of : IsTopOf names before found below) × HasRisen before.sink_faults after.sink_faults
      × (before.sure < length (top_text of.x.top of.x.is_open)) × IsLinePrinted before after (top_text of.x.top of.x.is_open)
      × ((files : List StoredFile) → before.files ≡ Some files → MatchOption after.files ⊥ (λ new. AreStored files new (seek_texts names of.x.rec))))
  -- At status 3, 5, 6 and 7 there is no second record.
  pub alone : IsTrue (is_in (UNREAD ∷ REFUSED ∷ START_UNFIT ∷ START_OPEN ∷ []) status) → below ≡ None
  -- Over modelled files, no file changes except CHANNELS.
  pub others : (files : List StoredFile) → before.files ≡ Some files →
      MatchOption after.files ⊥ (λ new. AllOthersUnchanged files new (names.channels ∷ []))
