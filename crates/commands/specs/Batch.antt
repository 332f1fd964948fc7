-- A batch, which is many auctions over the same constraint files: what its files hold, what becomes of its auctions, and its
-- texts.
use Rattle.std.specs.Prelude.{ℕ, Bool, true, false, ◌==◌, ◌++◌, if◌then◌else◌, List, [], ◌∷◌, Option, Some, None, Result, Ok, Err}
use Rattle.std.specs.List.{list_any}
use Rattle.outside_io.specs.Files.{StoredFile}
use Rattle.constraint_files.specs.Domains.{domains_of}
use Rattle.constraint_files.specs.PairTable.{pairs_of}
use Rattle.scenario_json.specs.Join.{joined}
use Rattle.scenario_json.specs.ScenarioOf.{scenario_of}
use Rattle.batch_list.specs.ListOf.{ListedNames, list_of}
use Rattle.batch_list.specs.Repeated.{repeated_result}
use Rattle.batch_list.specs.declared.error.ListErr.{ListErr}
use Rattle.batch_list.specs.declared.error.ListErr.TheVariants.{BadLine as BadRecord, Empty, NoMemory as NoRoom}
use Rattle.auction_core.specs.declared.record.Ending.{Ending}
use Rattle.auction_core.specs.declared.record.Ending.TheVariants.{Done, StartRefuted, StartUndecided}
use Rattle.auction_core.specs.declared.record.Record.{Record}
use Rattle.auction_core.specs.Backed.{undecided_of}
use Rattle.result_text.specs.ResultText.{count_line}
use Rattle.commands.specs.declared.inputs.batch_inputs.Constraints.{Constraints}
use Rattle.commands.specs.declared.inputs.batch_inputs.Listed.{Listed}
use Rattle.commands.specs.declared.inputs.Inputs.{Inputs}
use Rattle.commands.specs.declared.inputs.input_file.Stop.{Stop}
use Rattle.commands.specs.declared.inputs.input_file.Stop.TheVariants.{Refused, NoMemory}
use Rattle.command_words.specs.declared.run_words.Input.TheVariants.{Domains, Rows, Scenario as ScenarioFile, List as ListFile}
use Rattle.commands.specs.declared.messages.refusal.Refusal.TheVariants.{BadLine, EmptyList}
use Rattle.commands.specs.Delivery.{NamedText, named}
use Rattle.commands.specs.Inputs.{and_then, file_of, inputs_from, rows_read, scenario_read}
use Rattle.commands.specs.Records.{done_status, result_of, run_order}
use Rattle.commands.specs.Statuses.{DONE, LEFT_OPEN, START_UNFIT, START_OPEN, SOME_UNSTARTED}
use Rattle.command_words.specs.Words.{BatchNames, InputNames, inputs_with}

-- ---- What is read

-- The file names in the words of `batch`: the domains, the rows and the list.
abbrev pub names_in_words : BatchNames → List (List ℕ)
names_in_words names = names.domains ∷ names.rows ∷ names.list ∷ []

-- What the domains and the rows of these names hold, or the first error.
unfoldable pub constraints_of : List StoredFile → InputNames → Result Constraints Stop
constraints_of files names =
    and_then (and_then (file_of files names.domains Domains) (λ bytes. rows_read Domains (domains_of bytes))) (λ domains.
    and_then (and_then (file_of files names.rows Rows) (λ bytes. rows_read Rows (pairs_of bytes domains))) (λ pairs.
    Ok (record { domains = domains; pairs = pairs })))

-- What a list says, or the error of its reader: a rejected record, an empty list, or out of memory.
abbrev pub list_read : Result (List ListedNames) ListErr → Result (List ListedNames) Stop
list_read (Ok lines) = Ok lines
list_read (Err (BadRecord line)) = Err (Refused (BadLine line))
list_read (Err Empty) = Err (Refused EmptyList)
list_read (Err NoRoom) = Err NoMemory

-- What the list of this name says, or what stops its reading.
abbrev pub list_named : List StoredFile → List ℕ → Result (List ListedNames) Stop
list_named files name = and_then (file_of files name ListFile) (λ bytes. list_read (list_of bytes))

-- What the constraint files hold, and the lines of the list.
pub record ListedView : Type 0 where
  pub constraints : Constraints
  pub lines : List ListedNames

-- The code's value as the definitions see it.
abbrev pub listed_seen : Listed → ListedView
listed_seen l = record { constraints = l.constraints; lines = l.lines.items }

-- What the constraint files and the list hold, or the first error. The list's name is in the place of a scenario's.
unfoldable pub listing_of : List StoredFile → InputNames → Result ListedView Stop
listing_of files names =
    and_then (constraints_of files names) (λ constraints.
    and_then (list_named files names.scenario) (λ lines.
    Ok (record { constraints = constraints; lines = lines })))

-- The inputs that the scenario of this name makes beside these constraint files, or what stops its reading.
unfoldable pub inputs_with_constraints : List StoredFile → Constraints → List ℕ → Result Inputs Stop
inputs_with_constraints files c name =
    and_then (and_then (file_of files name ScenarioFile) (λ bytes. scenario_read (scenario_of bytes))) (λ sc.
    inputs_from sc c.pairs (joined sc c.domains c.pairs.list))

-- What stops the reading of a batch: a file, with the names of the files that it was read among, or a repeated result name.
pub data BatchStop : Type 0 where
  Unread : InputNames → Stop → BatchStop
  Twice : List ℕ → BatchStop

-- The result of a step passed to the next step, or the first error.
abbrev pub unless_stopped : {A B : Type 0} → Result A BatchStop → (A → Result B BatchStop) → Result B BatchStop
unless_stopped (Ok x) f = f x
unless_stopped (Err e) f = Err e

-- The result of a reading, with these names added to its error.
abbrev pub among : {A : Type 0} → InputNames → Result A Stop → Result A BatchStop
among names (Ok x) = Ok x
among names (Err why) = Err (Unread names why)

-- These lines if no result name is repeated, else the error that has the repeated name.
abbrev pub once_each : List ListedNames → Option (List ℕ) → Result (List ListedNames) BatchStop
once_each lines None = Ok lines
once_each lines (Some name) = Err (Twice name)

-- The inputs of the scenarios of these lines, in order, or the first error.
abbrev pub each_inputs : List StoredFile → BatchNames → Constraints → List ListedNames → Result (List Inputs) BatchStop
each_inputs files names c [] = Ok []
each_inputs files names c (line ∷ lines) =
    unless_stopped (among (inputs_with names line.scenario) (inputs_with_constraints files c line.scenario)) (λ inputs.
    unless_stopped (each_inputs files names c lines) (λ more. Ok (inputs ∷ more)))

-- A batch: the lines of its list, and the inputs of each line's scenario.
pub record HeldBatch : Type 0 where
  pub lines : List ListedNames
  pub inputs : List Inputs

-- The batch that the files of these names hold, or the first error. The reading order is the domains, the rows, the list, the
-- result names, and then each line's scenario with its book.
unfoldable pub batch_of : List StoredFile → BatchNames → Result HeldBatch BatchStop
batch_of files names =
    unless_stopped (among (inputs_with names names.list) (listing_of files (inputs_with names names.list))) (λ listed.
    unless_stopped (once_each listed.lines (repeated_result (names_in_words names) listed.lines)) (λ lines.
    unless_stopped (each_inputs files names listed.constraints lines) (λ inputs.
    Ok (record { lines = lines; inputs = inputs }))))

-- ---- What becomes of an auction

-- The auction ended at its start.
abbrev pub ends_at_start : Ending → Bool
ends_at_start Done = false
ends_at_start StartRefuted = true
ends_at_start StartUndecided = true

-- The status that `run` returns for an auction with this ending. `done` is the status of a completed auction.
abbrev pub ended_status : Ending → ℕ → ℕ
ended_status Done done = done
ended_status StartRefuted done = START_UNFIT
ended_status StartUndecided done = START_OPEN

-- The status that `run` returns for the auction of this record.
abbrev pub own_status : Record → ℕ
own_status rec = ended_status rec.ending (done_status (undecided_of rec.steps))

-- The status of a batch: 11 if an auction ended at its start. Otherwise 1 if a test is undecided, and 0 if none is.
abbrev pub batch_status : List Record → ℕ
batch_status recs =
    if list_any (λ (rec : Record). ends_at_start rec.ending) recs then SOME_UNSTARTED
    else if list_any (λ (rec : Record). own_status rec == LEFT_OPEN) recs then LEFT_OPEN else DONE

-- ---- The texts

-- The text of the result if the auction was completed, else none.
abbrev pub ended_text : Ending → List ℕ → Option (List ℕ)
ended_text Done text = Some text
ended_text StartRefuted text = None
ended_text StartUndecided text = None

-- The text of the result of this record's auction in the order of a run, if the auction was completed.
abbrev pub own_text : Inputs → Record → Option (List ℕ)
own_text inputs rec = ended_text rec.ending (result_of run_order inputs (undecided_of rec.steps))

-- The text of each auction's result, in order, or none for an auction that ended at its start.
abbrev pub own_texts : List Inputs → List Record → List (Option (List ℕ))
own_texts [] recs = []
own_texts (i ∷ is) [] = []
own_texts (i ∷ is) (rec ∷ recs) = own_text i rec ∷ own_texts is recs

-- The text under this name followed by the rest, or the rest alone if there is no text.
abbrev pub with_text : List ℕ → Option (List ℕ) → List NamedText → List NamedText
with_text name None rest = rest
with_text name (Some text) rest = named name text ∷ rest

-- Each text under its line's result name, in order. A line without a text is left out.
abbrev pub texts_under : List ListedNames → List (Option (List ℕ)) → List NamedText
texts_under [] texts = []
texts_under (line ∷ lines) [] = []
texts_under (line ∷ lines) (text ∷ texts) = with_text line.result text (texts_under lines texts)

-- What a batch stores: the result of each completed auction, under its line's result name.
abbrev pub batch_texts : HeldBatch → List Record → List NamedText
batch_texts held recs = texts_under held.lines (own_texts held.inputs recs)

-- What a batch prints: for each line its scenario's name and the status of its auction.
abbrev pub status_lines : List ListedNames → List Record → List ℕ
status_lines [] recs = []
status_lines (line ∷ lines) [] = []
status_lines (line ∷ lines) (rec ∷ recs) = count_line line.scenario (own_status rec) ++ status_lines lines recs
