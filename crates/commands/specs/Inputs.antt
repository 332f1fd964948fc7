-- The inputs that a folder's files hold.
use Rattle.std.specs.Prelude.{◌≡◌, ◌≤◌, ℕ, Bool, true, nat_lt, if◌then◌else◌, List, length, Option, Some, None, Result, Ok, Err, ⊤}
use Rattle.outside_io.specs.Faults.{HasRisen}
use Rattle.outside_io.specs.Files.{StoredFile, bytes_of}
use Rattle.outside_io.specs.declared.folder.LoadErr.{LoadErr}
use Rattle.outside_io.specs.declared.folder.LoadErr.TheVariants.{Failed, TooLong as LongFile, NoMemory as NoLoad}
use Rattle.constraint_files.specs.Domains.{domains_of}
use Rattle.constraint_files.specs.PairTable.{PairsView, pairs_of}
use Rattle.constraint_files.specs.declared.error.ReadErr.{ReadErr}
use Rattle.constraint_files.specs.declared.error.ReadErr.TheVariants.{Row as RefusedRow, NoMemory as NoRoom}
use Rattle.pack_defs.specs.declared.owners.OwnerLine.{OwnerLine}
use Rattle.pack_defs.specs.declared.scenario.Scenario.{Scenario}
use Rattle.pack_defs.specs.Book.{BookView}
use Rattle.pack_defs.specs.Prices.{falls}
use Rattle.pack_defs.specs.Scenario.{facilities, with_owners}
use Rattle.owner_line.specs.OwnersOf.{owners_of}
use Rattle.owner_line.specs.declared.error.OwnerErr.{OwnerErr}
use Rattle.owner_line.specs.declared.error.OwnerErr.TheVariants.{Row as RefusedLine, NoMemory as NoList}
use Rattle.scenario_json.specs.declared.error.ScenarioErr.{ScenarioErr}
use Rattle.scenario_json.specs.declared.join.JoinErr.{JoinErr}
use Rattle.scenario_json.specs.declared.join.JoinErr.TheVariants.{MissingDomain as NoDomain, NoMemory as NoSpace}
use Rattle.scenario_json.specs.Join.{joined}
use Rattle.scenario_json.specs.ScenarioOf.{scenario_of}
use Rattle.command_words.specs.declared.run_words.Input.{Input}
use Rattle.command_words.specs.declared.run_words.Input.TheVariants.{Domains, Rows, Scenario as ScenarioFile, Owners as OwnersFile}
use Rattle.commands.specs.declared.messages.refusal.Refusal.TheVariants.{TooLong, Row, Scenario as BadScenario, MissingDomain, Owners as BadOwners}
use Rattle.commands.specs.declared.inputs.Inputs.{Inputs}
use Rattle.commands.specs.declared.inputs.sources.Sources.{Sources}
use Rattle.commands.specs.declared.inputs.input_file.Stop.{Stop}
use Rattle.commands.specs.declared.inputs.input_file.Stop.TheVariants.{CannotRead, Refused, NoMemory}
use Rattle.command_words.specs.Words.{InputNames}

-- The result of a step passed to the next step, or the first error.
abbrev pub and_then : {A B : Type 0} → Result A Stop → (A → Result B Stop) → Result B Stop
and_then (Ok x) f = f x
and_then (Err e) f = Err e

-- The greatest length of an input file, in bytes.
abbrev pub file_limit : ℕ
file_limit = 268435456

-- The greatest length of a transcript, or of the beginning of one, in bytes: 2 to the power of 36.
abbrev pub transcript_limit : ℕ
transcript_limit = 68719476736

-- The bytes of an input file, if the file is there and no longer than the limit.
abbrev pub bytes_within : Input → Option (List ℕ) → Result (List ℕ) Stop
bytes_within input None = Err (CannotRead input)
bytes_within input (Some bytes) =
    if nat_lt file_limit (length bytes) then Err (Refused (TooLong input)) else Ok bytes

-- The bytes of the file of this name, if it is there and no longer than the limit.
abbrev pub file_of : List StoredFile → List ℕ → Input → Result (List ℕ) Stop
file_of files name input = bytes_within input (bytes_of files name)

-- Why reading this input stops, by the folder's load error.
abbrev pub stop_of : LoadErr → Input → Stop
stop_of Failed input = CannotRead input
stop_of LongFile input = Refused (TooLong input)
stop_of NoLoad input = NoMemory

-- Why reading this constraint file stops, by its reader's error.
abbrev pub refused_by : Input → ReadErr → Stop
refused_by input (RefusedRow line why) = Refused (Row input line why)
refused_by input NoRoom = NoMemory

-- What a constraint file holds, or the error that names its rejected record.
abbrev pub rows_read : {A : Type 0} → Input → Result A ReadErr → Result A Stop
rows_read input (Ok x) = Ok x
rows_read input (Err why) = Err (refused_by input why)

-- The scenario that a file holds, or why it is rejected.
abbrev pub scenario_read : Result Scenario ScenarioErr → Result Scenario Stop
scenario_read (Ok sc) = Ok sc
scenario_read (Err why) = Err (Refused (BadScenario why))

-- The inputs made of a scenario, its pairs and its book, or the station that has no domain row.
abbrev pub inputs_from : Scenario → PairsView → Result BookView JoinErr → Result Inputs Stop
inputs_from sc pairs (Ok book) =
    Ok (record { scenario = sc; book = book; self_pairs = pairs.self_pairs; strangers = pairs.strangers })
inputs_from sc pairs (Err (NoDomain s)) = Err (Refused (MissingDomain s))
inputs_from sc pairs (Err NoSpace) = Err NoMemory

-- What the files of these names hold: the domains, the rows and the scenario. Otherwise the first error in this order: a file
-- that is missing, too long or rejected by its reader.
unfoldable pub sources_of : List StoredFile → InputNames → Result Sources Stop
sources_of files names =
    and_then (and_then (file_of files names.domains Domains) (λ bytes. rows_read Domains (domains_of bytes))) (λ domains.
    and_then (and_then (file_of files names.rows Rows) (λ bytes. rows_read Rows (pairs_of bytes domains))) (λ pairs.
    and_then (and_then (file_of files names.scenario ScenarioFile) (λ bytes. scenario_read (scenario_of bytes))) (λ sc.
    Ok (record { domains = domains; pairs = pairs; scenario = sc }))))

-- The inputs made of these sources, or the station that has no domain row.
abbrev pub inputs_by : Sources → Result Inputs Stop
inputs_by s = inputs_from s.scenario s.pairs (joined s.scenario s.domains s.pairs.list)

-- The inputs of the domains, the rows and the scenario of these names, with their book, or the first error. No owners' file is
-- read.
abbrev pub valued_of : List StoredFile → InputNames → Result Inputs Stop
valued_of files names = and_then (sources_of files names) inputs_by

-- The result is the book of these sources, or the rejection of a station without a domain row. Memory may run out at any time.
abbrev pub IsBookOf : Sources → Result BookView Stop → Type 0
IsBookOf s (Ok book) = joined s.scenario s.domains s.pairs.list ≡ Ok book
IsBookOf s (Err (CannotRead i)) = ⊥
IsBookOf s (Err (Refused why)) = inputs_by s ≡ Err (Refused why)
IsBookOf s (Err NoMemory) = ⊤

-- The lines of an owners' file, or the error that names its rejected line.
abbrev pub owners_read : Result (List OwnerLine) OwnerErr → Result (List OwnerLine) Stop
owners_read (Ok lines) = Ok lines
owners_read (Err (RefusedLine line why)) = Err (Refused (BadOwners line why))
owners_read (Err NoList) = Err NoMemory

-- What the owners' file of this name says of the scenario's stations, from the opening price to the last fall, or what stops its
-- reading.
abbrev pub owners_in : List StoredFile → List ℕ → Scenario → Result (List OwnerLine) Stop
owners_in files name sc =
    and_then (file_of files name OwnersFile) (λ bytes. owners_read (owners_of bytes (length (falls sc)) (facilities sc)))

-- The inputs of the live auction in which the owners say these lines. The stations' values have no effect.
abbrev pub live_inputs : Inputs → List OwnerLine → Inputs
live_inputs inputs lines = record inputs { scenario = with_owners inputs.scenario (Some lines) }

-- These inputs, with the lines of the owners' file if one is named, or what stops its reading.
abbrev pub with_owners_file : List StoredFile → Option (List ℕ) → Inputs → Result Inputs Stop
with_owners_file files None inputs = Ok inputs
with_owners_file files (Some name) inputs = and_then (owners_in files name inputs.scenario) (λ lines. Ok (live_inputs inputs lines))

-- The inputs that the files of these names hold, or the first error. The reading order is the domains, the rows, the scenario,
-- the book, and then the owners' file if one is named.
unfoldable pub inputs_of : List StoredFile → InputNames → Result Inputs Stop
inputs_of files names = and_then (valued_of files names) (with_owners_file files names.owners)

-- The call's result, seen through `seen`, is what the files hold. The call may run out of memory, and a folder that isn't steady
-- may fail to read a file that is there.
abbrev pub Agrees : {A B : Type 0} → (A → B) → Bool → Result B Stop → Result A Stop → Type 0
Agrees seen steady held (Ok x) = held ≡ Ok (seen x)
Agrees seen steady held (Err (CannotRead i)) = steady ≡ true → held ≡ Err (CannotRead i)
Agrees seen steady held (Err (Refused why)) = held ≡ Err (Refused why)
Agrees seen steady held (Err NoMemory) = ⊤

-- The fault count rose if a file could not be read, and is unchanged otherwise.
abbrev pub RisesAt : {A : Type 0} → ℕ → ℕ → Result A Stop → Type 0
RisesAt before now (Ok x) = now ≡ before
RisesAt before now (Err (CannotRead i)) = HasRisen before now
RisesAt before now (Err (Refused why)) = now ≡ before
RisesAt before now (Err NoMemory) = now ≡ before

-- The fault count didn't fall. It rose if a file could not be read, and is unchanged otherwise.
pub record CountsFault {A : Type 0} (before now : ℕ) (result : Result A Stop) : Type 0 where
  pub kept : before ≤ now
  pub rises : RisesAt before now result
