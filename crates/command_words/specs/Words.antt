-- The command that a command line asks for, by the definition that `clap` gives of a simple command.
use Rattle.std.specs.Prelude.{ℕ, Bool, true, List, [], ◌∷◌, ◌++◌, Option, Some, None, codes, count_by, find, if◌then◌else◌, nat_lt, option_and_then, option_map, ⊤}
use Rattle.std.specs.Option.{option_map_or}
use Rattle.std.specs.Str.{bytes_eq}
use Rattle.std.specs.Str.Parse.{digits_value, without_leading_plus}
use Rattle.clap.specs.Words.{App, Row, Rule, Text, fault_of, first_of, new_app, new_rule, subcommand_of, with_rule, with_subcommand}
use Rattle.clap.specs.Simple.{on_top}
use Rattle.clap.specs.Walk.{is_empty}
use Rattle.clap.specs.ValueTests.{is_unsigned_in}
use Rattle.clap.specs.declared.builder.value_parser.ValueParser.TheVariants.{Unsigned}
use Rattle.command_words.specs.declared.batch_words.BatchArgs.{BatchArgs}
use Rattle.command_words.specs.declared.make_words.MakeArgs.{MakeArgs}
use Rattle.command_words.specs.declared.proof_words.ExportArgs.{ExportArgs}
use Rattle.command_words.specs.declared.proof_words.ImportArgs.{ImportArgs}
use Rattle.command_words.specs.declared.resume_words.ResumeArgs.{ResumeArgs}
use Rattle.command_words.specs.declared.seek_words.SeekArgs.{SeekArgs}
use Rattle.command_words.specs.declared.show_words.ShowArgs.{ShowArgs}
use Rattle.command_words.specs.declared.run_words.Input.{Input}
use Rattle.command_words.specs.declared.run_words.Input.TheVariants.{Domains, Rows, Scenario as ScenarioFile, Owners as OwnersFile, List as ListFile}
use Rattle.command_words.specs.declared.run_words.InputArgs.{InputArgs}
use Rattle.command_words.specs.declared.run_words.RunArgs.{RunArgs}
use Rattle.command_words.specs.declared.run_words.VerifyArgs.{VerifyArgs}
use Rattle.command_words.specs.declared.words.CommandArgs.{CommandArgs}
use Rattle.command_words.specs.declared.words.CommandArgs.TheVariants.{Run, Check, Verify, Show, Resume, Seek, Batch, Make, Export, Import}
use Rattle.command_words.specs.declared.words.WordsFault.{WordsFault}
use Rattle.command_words.specs.declared.words.WordsFault.TheVariants.{NoMemory, Refused}

-- The names of the input files; a live auction has an owners' file.
pub record InputNames : Type 0 where
  pub domains : List ℕ
  pub rows : List ℕ
  pub scenario : List ℕ
  pub owners : Option (List ℕ)

-- The names of the files of `run` or, with an owners' file, of `live`.
pub record RunNames : Type 0 where
  pub inputs : InputNames
  pub result : List ℕ
  pub channels : List ℕ
  pub transcript : List ℕ

-- The names of the files of `verify` or, with an owners' file, of `verify-live`.
pub record VerifyNames : Type 0 where
  pub inputs : InputNames
  pub transcript : List ℕ

-- The names of the files of `show` or, with an owners' file, of `show-live`: those of the auction, and of the result and the channels
-- that it stores.
pub record ShowNames : Type 0 where
  pub shown : VerifyNames
  pub result : List ℕ
  pub channels : List ℕ

-- The names of the files of `resume`: those of a run, and the beginning of a transcript from which the auction continues.
pub record ResumeNames : Type 0 where
  pub run_files : RunNames
  pub prefix : List ℕ

-- The names of the files of `seek`.
pub record SeekNames : Type 0 where
  pub domains : List ℕ
  pub rows : List ℕ
  pub scenario : List ℕ
  pub channels : List ℕ

-- The names of the files of `batch`: the constraint files, and the list of its scenarios and their results.
pub record BatchNames : Type 0 where
  pub domains : List ℕ
  pub rows : List ℕ
  pub list : List ℕ

-- The name of an input file. Without an owners' file, the scenario's name stands in for it. For a batch, the list's name is stored
-- as that of the scenario until its scenarios are read.
abbrev pub name_of : InputNames → Input → List ℕ
name_of names Domains = names.domains
name_of names Rows = names.rows
name_of names ScenarioFile = names.scenario
name_of names OwnersFile = option_map_or (λ name. name) names.owners names.scenario
name_of names ListFile = names.scenario

-- The input files of one auction of the batch: its constraint files, and this scenario.
abbrev pub inputs_with : BatchNames → List ℕ → InputNames
inputs_with names scenario = record { domains = names.domains; rows = names.rows; scenario = scenario; owners = None }

-- The seed and the size of `make`, and the names of the files that it stores.
pub record MakeNames : Type 0 where
  pub seed : ℕ
  pub size : ℕ
  pub outputs : InputNames

-- The arguments of `export`: the names of the auction's files, the step, and the name of the formula file that it stores.
pub record ExportNames : Type 0 where
  pub shown : VerifyNames
  pub step : ℕ
  pub formula : List ℕ

-- The arguments of `import`: the names of the auction's files, the step, the name of the proof file that it reads, and the names of
-- the result and transcript that it stores.
pub record ImportNames : Type 0 where
  pub shown : VerifyNames
  pub step : ℕ
  pub proof : List ℕ
  pub result : List ℕ
  pub transcript : List ℕ

-- A command with its arguments.
pub data Command : Type 0 where
  run : RunNames → Command
  check : InputNames → Command
  verify : VerifyNames → Command
  show : ShowNames → Command
  resume : ResumeNames → Command
  seek : SeekNames → Command
  batch : BatchNames → Command
  make : MakeNames → Command
  export : ExportNames → Command
  import : ImportNames → Command

-- ---- the commands that `clap` parses

-- A required positional argument.
abbrev pub required_rule : Text → Rule
required_rule id = record (new_rule id) { required = true }

-- The command with these required arguments after its own.
abbrev pub with_required : App → List Text → App
with_required app [] = app
with_required app (id ∷ rest) = with_required (with_rule app (required_rule id)) rest

-- The arguments that name the constraint files.
abbrev pub constraint_ids : List Text
constraint_ids = codes "DOMAINS" ∷ codes "ROWS" ∷ []

-- The arguments that name the input files.
abbrev pub input_ids : List Text
input_ids = constraint_ids ++ codes "SCENARIO" ∷ []

-- The command `check`.
abbrev pub check_app : App
check_app = with_required (new_app (codes "check")) input_ids

-- The arguments that name the output files.
abbrev pub output_ids : List Text
output_ids = codes "RESULT" ∷ codes "CHANNELS" ∷ codes "TRANSCRIPT" ∷ []

-- The command `run`.
abbrev pub run_app : App
run_app = with_required (new_app (codes "run")) (input_ids ++ output_ids)

-- The arguments that name the input files of a live auction.
abbrev pub live_ids : List Text
live_ids = input_ids ++ codes "OWNERS" ∷ []

-- The command `live`.
abbrev pub live_app : App
live_app = with_required (new_app (codes "live")) (live_ids ++ output_ids)

-- The arguments that name the files of an auction that was carried out.
abbrev pub shown_ids : List Text
shown_ids = input_ids ++ codes "TRANSCRIPT" ∷ []

-- The command `verify`.
abbrev pub verify_app : App
verify_app = with_required (new_app (codes "verify")) shown_ids

-- The arguments that name the files of a live auction that was carried out.
abbrev pub shown_live_ids : List Text
shown_live_ids = live_ids ++ codes "TRANSCRIPT" ∷ []

-- The command `verify-live`.
abbrev pub verify_live_app : App
verify_live_app = with_required (new_app (codes "verify-live")) shown_live_ids

-- The command `show`.
abbrev pub show_app : App
show_app = with_required (new_app (codes "show")) (shown_ids ++ codes "RESULT" ∷ codes "CHANNELS" ∷ [])

-- The command `show-live`.
abbrev pub show_live_app : App
show_live_app = with_required (new_app (codes "show-live")) (shown_live_ids ++ codes "RESULT" ∷ codes "CHANNELS" ∷ [])

-- The command `resume`.
abbrev pub resume_app : App
resume_app = with_required (new_app (codes "resume")) (input_ids ++ codes "PREFIX" ∷ output_ids)

-- The command `seek`.
abbrev pub seek_app : App
seek_app = with_required (new_app (codes "seek")) (input_ids ++ codes "CHANNELS" ∷ [])

-- The command `batch`.
abbrev pub batch_app : App
batch_app = with_required (new_app (codes "batch")) (constraint_ids ++ codes "LIST" ∷ [])

-- The greatest seed.
abbrev pub seed_limit : ℕ
seed_limit = 18446744073709551615

-- The most stations of a generated auction.
abbrev pub size_limit : ℕ
size_limit = 4096

-- The greatest number of a step.
abbrev pub step_limit : ℕ
step_limit = 4294967295

-- A required argument that is a number from `least` to `most`.
abbrev pub number_rule : Text → ℕ → ℕ → Rule
number_rule id least most = record (required_rule id) { parser = Some (Unsigned least most) }

-- The command `make` with its two numbers only.
abbrev pub numbers_app : App
numbers_app = with_rule (with_rule (new_app (codes "make")) (number_rule (codes "SEED") 0 seed_limit)) (number_rule (codes "SIZE") 1 size_limit)

-- The command `make`.
abbrev pub make_app : App
make_app = with_required numbers_app input_ids

-- The command of this name that takes the files of an auction and the number of one of its steps.
abbrev pub step_app : Text → App
step_app name = with_rule (with_required (new_app name) shown_ids) (number_rule (codes "STEP") 1 step_limit)

-- The command `export`.
abbrev pub export_app : App
export_app = with_required (step_app (codes "export")) (codes "CNF" ∷ [])

-- The command `import`.
abbrev pub import_app : App
import_app = with_required (step_app (codes "import")) (codes "LRAT" ∷ codes "RESULT" ∷ codes "NEWTRANSCRIPT" ∷ [])

-- The program without its commands: it has a version, and a command is required.
abbrev pub app_without_commands : App
app_without_commands = on_top (λ s. record s { has_version = true; subcommand_required = true }) (new_app (codes "repack"))

-- The program with the commands that read an auction's files and take no step.
abbrev pub app_with_reading : App
app_with_reading = with_subcommand (with_subcommand (with_subcommand app_without_commands run_app.top) check_app.top) verify_app.top

-- The same with the commands of a live auction.
abbrev pub app_with_live_reading : App
app_with_live_reading = with_subcommand (with_subcommand app_with_reading live_app.top) verify_live_app.top

-- The same with the commands that store what a transcript shows.
abbrev pub app_with_show : App
app_with_show = with_subcommand (with_subcommand app_with_live_reading show_app.top) show_live_app.top

-- The same with the command that continues an auction.
abbrev pub app_with_resume : App
app_with_resume = with_subcommand app_with_show resume_app.top

-- The same with the command that finds the least top channel.
abbrev pub app_with_seek : App
app_with_seek = with_subcommand app_with_resume seek_app.top

-- The same with the command that runs many auctions.
abbrev pub app_with_batch : App
app_with_batch = with_subcommand app_with_seek batch_app.top

-- The program with all its commands.
abbrev pub program_app : App
program_app = with_subcommand (with_subcommand (with_subcommand app_with_batch make_app.top) export_app.top) import_app.top

-- ---- the command that was parsed

-- The result of `build` on the first value of this argument, if it has one.
abbrev pub given_value : {X : Type 0} → List Row → Text → (Text → Option X) → Option X
given_value rows id build = option_and_then build (first_of id rows)

-- The names of the input files, if all are given; without an owners' file.
abbrev pub input_names : List Row → Option InputNames
input_names rows =
    given_value rows (codes "DOMAINS") (λ domains.
    given_value rows (codes "ROWS") (λ pairs.
    given_value rows (codes "SCENARIO") (λ scenario.
    Some (record { domains = domains; rows = pairs; scenario = scenario; owners = None }))))

-- The names of the input files of a live auction, if all are given.
abbrev pub live_names : List Row → Option InputNames
live_names rows =
    option_and_then (λ inputs.
    given_value rows (codes "OWNERS") (λ owners. Some (record inputs { owners = Some owners })))
    (input_names rows)

-- The names of these input files and of the files that a run stores, if all are given.
abbrev pub run_names : List Row → InputNames → Option RunNames
run_names rows inputs =
    given_value rows (codes "RESULT") (λ result.
    given_value rows (codes "CHANNELS") (λ channels.
    given_value rows (codes "TRANSCRIPT") (λ transcript.
    Some (record { inputs = inputs; result = result; channels = channels; transcript = transcript }))))

-- The names of these input files and of a transcript, if it is given.
abbrev pub shown_by_names : List Row → InputNames → Option VerifyNames
shown_by_names rows inputs = given_value rows (codes "TRANSCRIPT") (λ transcript. Some (record { inputs = inputs; transcript = transcript }))

-- The names of the files of `verify`, if all are given.
abbrev pub verify_names : List Row → Option VerifyNames
verify_names rows = option_and_then (shown_by_names rows) (input_names rows)

-- The names of the files of `verify-live`, if all are given.
abbrev pub verify_live_names : List Row → Option VerifyNames
verify_live_names rows = option_and_then (shown_by_names rows) (live_names rows)

-- The names of these files of an auction and of the result and the channels, if all are given.
abbrev pub show_names : List Row → VerifyNames → Option ShowNames
show_names rows shown =
    given_value rows (codes "RESULT") (λ result.
    given_value rows (codes "CHANNELS") (λ channels.
    Some (record { shown = shown; result = result; channels = channels })))

-- The names of the files of `resume`, if all are given.
abbrev pub resume_names : List Row → Option ResumeNames
resume_names rows =
    option_and_then (λ run_files.
    given_value rows (codes "PREFIX") (λ prefix. Some (record { run_files = run_files; prefix = prefix })))
    (option_and_then (run_names rows) (input_names rows))

-- The names of the files of `seek`, if all are given.
abbrev pub seek_names : List Row → Option SeekNames
seek_names rows =
    option_and_then (λ (inputs : InputNames).
    given_value rows (codes "CHANNELS") (λ channels.
    Some (record { domains = inputs.domains; rows = inputs.rows; scenario = inputs.scenario; channels = channels })))
    (input_names rows)

-- The names of the files of `batch`, if all are given.
abbrev pub batch_names : List Row → Option BatchNames
batch_names rows =
    given_value rows (codes "DOMAINS") (λ domains.
    given_value rows (codes "ROWS") (λ pairs.
    given_value rows (codes "LIST") (λ list.
    Some (record { domains = domains; rows = pairs; list = list }))))

-- The number that the text is, if it is from `least` to `most`: decimal digits, after an optional plus sign.
abbrev pub number_within : ℕ → ℕ → Text → Option ℕ
number_within least most text =
    if is_unsigned_in least most text then Some (digits_value 10 (without_leading_plus text)) else None

-- The seed and the size of `make` and the names of its files, if all are given and the numbers are within bounds.
abbrev pub make_names : List Row → Option MakeNames
make_names rows =
    option_and_then (λ seed.
    option_and_then (λ size.
    option_and_then (λ outputs. Some (record { seed = seed; size = size; outputs = outputs }))
    (input_names rows))
    (given_value rows (codes "SIZE") (number_within 1 size_limit)))
    (given_value rows (codes "SEED") (number_within 0 seed_limit))

-- The step of `export` and `import`, if it is given and within bounds.
abbrev pub step_named : List Row → Option ℕ
step_named rows = given_value rows (codes "STEP") (number_within 1 step_limit)

-- The names of the files of `export` and its step, if all are given.
abbrev pub export_names : List Row → Option ExportNames
export_names rows =
    option_and_then (λ shown.
    option_and_then (λ step.
    given_value rows (codes "CNF") (λ formula. Some (record { shown = shown; step = step; formula = formula })))
    (step_named rows))
    (verify_names rows)

-- The names of the files of `import` and its step, if all are given.
abbrev pub import_names : List Row → Option ImportNames
import_names rows =
    option_and_then (λ shown.
    option_and_then (λ step.
    given_value rows (codes "LRAT") (λ proof.
    given_value rows (codes "RESULT") (λ result.
    given_value rows (codes "NEWTRANSCRIPT") (λ transcript.
    Some (record { shown = shown; step = step; proof = proof; result = result; transcript = transcript })))))
    (step_named rows))
    (verify_names rows)

-- The command of this name, if all its arguments are given.
abbrev pub named_command : Text × List Row → Option Command
named_command found =
    if bytes_eq found.0 (codes "run") then option_map run (option_and_then (run_names found.1) (input_names found.1))
    else (if bytes_eq found.0 (codes "check") then option_map check (input_names found.1)
    else (if bytes_eq found.0 (codes "verify") then option_map verify (verify_names found.1)
    else (if bytes_eq found.0 (codes "live") then option_map run (option_and_then (run_names found.1) (live_names found.1))
    else (if bytes_eq found.0 (codes "verify-live") then option_map verify (verify_live_names found.1)
    else (if bytes_eq found.0 (codes "show") then option_map show (option_and_then (show_names found.1) (verify_names found.1))
    else (if bytes_eq found.0 (codes "show-live") then option_map show (option_and_then (show_names found.1) (verify_live_names found.1))
    else (if bytes_eq found.0 (codes "resume") then option_map resume (resume_names found.1)
    else (if bytes_eq found.0 (codes "seek") then option_map seek (seek_names found.1)
    else (if bytes_eq found.0 (codes "batch") then option_map batch (batch_names found.1)
    else (if bytes_eq found.0 (codes "make") then option_map make (make_names found.1)
    else (if bytes_eq found.0 (codes "export") then option_map export (export_names found.1)
    else (if bytes_eq found.0 (codes "import") then option_map import (import_names found.1) else None))))))))))))

-- The command that the words are, the first of which is the program's name. `None` if `clap` reports a fault, or if an argument has
-- no value.
unfoldable pub command_of : List (List ℕ) → Option Command
command_of words =
    if is_empty (fault_of program_app words) then option_and_then named_command (subcommand_of program_app words) else None

-- ---- names given twice

-- The names of the files that a run stores, in the order of the arguments.
abbrev pub output_names : RunNames → List (List ℕ)
output_names names = names.result ∷ names.channels ∷ names.transcript ∷ []

-- The names of the files that `make` stores, in the order of its arguments.
abbrev pub make_output_names : MakeNames → List (List ℕ)
make_output_names names = names.outputs.domains ∷ names.outputs.rows ∷ names.outputs.scenario ∷ []

-- The names of the input files. Without an owners' file, the scenario's name stands in for it.
abbrev pub names_read : InputNames → List (List ℕ)
names_read names = names.domains ∷ names.rows ∷ names.scenario ∷ name_of names OwnersFile ∷ []

-- The names of files to store in the words of the command, in the order of its arguments. Those that `batch` stores are in its list.
abbrev pub stored_by : Command → List (List ℕ)
stored_by (run names) = output_names names
stored_by (check names) = []
stored_by (verify names) = []
stored_by (show names) = names.result ∷ names.channels ∷ []
stored_by (resume names) = output_names names.run_files
stored_by (seek names) = names.channels ∷ []
stored_by (batch names) = []
stored_by (make names) = make_output_names names
stored_by (export names) = names.formula ∷ []
stored_by (import names) = names.result ∷ names.transcript ∷ []

-- The names of the files that the command reads, if its words name a file to store; else none.
abbrev pub read_beside : Command → List (List ℕ)
read_beside (run names) = names_read names.inputs
read_beside (check names) = []
read_beside (verify names) = []
read_beside (show names) = names.shown.transcript ∷ names_read names.shown.inputs
read_beside (resume names) = names.prefix ∷ names_read names.run_files.inputs
read_beside (seek names) = names.domains ∷ names.rows ∷ names.scenario ∷ []
read_beside (batch names) = []
read_beside (make names) = []
read_beside (export names) = names.shown.transcript ∷ names_read names.shown.inputs
read_beside (import names) = names.proof ∷ names.shown.transcript ∷ names_read names.shown.inputs

-- Whether the name is more than once among these.
abbrev pub is_repeated_among : List (List ℕ) → List ℕ → Bool
is_repeated_among given name = nat_lt 1 (count_by (bytes_eq name) given)

-- The first of these names to store that is given again, to store or to read.
unfoldable pub first_repeated : List (List ℕ) → List (List ℕ) → Option (List ℕ)
first_repeated stored read = find (is_repeated_among (stored ++ read)) stored

-- The first name of a file that the command stores and that is given again. Names are compared byte by byte, so `a` and `./a`
-- differ. Two names of files to read may be equal.
abbrev pub repeated_by : Command → Option (List ℕ)
repeated_by command = first_repeated (stored_by command) (read_beside command)

-- The names of the files that `resume` reads, as those of an auction that was carried out; the beginning of a transcript takes the
-- transcript's place.
abbrev pub resume_input_names : ResumeNames → VerifyNames
resume_input_names names = record { inputs = names.run_files.inputs; transcript = names.prefix }

-- The input files of `seek`; there is no owners' file among them.
abbrev pub seek_inputs : SeekNames → InputNames
seek_inputs names = record { domains = names.domains; rows = names.rows; scenario = names.scenario; owners = None }

-- ---- the code's values, as these definitions see them

-- The names of the input files in the code's value.
abbrev pub inputs_view : InputArgs → InputNames
inputs_view args = record {
  domains = args.domains.now;
  rows = args.rows.now;
  scenario = args.scenario.now;
  owners = option_map (λ name. name.now) args.owners;
}

-- The names of the files of `run` or `live` in the code's value.
abbrev pub run_names_view : RunArgs → RunNames
run_names_view args = record {
  inputs = inputs_view args.inputs;
  result = args.result.now;
  channels = args.channels.now;
  transcript = args.transcript.now;
}

-- The names of the files of `verify` or `verify-live` in the code's value.
abbrev pub verify_view : VerifyArgs → VerifyNames
verify_view args = record { inputs = inputs_view args.inputs; transcript = args.transcript.now }

-- The names of the files of `show` or `show-live` in the code's value.
abbrev pub show_view : ShowArgs → ShowNames
show_view args = record { shown = verify_view args.shown; result = args.result.now; channels = args.channels.now }

-- The names of the files of `resume` in the code's value.
abbrev pub resume_view : ResumeArgs → ResumeNames
resume_view args = record { run_files = run_names_view args.run_files; prefix = args.prefix.now }

-- The arguments of `make` in the code's value.
abbrev pub make_view : MakeArgs → MakeNames
make_view args = record { seed = args.seed; size = args.size; outputs = inputs_view args.outputs }

-- The arguments of `export` in the code's value.
abbrev pub export_view : ExportArgs → ExportNames
export_view args = record { shown = verify_view args.shown; step = args.step; formula = args.formula.now }

-- The arguments of `import` in the code's value.
abbrev pub import_view : ImportArgs → ImportNames
import_view args = record {
  shown = verify_view args.shown;
  step = args.step;
  proof = args.proof.now;
  result = args.result.now;
  transcript = args.transcript.now;
}

-- The names of the files of `seek` in the code's value.
abbrev pub seek_view : SeekArgs → SeekNames
seek_view args = record {
  domains = args.domains.now;
  rows = args.rows.now;
  scenario = args.scenario.now;
  channels = args.channels.now;
}

-- The names of the files of `batch` in the code's value.
abbrev pub batch_view : BatchArgs → BatchNames
batch_view args = record { domains = args.domains.now; rows = args.rows.now; list = args.list.now }

-- The command in the code's value.
abbrev pub command_view : CommandArgs → Command
command_view (Run args) = run (run_names_view args)
command_view (Check args) = check (inputs_view args)
command_view (Verify args) = verify (verify_view args)
command_view (Show args) = show (show_view args)
command_view (Resume args) = resume (resume_view args)
command_view (Seek args) = seek (seek_view args)
command_view (Batch args) = batch (batch_view args)
command_view (Make args) = make (make_view args)
command_view (Export args) = export (export_view args)
command_view (Import args) = import (import_view args)

-- Whether the fault is that the words are rejected, not that memory ran out.
abbrev pub IsRefused : WordsFault → Type 0
IsRefused (Refused text) = ⊤
IsRefused NoMemory = ⊥
