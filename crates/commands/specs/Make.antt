-- The auction of generated files: what they hold, their texts with their names, and what its run returns.
use Rattle.std.specs.Prelude.{◌≡◌, ℕ, List, [], ◌∷◌, Result, Ok}
use Rattle.constraint_files.specs.Domains.{domains_of}
use Rattle.constraint_files.specs.PairTable.{pairs_of}
use Rattle.pack_defs.specs.Prices.{start_set}
use Rattle.scenario_json.specs.Join.{joined}
use Rattle.scenario_json.specs.ScenarioOf.{scenario_of}
use Rattle.scenario_make.specs.GeneratedFiles.{generated_domains, generated_rows, generated_scenario_text}
use Rattle.auction_core.specs.declared.record.Record.{Record}
use Rattle.auction_core.specs.Backed.{undecided_of}
use Rattle.commands.specs.declared.inputs.Inputs.{Inputs}
use Rattle.commands.specs.declared.inputs.input_file.Stop.{Stop}
use Rattle.command_words.specs.declared.run_words.Input.TheVariants.{Domains, Rows}
use Rattle.commands.specs.Delivery.{NamedText, named}
use Rattle.commands.specs.Inputs.{and_then, inputs_from, rows_read, scenario_read}
use Rattle.commands.specs.Records.{IsRecordOf, summary_of}
use Rattle.command_words.specs.Words.{InputNames, MakeNames}

-- The inputs that three files with these bytes hold, or the first error: of the domains, the rows, the scenario or the book.
unfoldable pub inputs_in : List ℕ → List ℕ → List ℕ → Result Inputs Stop
inputs_in domain_file row_file scenario_file =
    and_then (rows_read Domains (domains_of domain_file)) (λ domains.
    and_then (rows_read Rows (pairs_of row_file domains)) (λ pairs.
    and_then (scenario_read (scenario_of scenario_file)) (λ sc.
    inputs_from sc pairs (joined sc domains pairs.list))))

-- The inputs that the generated files of a seed and a size hold, or the first error.
abbrev pub make_inputs : ℕ → ℕ → Result Inputs Stop
make_inputs seed size = inputs_in (generated_domains size) (generated_rows seed size) (generated_scenario_text seed size)

-- Three texts under these names, in the order in which they are stored: domains, rows, scenario.
abbrev pub input_texts_under : InputNames → List ℕ → List ℕ → List ℕ → List NamedText
input_texts_under names domain_file row_file scenario_file =
    named names.domains domain_file ∷ named names.rows row_file ∷ named names.scenario scenario_file ∷ []

-- What `make` stores: the generated files of its seed and its size.
abbrev pub make_texts : MakeNames → List NamedText
make_texts names =
    input_texts_under names.outputs (generated_domains names.size) (generated_rows names.seed names.size) (generated_scenario_text names.seed names.size)

-- The record is of the completed auction of what was read, in which nobody starts on air. The summary is that record's.
pub record HasRun (read : Result Inputs Stop) (rec : Record) (summary : List ℕ) : Type 0 where
  pub inputs : Inputs
  pub accepted : read ≡ Ok inputs
  pub nobody : start_set inputs.scenario ≡ []
  pub auction : IsRecordOf inputs rec
  pub summary_is : summary ≡ summary_of inputs (undecided_of rec.steps)
