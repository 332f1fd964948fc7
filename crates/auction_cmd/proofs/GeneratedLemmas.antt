-- For `make`: the scenario of the inputs that three files with given bytes hold.
use Rattle.std.proofs.Common.{◌≡◌, ◌∙◌, ℕ, List, ap, subst}
use Rattle.std.specs.Prelude.{IfOk, Ok, None}
use Rattle.constraint_files.specs.Domains.{domains_of}
use Rattle.constraint_files.specs.PairTable.{pairs_of}
use Rattle.pack_defs.specs.Scenario.{IsWithinLimits, StationsAscend}
use Rattle.pack_defs.specs.declared.scenario.Scenario.{Scenario}
use Rattle.scenario_json.specs.Join.{joined}
use Rattle.scenario_json.specs.ScenarioOf.{scenario_of}
use Rattle.scenario_json.proofs.Limits.{read-limits, read-values}
use Rattle.commands.specs.declared.inputs.Inputs.{Inputs}
use Rattle.command_words.specs.declared.run_words.Input.TheVariants.{Domains, Rows}
use Rattle.commands.specs.Inputs.{rows_read, scenario_read}
use Rattle.commands.specs.Make.{inputs_in}
use Rattle.commands.proofs.ReadingLemmas.{from-ok, read-ok, then-ok}

-- the scenario of the inputs is that of the scenario file
scenario-in : (d r s : List ℕ) (inputs : Inputs) → inputs_in d r s ≡ Ok inputs → scenario_of s ≡ Ok inputs.scenario
unfolding inputs_in
scenario-in d r s inputs is =
    let (domains, domains-read, rest) = then-ok (rows_read Domains (domains_of d)) _ inputs is in
    let (pairs, pairs-read, more) = then-ok (rows_read Rows (pairs_of r domains)) _ inputs rest in
    let (sc, read, joined-ok) = then-ok (scenario_read (scenario_of s)) _ inputs more in
    read-ok (scenario_of s) sc read ∙ ap Ok (from-ok sc pairs (joined sc domains pairs.list) inputs joined-ok)

-- hence its stations ascend, and its values stand for the owners' answers
pub ascend-in : (d r s : List ℕ) (inputs : Inputs) → inputs_in d r s ≡ Ok inputs → StationsAscend inputs.scenario
ascend-in d r s inputs is =
    let limits : IsWithinLimits inputs.scenario = subst (λ o. IfOk o IsWithinLimits) (scenario-in d r s inputs is) (read-limits s) in
    limits.ascend

pub values-in : (d r s : List ℕ) (inputs : Inputs) → inputs_in d r s ≡ Ok inputs → inputs.scenario.owners ≡ None
values-in d r s inputs is =
    subst (λ o. IfOk o (λ (sc : Scenario). sc.owners ≡ None)) (scenario-in d r s inputs is) (read-values s)
