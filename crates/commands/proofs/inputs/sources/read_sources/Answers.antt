-- The calls of the three files, in order, up to the one that stops the reading.
use Rattle.std.proofs.Common.{[], ◌∷◌, refl}
use Rattle.std.specs.Prelude.{None, Some}
use Rattle.std.proofs.lemmas.Result.{err_from_is_err_and}
use Rattle.command_words.specs.declared.run_words.Input.TheVariants.{Domains, Rows, Scenario}
use Rattle.command_words.specs.Words.{inputs_view}
use Rattle.outside_io.specs.declared.diary.CallEnd.TheVariants.{Done}
use Rattle.commands.specs.Calls.{begun_as, loaded_as}
use Rattle.commands.proofs.CallLemmas.{all-behind, first-stops}
use Rattle.commands.proofs.inputs.sources.read_sources.Goals as goal

pub returns-in_err-domains-clause-called : goal.returns-in_err-domains-clause-called
returns-in_err-domains-clause-called g c =
    let names = inputs_view c.args.names.now in
    let p = err_from_is_err_and c.from_residual.result c.from_residual.ensures.1 in
    rw (p.1, p.2)
    (first-stops names (begun_as Done names.domains) (begun_as Done names.rows ∷ loaded_as Done names.scenario ∷ []) Domains c.in_err-domains.field-0.0 _ _ refl c.in_err-domains.ensures.called)

pub returns-in_err-pairs-clause-called : goal.returns-in_err-pairs-clause-called
returns-in_err-pairs-clause-called g c =
    let names = inputs_view c.args.names.now in
    let why = c.in_err-pairs.field-0.0 in
    let p = err_from_is_err_and c.from_residual-in_err-pairs.result c.from_residual-in_err-pairs.ensures.1 in
    rw (p.1, p.2)
    (all-behind names (begun_as Done names.domains ∷ []) (begun_as Done names.rows ∷ loaded_as Done names.scenario ∷ []) _ _ _ (Some why) c.in_ok-domains.ensures.called
    (first-stops names (begun_as Done names.rows) (loaded_as Done names.scenario ∷ []) Rows why _ _ refl c.in_err-pairs.ensures.called))

pub returns-in_err-scenario-clause-called : goal.returns-in_err-scenario-clause-called
returns-in_err-scenario-clause-called g c =
    let names = inputs_view c.args.names.now in
    let why = c.in_err-scenario.field-0.0 in
    let p = err_from_is_err_and c.from_residual-in_err-scenario.result c.from_residual-in_err-scenario.ensures.1 in
    rw (p.1, p.2)
    (all-behind names (begun_as Done names.domains ∷ []) (begun_as Done names.rows ∷ loaded_as Done names.scenario ∷ []) _ _ _ (Some why) c.in_ok-domains.ensures.called
    (all-behind names (begun_as Done names.rows ∷ []) (loaded_as Done names.scenario ∷ []) _ _ _ (Some why) c.in_ok-pairs.ensures.called
    (first-stops names (loaded_as Done names.scenario) [] Scenario why _ _ refl c.in_err-scenario.ensures.called)))

pub returns-clause-called : goal.returns-clause-called
returns-clause-called g c =
    let names = inputs_view c.args.names.now in
    all-behind names (begun_as Done names.domains ∷ []) (begun_as Done names.rows ∷ loaded_as Done names.scenario ∷ []) _ _ _ None c.in_ok-domains.ensures.called
    (all-behind names (begun_as Done names.rows ∷ []) (loaded_as Done names.scenario ∷ []) _ _ _ None c.in_ok-pairs.ensures.called c.in_ok-scenario.ensures.called)
