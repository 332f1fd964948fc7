-- The calls of the three files and then of the owners' file.
use Rattle.std.proofs.Common.{refl}
use Rattle.std.proofs.lemmas.Result.{err_from_is_err_and}
use Rattle.command_words.specs.Words.{inputs_view}
use Rattle.commands.specs.Calls.{owner_calls, source_calls, stopped_by}
use Rattle.commands.proofs.CallLemmas.{all-behind, stops-before}
use Rattle.commands.proofs.inputs.read_inputs.Goals as goal

pub returns-in_err-inputs-clause-called : goal.returns-in_err-inputs-clause-called
returns-in_err-inputs-clause-called g c =
    let names = inputs_view c.args.names.now in
    let p = err_from_is_err_and c.from_residual.result c.from_residual.ensures.1 in
    rw (p.1, p.2)
    (stops-before names (source_calls names) (owner_calls names.owners) _ _ c.in_err-inputs.field-0.0 c.in_err-inputs.ensures.called)

pub returns-clause-called : goal.returns-clause-called
returns-clause-called g c =
    let names = inputs_view c.args.names.now in
    all-behind names (source_calls names) (owner_calls names.owners) _ _ _ (stopped_by c.with_owners_file.result) c.in_ok-inputs.ensures.called (c.with_owners_file.ensures.called names refl)
