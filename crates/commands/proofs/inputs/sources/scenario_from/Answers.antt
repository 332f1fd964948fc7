-- The load of the scenario is the last call.
use Rattle.outside_io.specs.declared.diary.CallEnd.TheVariants.{Done}
use Rattle.commands.specs.Calls.{loaded_as}
use Rattle.commands.proofs.CallLemmas.{whole-part}
use Rattle.commands.proofs.inputs.sources.scenario_from.Goals as goal

pub returns-in-Err-NoMemory-clause-called : goal.returns-in-Err-NoMemory-clause-called
returns-in-Err-NoMemory-clause-called g c = whole-part (loaded_as Done c.args.name.now) _ _ c.in_ok-bytes.ensures.called

pub returns-clause-called : goal.returns-clause-called
returns-clause-called g c = whole-part (loaded_as Done c.args.name.now) _ _ c.in_ok-bytes.ensures.called
