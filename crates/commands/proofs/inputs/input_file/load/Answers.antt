-- The load that failed is the last call.
use Rattle.outside_io.specs.declared.diary.CallKind.TheVariants.{Load}
use Rattle.commands.proofs.CallLemmas.{load-stops}
use Rattle.commands.proofs.inputs.input_file.load.Goals as goal

pub returns-in-Err-clause-called : goal.returns-in-Err-clause-called
returns-in-Err-clause-called g c = rw c.stop_of.ensures (load-stops Load c.args.name.now c.args.input c.in-Err.why _ _ c.in-Err.ensures.called)
