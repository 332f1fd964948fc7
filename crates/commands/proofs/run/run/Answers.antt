-- The auction of the inputs concludes, if they were read and memory sufficed.
use Rattle.std.proofs.Common.{refl}
use Rattle.commands.specs.Records.{run_order}
use Rattle.command_words.specs.Words.{run_names_view}
use Rattle.commands.proofs.EndLemmas.{own-ended}
use Rattle.commands.proofs.RunEndLemmas.{run-concludes}
use Rattle.command_words.specs.Words.{inputs_view}
use Rattle.commands.specs.Calls.{input_calls}
use Rattle.commands.proofs.CallLemmas.{run-goes-on, run-stops}
use Rattle.commands.proofs.run.run.Goals as goal

pub conclude-requires-clause-of : goal.conclude-requires-clause-of
conclude-requires-clause-of g c =
    let rec = c.in-Ok-auction_of.record in
    own-ended run_order c.in-Ok.inputs rec rec.ending c.in-Ok-auction_of.ensures

pub returns-clause-ends : goal.returns-clause-ends
returns-clause-ends g c =
    run-concludes (run_names_view c.args.files.now) _ _ _ _ _ c.in-Ok.inputs c.in-Ok-auction_of.record c.in-Ok.ensures.modelled
    (record { files = c.in-Ok.ensures.files; faults = c.in-Ok.ensures.counted.kept; steady = c.in-Ok.ensures.steady; held = refl; sink_faults = refl; sure = refl })
    c.in-Ok-auction_of.ensures c.conclude.ensures.ends

pub returns-in-Err-clause-called : goal.returns-in-Err-clause-called
returns-in-Err-clause-called g c =
    let names = inputs_view c.args.files.now.inputs in
    rw c.without_record.ensures.status (run-stops names (input_calls names) _ _ _ _ c.in-Err.stop _ _ c.explain.ensures.explains c.without_record.ensures.none c.in-Err.ensures.called)

pub returns-clause-called : goal.returns-clause-called
returns-clause-called g c =
    let names = inputs_view c.args.files.now.inputs in
    run-goes-on (input_calls names) _ _ _ _ _ _ _ c.in-Ok.ensures.called c.conclude.ensures.called
