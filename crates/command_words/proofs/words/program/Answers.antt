-- The three commands are added in turn.
use Rattle.clap.specs.Words.{app_of}
use Rattle.command_words.specs.Words.{app_with_batch, export_app, import_app, make_app}
use Rattle.command_words.proofs.ProgramLemmas.{added, added-last}
use Rattle.command_words.proofs.words.program.Goals as goal

pub returns : goal.returns
returns c =
    let making = added c.make_command.result (app_of c.in_ok-with_batch_command.field-0) (app_of c.in_ok-making.making) app_with_batch make_app
    c.make_command.ensures.app c.in_ok-making.ensures.app c.in_ok-with_batch_command.ensures.app in
    let exporting = added c.export_command.result (app_of c.in_ok-making.making) (app_of c.in_ok-exporting.exporting) _ export_app
    c.export_command.ensures.app c.in_ok-exporting.ensures.app making in
    added-last c.import_command.result c.with_command-3.result (app_of c.in_ok-exporting.exporting) _ import_app
    c.import_command.ensures.app c.with_command-3.ensures.app exporting
