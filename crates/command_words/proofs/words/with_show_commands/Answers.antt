-- The two commands are added in turn.
use Rattle.clap.specs.Words.{app_of}
use Rattle.command_words.specs.Words.{app_with_live_reading, show_app, show_live_app}
use Rattle.command_words.proofs.ProgramLemmas.{added, added-last}
use Rattle.command_words.proofs.words.with_show_commands.Goals as goal

pub returns-clause-app : goal.returns-clause-app
returns-clause-app c =
    let shown = added c.show_command.result (app_of c.in_ok-with_live_reading_commands.field-0) (app_of c.in_ok-shown.shown) app_with_live_reading show_app
    c.show_command.ensures.app c.in_ok-shown.ensures.app c.in_ok-with_live_reading_commands.ensures.app in
    added-last c.show_live_command.result c.with_command-2.result (app_of c.in_ok-shown.shown) _ show_live_app
    c.show_live_command.ensures.app c.with_command-2.ensures.app shown
