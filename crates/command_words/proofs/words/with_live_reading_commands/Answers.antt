-- The two commands are added in turn.
use Rattle.clap.specs.Words.{app_of}
use Rattle.command_words.specs.Words.{live_app, app_with_reading, verify_live_app}
use Rattle.command_words.proofs.ProgramLemmas.{added, added-last}
use Rattle.command_words.proofs.words.with_live_reading_commands.Goals as goal

pub returns-clause-app : goal.returns-clause-app
returns-clause-app c =
    let live = added c.live_command.result (app_of c.in_ok-with_reading_commands.field-0) (app_of c.in_ok-live.live) app_with_reading live_app
    c.live_command.ensures.app c.in_ok-live.ensures.app c.in_ok-with_reading_commands.ensures.app in
    added-last c.verify_live_command.result c.with_command-2.result (app_of c.in_ok-live.live) _ verify_live_app
    c.verify_live_command.ensures.app c.with_command-2.ensures.app live
