-- The three commands are added in turn.
use Rattle.clap.specs.Words.{app_of}
use Rattle.command_words.specs.Words.{app_without_commands, check_app, run_app, verify_app}
use Rattle.command_words.proofs.ProgramLemmas.{added, added-last}
use Rattle.command_words.proofs.words.with_reading_commands.Goals as goal

pub returns-clause-app : goal.returns-clause-app
returns-clause-app c =
    let running = added c.run_command.result (app_of c.in_ok-program_without_commands.field-0) (app_of c.in_ok-running.running) app_without_commands run_app
    c.run_command.ensures.app c.in_ok-running.ensures.app c.in_ok-program_without_commands.ensures.app in
    let checking = added c.check_command.result (app_of c.in_ok-running.running) (app_of c.in_ok-checking.checking) _ check_app
    c.check_command.ensures.app c.in_ok-checking.ensures.app running in
    added-last c.verify_command.result c.with_command-3.result (app_of c.in_ok-checking.checking) _ verify_app
    c.verify_command.ensures.app c.with_command-3.ensures.app checking
