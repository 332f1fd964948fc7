-- The command is added to the program before.
use Rattle.clap.specs.Words.{app_of}
use Rattle.command_words.specs.Words.{app_with_show, resume_app}
use Rattle.command_words.proofs.ProgramLemmas.{added-last}
use Rattle.command_words.proofs.words.with_resume_command.Goals as goal

pub returns-clause-app : goal.returns-clause-app
returns-clause-app c =
    added-last c.resume_command.result c.with_command.result (app_of c.in_ok-program.program) app_with_show resume_app
    c.resume_command.ensures.app c.with_command.ensures.app c.in_ok-program.ensures.app
