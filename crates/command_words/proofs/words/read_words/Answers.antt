-- Either the words have no fault and their command is the one that `clap` found, or `clap` reports a fault.
use Rattle.std.proofs.Common.{Some, None, map, string_bytes}
use Rattle.clap.specs.Words.{app_of, subcommand_rows_of}
use Rattle.command_words.specs.Words.{command_view}
use Rattle.command_words.proofs.WordsLemmas.{command-from, refused-from}
use Rattle.command_words.proofs.words.read_words.Goals as goal

pub returns-in-Some-clause-command : goal.returns-in-Some-clause-command
returns-in-Some-clause-command c =
    command-from (app_of c.in-Ok.program) (map string_bytes c.args.words.now) (subcommand_rows_of c.in-Ok-try_get_matches_from.matches) (Some (command_view c.in-Some.command))
    c.in-Ok.ensures c.in-Ok-try_get_matches_from.ensures.kinds c.in-Ok-try_get_matches_from.ensures.matches c.in-Some.ensures

pub returns-in-Err-clause-refused : goal.returns-in-Err-clause-refused
returns-in-Err-clause-refused c = λ refused.
    refused-from (app_of c.in-Ok.program) (map string_bytes c.args.words.now) c.in-Err.error c.in-Ok.ensures c.in-Err.ensures.kinds (c.fault_from.ensures refused)

pub returns-clause-refused : goal.returns-clause-refused
returns-clause-refused c = λ refused.
    command-from (app_of c.in-Ok.program) (map string_bytes c.args.words.now) (subcommand_rows_of c.in-Ok-try_get_matches_from.matches) None
    c.in-Ok.ensures c.in-Ok-try_get_matches_from.ensures.kinds c.in-Ok-try_get_matches_from.ensures.matches c.in-None.ensures
