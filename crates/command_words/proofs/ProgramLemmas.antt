-- A program with one more command. For `words`.
use Rattle.std.proofs.Common.{◌≡◌, ◌∙◌, ap}
use Rattle.std.specs.Prelude.{IfOk, IsOkAnd, Result, Ok, Err}
use Rattle.clap.specs.Words.{App, app_of, with_subcommand}
use Rattle.clap.specs.declared.builder.command.Command.{Command}

-- adding a command of the expected shape gives the expected program
pub added : {E : Type 0} (command : Result Command E) (before new wanted sub : App) → IfOk command (λ c. app_of c ≡ sub) →
    IsOkAnd command (λ c. new ≡ with_subcommand before (app_of c).top) → before ≡ wanted → new ≡ with_subcommand wanted sub.top
added (Ok c) before new wanted sub is adds from =
    adds ∙ (ap (λ (a : App). with_subcommand before a.top) is ∙ ap (λ (b : App). with_subcommand b sub.top) from)
added (Err e) before new wanted sub is adds from = absurd adds

-- the same for the last command, for which memory may run out
pub added-last : {E : Type 0} (command result : Result Command E) (before wanted sub : App) → IfOk command (λ c. app_of c ≡ sub) →
    IfOk result (λ r. IsOkAnd command (λ c. app_of r ≡ with_subcommand before (app_of c).top)) → before ≡ wanted → IfOk result (λ r. app_of r ≡ with_subcommand wanted sub.top)
added-last command (Ok r) before wanted sub is adds from = added command before (app_of r) wanted sub is adds from
added-last command (Err e) before wanted sub is adds from = tt
