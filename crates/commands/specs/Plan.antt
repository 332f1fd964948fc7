-- What the words of the command line make the program do.
use Rattle.std.specs.Prelude.{ℕ, List, Option, Some, None}
use Rattle.command_words.specs.Words.{Command, command_of, repeated_by}

-- What the words ask for: nothing if they are no command, a rejection if the name of a file to store is given again, or a command.
pub data Plan : Type 0 where
  no_command : Plan
  repeats : List ℕ → Plan
  carries : Command → Plan

-- This command, unless this name of a file to store is given again.
abbrev pub unless_repeated : Command → Option (List ℕ) → Plan
unless_repeated command (Some name) = repeats name
unless_repeated command None = carries command

-- The plan for this command, or for words that are none.
abbrev pub command_plan : Option Command → Plan
command_plan None = no_command
command_plan (Some command) = unless_repeated command (repeated_by command)

-- The plan that these words ask for.
abbrev pub plan_of : List (List ℕ) → Plan
plan_of words = command_plan (command_of words)
