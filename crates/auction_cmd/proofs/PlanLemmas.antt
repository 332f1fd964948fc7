-- The plan of the words, and the command that they are.
use Rattle.std.proofs.Common.{◌≡◌, ◌∙◌, ℕ, List, Option, Some, None, refl, sym, ap, subst}
use Rattle.commands.specs.Plan.{no_command, repeats, carries, command_plan, unless_repeated}
use Rattle.command_words.specs.Words.{Command, repeated_by}

-- ---- the plan, from the command

pub plan-none : (command : Option Command) → command ≡ None → command_plan command ≡ no_command
plan-none command is = ap command_plan is

pub plan-repeats : (command : Option Command) (asked : Command) (name : List ℕ) → command ≡ Some asked → Some name ≡ repeated_by asked → command_plan command ≡ repeats name
plan-repeats command asked name is twice = ap command_plan is ∙ ap (unless_repeated asked) (sym twice)

pub plan-carries : (command : Option Command) (asked : Command) → command ≡ Some asked → None ≡ repeated_by asked → command_plan command ≡ carries asked
plan-carries command asked is once = ap command_plan is ∙ ap (unless_repeated asked) (sym once)

-- ---- the command, from the plan

same-command : (a b : Command) → carries a ≡ carries b → a ≡ b
same-command a b e = cc

-- The words are this command, and no name of a file that it stores is given again.
pub record IsAsked (command : Option Command) (asked : Command) : Type 0 where
  pub is : command ≡ Some asked
  pub once : repeated_by asked ≡ None

asked-unless : (own asked : Command) (twice : Option (List ℕ)) → repeated_by own ≡ twice → unless_repeated own twice ≡ carries asked → IsAsked (Some own) asked
asked-unless own asked None once e =
    let same = same-command own asked e in
    record { is = ap Some same; once = subst (λ z. repeated_by z ≡ None) same once }
asked-unless own asked (Some name) twice e = cc

pub asked-of : (command : Option Command) (asked : Command) → command_plan command ≡ carries asked → IsAsked command asked
asked-of None asked e = cc
asked-of (Some own) asked e = asked-unless own asked (repeated_by own) refl e
