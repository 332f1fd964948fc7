use Rattle.std.proofs.Common.{◌≡◌, ◌++◌, take}
use Rattle.scenario_make.specs.GeneratedFiles.{comma_prefixed}
use Rattle.scenario_make.proofs.lines.push_numbers.Given as goal

abbrev pub invariant-loop-n : goal.invariant-loop-n
invariant-loop-n l = l.text.items ≡ l.initial.text.items ++ comma_prefixed (take l.n-index l.numbers)
