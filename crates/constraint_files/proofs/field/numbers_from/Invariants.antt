use Rattle.std.proofs.Common.{◌≡◌, ◌++◌, drop}
use Rattle.std.specs.Option.{option_map}
use Rattle.constraint_files.specs.Field.{numbers}
use Rattle.constraint_files.proofs.field.numbers_from.Given as goal

abbrev pub invariant-loop-i : goal.invariant-loop-i
invariant-loop-i l = option_map (λ more. l.list.items ++ more) (numbers (drop l.i l.fields)) ≡ numbers (drop l.fn.from l.fn.fields)
