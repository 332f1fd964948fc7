use Rattle.std.proofs.Common.{◌≡◌, map, take}
use Rattle.constraint_files.proofs.records.own_fields.Given as goal

abbrev pub invariant-loop-i : goal.invariant-loop-i
invariant-loop-i l = map (λ f. f.items) l.own.items ≡ take l.i l.fields
