use Rattle.std.proofs.Common.{◌≡◌, ◌++◌, filter, map, not}
use Rattle.csv.specs.Records.{fields_of}
use Rattle.pack_defs.specs.Lists.{is_empty}
use Rattle.constraint_files.specs.Records.{kept_fields}
use Rattle.constraint_files.proofs.records.kept_records.Given as goal

abbrev pub invariant-loop-row : goal.invariant-loop-row
invariant-loop-row l =
    l.records.items ++ filter (λ r. not (is_empty r)) (map kept_fields (map (λ r. fields_of r) l.row-iterator.rest.items))
    ≡ filter (λ r. not (is_empty r)) (map kept_fields (map (λ r. fields_of r) l.fn.rows.items))
