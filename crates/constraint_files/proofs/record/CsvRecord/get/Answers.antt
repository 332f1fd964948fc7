use Rattle.std.proofs.Common.{◌∙◌, arith, map, sym}
use Rattle.csv.specs.Records.{fields_of}
use Rattle.constraint_files.specs.Records.{trimmed}
use Rattle.constraint_files.proofs.FieldLemmas.{kept-at, none-at}
use Rattle.constraint_files.proofs.record.CsvRecord.get.Goals as goal

pub returns-then-i-self : goal.returns-then-i-self
returns-then-i-self c =
    let fs = fields_of c.self.inside.row in
    rw (← c.self.view_is, c.self.invariant.1) (c.trimmed_at.ensures ∙ sym (kept-at fs c.self.inside.kept c.args.i (omega arith)))

pub returns-else-i-self : goal.returns-else-i-self
returns-else-i-self c =
    let fs = fields_of c.self.inside.row in
    rw (← c.self.view_is, c.self.invariant.1) (sym (none-at (map trimmed fs) c.self.inside.kept c.args.i (omega arith)))
