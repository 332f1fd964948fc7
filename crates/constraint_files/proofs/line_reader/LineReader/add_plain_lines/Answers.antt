use Rattle.std.proofs.Common.{refl}
use Rattle.constraint_files.proofs.RunLemmas.{plain-added, plain-stops}
use Rattle.constraint_files.proofs.line_reader.LineReader.add_plain_lines.Goals as goal

pub returns-in-Ok : goal.returns-in-Ok
returns-in-Ok g c =
    let t = c.self.inside in
    let added = rw c.in-Ok.is at c.add_records.ensures in
    rw (← c.self.view_is, plain-added g.T.Table.add t.table c.in-Ok.table t.number c.args.bytes.now c.requires added, c.in_ok-number-in-Ok.ensures) refl

pub returns-in-Err-Refused : goal.returns-in-Err-Refused
returns-in-Err-Refused g c =
    let t = c.self.inside in
    let refused = rw (c.in-Err-Refused.is, c.in-Err-Refused.field-0-is) at c.add_records.ensures in
    rw (← c.self.view_is, plain-stops g.T.Table.add t.table t.number c.in-Err-Refused.before c.args.bytes.now c.in-Err-Refused.why c.requires refused, c.in_ok-line-in-Err-Refused.ensures) refl
