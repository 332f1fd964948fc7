use Rattle.std.proofs.Common.{refl}
use Rattle.constraint_files.proofs.PieceLemmas.{fed-begun}
use Rattle.constraint_files.proofs.line_reader.LineReader.begin.Goals as goal

pub returns-clause-fed : goal.returns-clause-fed
returns-clause-fed g c =
    let t = c.reader.inside in
    rw (← c.reader.view_is, fed-begun g.T.Table.add (record { made = t.table; begun = t.begun.items; line = t.number }) c.args.bytes.now c.reader.invariant c.requires, c.in_ok-extend_from_slice.ensures.items) refl
