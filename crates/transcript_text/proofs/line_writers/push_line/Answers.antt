use Rattle.transcript_text.proofs.WriteLines.{line-parts}
use Rattle.transcript_text.proofs.line_writers.push_line.Goals as goal

pub returns : goal.returns
returns c =
    rw (c.in_ok-extend_from_slice-2.ensures.items, c.in_ok-push_numbers.ensures.written, c.in_ok-extend_from_slice.ensures.items)
    (line-parts c.args.text.now.items c.args.word.now c.args.numbers.now)
