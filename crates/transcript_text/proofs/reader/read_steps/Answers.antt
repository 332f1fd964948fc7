use Rattle.transcript_text.proofs.Fed.{steps-say, steps-stopped, whole-says}
use Rattle.transcript_text.proofs.reader.read_steps.Goals as goal

pub returns-then-read : goal.returns-then-read
returns-then-read c =
    whole-says c.args.sc.now c.args.book.now c.args.begun c.same_lines.result c.args.lines c.in-Ok.read (record { begun = c.read.inside.begun; rest = c.read.inside.rest; ended = c.read.inside.ended }) c.same_lines.ensures c.read.view_is
    c.in-Ok.ensures.read c.in-Ok.ensures.there c.if-read.true

pub returns-in-Ok : goal.returns-in-Ok
returns-in-Ok c =
    steps-say c.args.sc.now c.args.book.now c.args.begun c.same_lines.result c.args.lines c.in-Ok.read (record { begun = c.read.inside.begun; rest = c.read.inside.rest; ended = c.read.inside.ended }) c.same_lines.ensures c.read.view_is
    c.in-Ok.ensures.read c.in-Ok.ensures.there c.if-read.false

pub returns-in-Err : goal.returns-in-Err
returns-in-Err c = steps-stopped c.args.sc.now c.args.book.now c.args.begun c.same_lines.result c.args.lines c.in-Err.why c.in_ok-stage_on_error-in-Err.field-0 c.same_lines.ensures c.in-Err.ensures.read c.in-Err.ensures.there c.in_ok-stage_on_error-in-Err.ensures
