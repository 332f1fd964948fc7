use Rattle.std.proofs.Common.{ap}
use Rattle.lrat_text.specs.Lines.{ended_lines}
use Rattle.transcript_text.specs.Fields.{RemainingLines}
use Rattle.transcript_text.proofs.Fed.{opening-says, opening-stopped}
use Rattle.transcript_text.proofs.reader.read_opening.Goals as goal

pub returns-in-Ok : goal.returns-in-Ok
returns-in-Ok c =
    opening-says c.args.sc.now c.args.book.now (ended_lines c.lines.inside.text.now) c.args.lines c.in-Ok.behind c.in-Ok.begun c.read_steps.result (ap (λ (ls : RemainingLines). ls.left) c.lines.view_is) c.in-Ok.ensures c.read_steps.ensures

pub returns-in-Err : goal.returns-in-Err
returns-in-Err c =
    opening-stopped c.args.sc.now c.args.book.now (ended_lines c.lines.inside.text.now) c.args.lines c.in-Err.why c.in_ok-stage_on_error-in-Err.field-0 (ap (λ (ls : RemainingLines). ls.left) c.lines.view_is) c.in-Err.ensures c.in_ok-stage_on_error-in-Err.ensures
