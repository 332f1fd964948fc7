use Rattle.transcript_text.proofs.Ahead.{opened-fails, opened-gives}
use Rattle.transcript_text.proofs.read.read_transcript.Goals as goal

pub returns-in-Ok : goal.returns-in-Ok
returns-in-Ok c = opened-gives c.args.sc.now c.args.book.now c.args.text.now c.in-Ok.begun c.in-Ok.lines c.is_whole.result c.continue_reading.result c.in-Ok.ensures c.is_whole.ensures c.continue_reading.ensures

pub returns-in-Err : goal.returns-in-Err
returns-in-Err c = opened-fails c.args.sc.now c.args.book.now c.args.text.now c.in-Err.why c.in-Err.ensures
