-- The verdict on what was read is the verdict on the text.
use Rattle.commands.proofs.TranscriptLemmas.{read-verdict, unread-verdict}
use Rattle.commands.proofs.shown.record_of.Goals as goal

pub returns-in-Ok : goal.returns-in-Ok
returns-in-Ok c = λ text read. read-verdict c.args.inputs.now text c.in-Ok.transcript c.record_from.result (c.in-Ok.ensures text read) c.record_from.ensures

pub returns-in-Err : goal.returns-in-Err
returns-in-Err c = λ text read. rw c.not_read.ensures (unread-verdict c.args.inputs.now text c.in-Err.why (c.in-Err.ensures text read))
