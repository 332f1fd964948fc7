-- The result for what was read is the result for the text.
use Rattle.commands.proofs.ResumeEndLemmas.{read-begun, unread-begun}
use Rattle.commands.proofs.resume.begun.Goals as goal

pub returns-in-Ok : goal.returns-in-Ok
returns-in-Ok c = λ text read. read-begun c.args.inputs.now text c.in-Ok.kept c.auction_after_prefix.result (c.in-Ok.ensures text read) c.auction_after_prefix.ensures

pub returns-in-Err : goal.returns-in-Err
returns-in-Err c = λ text read. rw c.not_read.ensures (unread-begun c.args.inputs.now text c.in-Err.why (c.in-Err.ensures text read))
