use Rattle.std.proofs.Common.{subst, sym, Result}
use Rattle.transcript_text.specs.declared.error.TextErr.{TextErr}
use Rattle.auction_core.specs.declared.transcript.Transcript.{Transcript}
use Rattle.transcript_text.specs.Steps.{Gives}
use Rattle.transcript_text.proofs.Ahead.{all-read, fault-read}
use Rattle.transcript_text.proofs.read.continue_reading.Goals as goal

pub returns-in-Ok : goal.returns-in-Ok
returns-in-Ok c =
    subst (λ (r : Result Transcript TextErr). Gives (λ (t : Transcript). t) r c.ended_on_error.result) (sym (all-read c.args.sc.now c.args.book.now c.args.begun c.args.lines c.args.whole c.in-Ok.read c.in-Ok.ensures.read c.in-Ok.ensures.waits)) c.ended_on_error.ensures

pub returns-in-Err : goal.returns-in-Err
returns-in-Err c = fault-read c.args.sc.now c.args.book.now c.args.begun c.args.lines c.args.whole c.in-Err.why c.in-Err.ensures.read
