use Rattle.std.proofs.Common.{subst, sym, Result}
use Rattle.transcript_text.specs.declared.error.TextErr.{TextErr}
use Rattle.auction_core.specs.declared.prefix.Prefix.{Prefix}
use Rattle.transcript_text.specs.Steps.{Gives}
use Rattle.transcript_text.proofs.PrefixSteps.{all-there, fault-there}
use Rattle.transcript_text.proofs.prefix_reading.prefix_steps.Goals as goal

pub returns-in-Ok : goal.returns-in-Ok
returns-in-Ok c =
    subst (λ (r : Result Prefix TextErr). Gives (λ (p : Prefix). p) r c.prefix_on_error.result)
    (sym (all-there c.args.sc.now c.args.book.now c.args.begun c.args.lines c.in-Ok.read c.in-Ok.ensures.there c.in-Ok.ensures.waits)) c.prefix_on_error.ensures

pub returns-in-Err : goal.returns-in-Err
returns-in-Err c = fault-there c.args.sc.now c.args.book.now c.args.begun c.args.lines c.in-Err.why c.in-Err.ensures.there
