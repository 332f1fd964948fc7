-- Without an end, a missing step after the last one is no fault.
use Rattle.auction_core.proofs.EndLemmas.{started-none}
use Rattle.auction_core.proofs.check_sequence.check_started_sequence.Goals as goal

pub returns-in-Ok-check_sequence-clause-none : goal.returns-in-Ok-check_sequence-clause-none
returns-in-Ok-check_sequence-clause-none c =
    let f = c.in-Ok-check_sequence.ensures in
    started-none c.args.sc.now c.args.book.now c.args.ended c.args.transcript c.in-Ok-check_sequence.query_session.state c.if-ended.false f.start f.at
