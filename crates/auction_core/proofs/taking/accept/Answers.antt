-- A valid fit and a valid refutation settle the query.
use Rattle.std.proofs.Common.{subst}
use Rattle.auction_core.specs.Auction.{state_at}
use Rattle.auction_core.specs.Rule.{Answers}
use Rattle.auction_core.specs.State.{CoreState}
use Rattle.auction_core.proofs.CertifiedBy.{refutation-settles}
use Rattle.auction_core.proofs.Keeps.{fit-settles}
use Rattle.auction_core.proofs.taking.accept.Goals as goal

pub advance-requires-clause-settles : goal.advance-requires-clause-settles
advance-requires-clause-settles c =
    let w = c.args.query_session.now in
    let state : CoreState = state_at w c.args.pending_receipts.now in
    fit-settles w.scenario w.book state c.args.worker c.in-Fit.delta (subst (Answers w.scenario w.book state c.args.worker) c.in-Fit.is c.requires.valid)

pub advance-requires-in-Refuted-clause-settles : goal.advance-requires-in-Refuted-clause-settles
advance-requires-in-Refuted-clause-settles c =
    let w = c.args.query_session.now in
    let state : CoreState = state_at w c.args.pending_receipts.now in
    refutation-settles w.scenario w.book state c.args.worker c.in-Refuted.how (subst (Answers w.scenario w.book state c.args.worker) c.in-Refuted.is c.requires.valid)
