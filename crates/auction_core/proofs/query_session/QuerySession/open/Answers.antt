-- The opening state keeps the rule.
use Rattle.auction_core.proofs.QuerySessionLemmas.{query_session-opening}
use Rattle.auction_core.proofs.query_session.QuerySession.open.Goals as goal

pub invariant_of-result : goal.invariant_of-result
invariant_of-result c =
    query_session-opening c.in_ok-setup.setup c.in_ok-clock_run.clock_run c.in_ok-clock_run.ensures.holds c.in_ok-clock_run.ensures.rest c.in_ok-clock_run.ensures.state
