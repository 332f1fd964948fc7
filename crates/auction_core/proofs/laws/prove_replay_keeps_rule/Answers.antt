-- By induction over the history, from the opening state.
use Rattle.std.proofs.Common.{◌∙◌, subst}
use Rattle.auction_core.specs.State.{opening}
use Rattle.auction_core.specs.Replay.{replay}
use Rattle.auction_core.specs.Backed.{IsBacked, record_of}
use Rattle.auction_core.proofs.Kept.{kept-rule}
use Rattle.auction_core.proofs.Keeps.{opening-keeps}
use Rattle.auction_core.proofs.Replays.{replay-keeps}
use Rattle.auction_core.proofs.Ended.{ended-backed}
use Rattle.auction_core.proofs.Orders.{opening-order, replay-order}
use Rattle.auction_core.proofs.laws.prove_replay_keeps_rule.Goals as goal

pub returns-clause-rule : goal.returns-clause-rule
unfolding replay
returns-clause-rule c sc book order history state a e =
    kept-rule sc book state (replay-keeps sc book history (opening sc book order) state a (opening-keeps sc book order a) e)

pub returns-clause-order : goal.returns-clause-order
unfolding replay
returns-clause-order c sc book order history state e =
    replay-order sc book history (opening sc book order) state e ∙ opening-order sc book order

pub returns-clause-backed : goal.returns-clause-backed
unfolding replay
returns-clause-backed c sc book order history state a e f =
    subst (λ o. IsBacked sc book o (record_of sc state)) (replay-order sc book history (opening sc book order) state e ∙ opening-order sc book order)
    (ended-backed sc book state (replay-keeps sc book history (opening sc book order) state a (opening-keeps sc book order a) e) f)
