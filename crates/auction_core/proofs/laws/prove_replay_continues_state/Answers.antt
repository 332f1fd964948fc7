use Rattle.auction_core.proofs.Kept.{kept-rule, rule-kept}
use Rattle.auction_core.proofs.Replays.{replay-keeps}
use Rattle.auction_core.proofs.Continues.{replay-goes}
use Rattle.auction_core.proofs.laws.prove_replay_continues_state.Goals as goal

pub returns-clause-continues : goal.returns-clause-continues
returns-clause-continues c sc book first history state e = replay-goes sc book history first state e

pub returns-clause-rule : goal.returns-clause-rule
returns-clause-rule c sc book first history state a h e = kept-rule sc book state (replay-keeps sc book history first state a (rule-kept sc book first h) e)
