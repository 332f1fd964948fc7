-- By induction over the postings, from the opening state.
use Rattle.std.proofs.Common.{◌≡◌, ◌∙◌, subst}
use Rattle.auction_core.specs.State.{CoreState, opening}
use Rattle.auction_core.specs.Take.{after_postings}
use Rattle.auction_core.specs.Replay.{replay}
use Rattle.auction_core.specs.Backed.{IsBacked, record_of}
use Rattle.auction_core.proofs.Replays.{replays}
use Rattle.auction_core.proofs.Kept.{IsKept, kept-rule}
use Rattle.auction_core.proofs.Keeps.{opening-keeps, postings-keep}
use Rattle.auction_core.proofs.Ended.{ended-backed}
use Rattle.auction_core.proofs.Orders.{opening-order, postings-order}
use Rattle.auction_core.proofs.laws.prove_any_postings_replay.Goals as goal

pub returns : goal.returns
unfolding replay
returns c sc book order postings a =
    let first : CoreState = opening sc book order in
    let last : CoreState = after_postings sc book postings first in
    let kept : IsKept sc book last = postings-keep sc book postings first a (opening-keeps sc book order a) in
    let same : last.order ≡ order = postings-order sc book postings first ∙ opening-order sc book order in
    record {
      replays = replays sc book postings first;
      order_is = same;
      rule = kept-rule sc book last kept;
      backed = λ e. subst (λ o. IsBacked sc book o (record_of sc last)) same (ended-backed sc book last kept e);
    }
