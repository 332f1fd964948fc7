-- By induction over the postings, from the state.
use Rattle.std.proofs.Common.{subst}
use Rattle.auction_core.specs.State.{CoreState}
use Rattle.auction_core.specs.Take.{after_postings}
use Rattle.auction_core.specs.Backed.{IsBacked, record_of}
use Rattle.auction_core.proofs.Replays.{replays}
use Rattle.auction_core.proofs.Kept.{IsKept, kept-rule, rule-kept}
use Rattle.auction_core.proofs.Keeps.{postings-keep}
use Rattle.auction_core.proofs.Ended.{ended-backed}
use Rattle.auction_core.proofs.Continues.{postings-go}
use Rattle.auction_core.proofs.laws.prove_any_postings_replay_from.Goals as goal

pub returns : goal.returns
returns c sc book first postings a h =
    let last : CoreState = after_postings sc book postings first in
    let kept : IsKept sc book last = postings-keep sc book postings first a (rule-kept sc book first h) in
    let on = postings-go sc book postings first in
    record {
      replays = replays sc book postings first;
      goes_on = on;
      rule = kept-rule sc book last kept;
      backed = λ e. subst (λ o. IsBacked sc book o (record_of sc last)) on.order (ended-backed sc book last kept e);
    }
