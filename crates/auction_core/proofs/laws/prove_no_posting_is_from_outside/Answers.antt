use Rattle.std.proofs.Common.{ap, ◌∙◌}
use Rattle.std.specs.List.{list_any}
use Rattle.auction_core.specs.State.{before_start, opening}
use Rattle.auction_core.specs.Take.{after_postings}
use Rattle.auction_core.specs.Backed.{is_outside}
use Rattle.auction_core.proofs.Continues.{goes-then, postings-go}
use Rattle.auction_core.proofs.Prefixes.{opening-goes}
use Rattle.auction_core.proofs.laws.prove_no_posting_is_from_outside.Goals as goal

pub returns : goal.returns
returns c sc book order postings =
    let on = goes-then (before_start sc order) (opening sc book order) (after_postings sc book postings (opening sc book order)) (opening-goes sc book order) (postings-go sc book postings (opening sc book order)) in
    ap (list_any (λ x. is_outside x.shown)) on.steps ∙ on.own
