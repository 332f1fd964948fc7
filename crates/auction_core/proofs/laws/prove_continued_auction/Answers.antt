use Rattle.auction_core.specs.State.{before_start}
use Rattle.auction_core.specs.Take.{after_postings}
use Rattle.auction_core.specs.Prefix.{resumed}
use Rattle.auction_core.proofs.Kept.{kept-rule}
use Rattle.auction_core.proofs.Continues.{goes-then, postings-go}
use Rattle.auction_core.proofs.Prefixes.{resumed-keeps, resumed-goes}
use Rattle.auction_core.proofs.laws.prove_continued_auction.Goals as goal

pub returns-clause-rule : goal.returns-clause-rule
returns-clause-rule c sc book order start steps a p = kept-rule sc book (resumed sc book order start steps) (resumed-keeps sc book order start steps a p)

pub returns-clause-continues : goal.returns-clause-continues
returns-clause-continues c sc book order start steps postings a p =
    goes-then (record (before_start sc order) { start = start; steps = steps }) (resumed sc book order start steps) (after_postings sc book postings (resumed sc book order start steps)) (resumed-goes sc book order start steps a p) (postings-go sc book postings (resumed sc book order start steps))
