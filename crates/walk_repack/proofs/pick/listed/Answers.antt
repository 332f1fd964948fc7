use Rattle.std.proofs.Common.{◌==◌}
use Rattle.walk_repack.proofs.PickLemmas.{kept-listed}
use Rattle.walk_repack.proofs.pick.listed.Goals as goal

pub returns-then-pick : goal.returns-then-pick
returns-then-pick c p h = kept-listed (λ q. q.f == c.args.pick.station) c.args.book.now.pairs c.pairs_from.result.now p c.pairs_from.ensures h

pub returns : goal.returns
returns c p h = kept-listed (λ q. q.g == c.args.pick.station) c.args.book.now.pairs c.pairs_to.result.now p c.pairs_to.ensures h
