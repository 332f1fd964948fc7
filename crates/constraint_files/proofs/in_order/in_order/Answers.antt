use Rattle.std.proofs.lemmas.List.Filters.{dedup_is}
use Rattle.constraint_files.proofs.InOrder.{put-in-order}
use Rattle.constraint_files.proofs.in_order.in_order.Goals as goal

pub returns : goal.returns
returns g c =
    put-in-order g.met.T.Ord.total c.requires g.met.T.Ord.matches_eq _ _ _ c.sort_unstable.ensures.permutation c.sort_unstable.ensures.sorted (dedup_is _ _ _ c.dedup.ensures.filtered)
