use Rattle.pack_defs.proofs.Spans.{firsts-rise}
use Rattle.pack_defs.proofs.book.Book.pairs_from.Goals as goal

pub pairs_with_first-requires : goal.pairs_with_first-requires
pairs_with_first-requires c = rw c.deref.ensures.value (firsts-rise _ c.self.invariant.0.pairs)
