use Rattle.std.proofs.Common.{◌≡◌, filter, take}
use Rattle.pack_defs.specs.Book.{is_within}
use Rattle.pack_defs.proofs.book.pairs_within.Given as goal

abbrev pub invariant-loop-pair : goal.invariant-loop-pair
invariant-loop-pair l = l.kept.items ≡ filter (is_within l.domains) (take l.pair-index l.pairs)
