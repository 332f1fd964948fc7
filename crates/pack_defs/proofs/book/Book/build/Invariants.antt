use Rattle.std.proofs.Common.{◌≡◌, map, take}
use Rattle.pack_defs.specs.Book.{cut_domain}
use Rattle.pack_defs.proofs.book.Book.build.Given as goal

abbrev pub invariant-loop-id : goal.invariant-loop-id
invariant-loop-id l = l.cut.items ≡ map (cut_domain l.top l.domains) (take l.id-index l.ids)
