use Rattle.std.proofs.Common.{◌≡◌, not, true, take}
use Rattle.std.specs.List.{list_all}
use Rattle.pack_defs.specs.Book.{is_forbidden}
use Rattle.plain_pack.proofs.search.is_compatible.Given as goal

abbrev pub invariant-loop-x : goal.invariant-loop-x
invariant-loop-x l = list_all (λ y. not (is_forbidden l.book (l.station, l.channel) y)) (take l.x-index l.chosen) ≡ true
