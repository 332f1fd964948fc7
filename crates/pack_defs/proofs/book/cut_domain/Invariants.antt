use Rattle.std.proofs.Common.{◌≡◌, filter, take, nat_le}
use Rattle.pack_defs.proofs.book.cut_domain.Given as goal

abbrev pub invariant-loop-c : goal.invariant-loop-c
invariant-loop-c l = l.channels.items ≡ filter (λ c. nat_le c l.top) (take l.c-index l.c-items)
