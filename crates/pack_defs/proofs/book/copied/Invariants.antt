use Rattle.std.proofs.Common.{◌≡◌, take}
use Rattle.pack_defs.proofs.book.copied.Given as goal

abbrev pub invariant-loop-domain : goal.invariant-loop-domain
invariant-loop-domain l = l.copy.items ≡ take l.domain-index l.domains
