use Rattle.std.proofs.Common.{◌≡◌, not, find, drop}
use Rattle.pack_defs.specs.Book.{domain_of}
use Rattle.pack_defs.specs.Lists.{is_in}
use Rattle.assign_check.proofs.check.off_domain.Given as goal

abbrev pub invariant-loop-x : goal.invariant-loop-x
invariant-loop-x l = find (λ x. not (is_in (domain_of l.book x.0) x.1)) (drop l.x-index l.entries) ≡ find (λ x. not (is_in (domain_of l.book x.0) x.1)) l.entries
