use Rattle.std.proofs.Common.{◌≡◌, false, get_or}
use Rattle.constraint_files.proofs.DomainLemmas.{kept_below}
use Rattle.constraint_files.proofs.domain_row.kept_channels.Given as goal

abbrev pub invariant-loop-channel : goal.invariant-loop-channel
invariant-loop-channel l = l.kept.items ≡ kept_below (λ c. get_or l.is_named c false) l.channel
