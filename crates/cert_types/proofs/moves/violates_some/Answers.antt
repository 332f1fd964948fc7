use Rattle.std.proofs.Common.{ap, nat_lt, ◌∙◌}
use Rattle.assign_check.specs.Fault.{is_violated}
use Rattle.assign_check.proofs.Counts.{counts-any}
use Rattle.cert_types.proofs.moves.violates_some.Goals as goal

pub returns : goal.returns
returns c = ap (nat_lt 0) c.violations.ensures ∙ counts-any (is_violated c.args.map.now.entries) c.args.map.now.book.pairs
