use Rattle.std.proofs.Common.{◌≡◌, drop}
use Rattle.cert_types.specs.Query.{is_on_domains}
use Rattle.cert_types.proofs.query.is_on_domains.Given as goal

abbrev pub invariant-loop-x : goal.invariant-loop-x
invariant-loop-x l = is_on_domains l.book l.set (drop l.x-index l.entries) ≡ is_on_domains l.book l.set l.entries
