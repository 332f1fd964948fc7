use Rattle.std.proofs.Common.{◌≡◌, drop}
use Rattle.cert_types.specs.Query.{has_channels}
use Rattle.cert_types.proofs.query.has_channels.Given as goal

abbrev pub invariant-loop-s : goal.invariant-loop-s
invariant-loop-s l = has_channels l.book (drop l.s-index l.set) ≡ has_channels l.book l.set
