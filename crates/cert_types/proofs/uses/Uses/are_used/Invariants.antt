-- The rest of the literals decides as all of them do.
use Rattle.std.proofs.Common.{◌≡◌, drop}
use Rattle.cert_types.specs.Uses.{are_used}
use Rattle.cert_types.proofs.uses.Uses.are_used.Given as goal

abbrev pub invariant-loop-lit : goal.invariant-loop-lit
invariant-loop-lit l = are_used l.self (drop l.lit-index l.lits) ≡ are_used l.self l.lits
