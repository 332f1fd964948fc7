-- The rest of the literals adds the same bits.
use Rattle.std.proofs.Common.{◌≡◌, drop}
use Rattle.cert_types.specs.Signature.{signed, signature}
use Rattle.cert_types.proofs.signature.signature.Given as goal

abbrev pub invariant-loop-lit : goal.invariant-loop-lit
invariant-loop-lit l = signed l.bits (drop l.lit-index l.lits) ≡ signature l.lits
