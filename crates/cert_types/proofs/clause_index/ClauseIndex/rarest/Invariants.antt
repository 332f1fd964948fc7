-- The literal chosen so far may have clauses filed under it.
use Rattle.std.specs.Prelude.{IfSome}
use Rattle.cert_types.specs.ClauseIndex.{IsKey}
use Rattle.cert_types.proofs.clause_index.ClauseIndex.rarest.Given as goal

abbrev pub invariant-loop-i : goal.invariant-loop-i
invariant-loop-i l = IfSome l.best (λ k. IsKey l.self.vars l.clause k)
