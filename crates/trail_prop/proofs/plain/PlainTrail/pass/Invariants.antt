use Rattle.trail_prop.specs.Plain.{PassKeeps}
use Rattle.trail_prop.proofs.plain.PlainTrail.pass.Given as goal

abbrev pub invariant-loop-at : goal.invariant-loop-at
invariant-loop-at l = PassKeeps l.initial.self l.self l.moved l.at l.at-end
