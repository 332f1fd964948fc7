use Rattle.std.proofs.Common.{◌≡◌, [], map, replicate}
use Rattle.trail_prop.proofs.watches.Watches.new.Given as goal

abbrev pub invariant-loop : goal.invariant-loop
invariant-loop l = map (λ v. v.items) l.lists.items ≡ replicate l.counter []
