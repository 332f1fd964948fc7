use Rattle.std.proofs.Common.{◌≡◌, not, filter, take}
use Rattle.pack_defs.specs.Lists.{has_entry}
use Rattle.cert_types.proofs.delta.delta.Given as goal

abbrev pub invariant-loop-x : goal.invariant-loop-x
invariant-loop-x l = record {
  all : l.x-items ≡ l.map;
  lacking : l.entries.items ≡ filter (λ x. not (has_entry l.last x)) (take l.x-index l.map);
}
