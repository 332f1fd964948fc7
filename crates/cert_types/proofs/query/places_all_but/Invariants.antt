use Rattle.std.proofs.Common.{◌≡◌, ◌==◌, ◌||◌, drop}
use Rattle.std.specs.List.{list_all}
use Rattle.pack_defs.specs.Lists.{has_station}
use Rattle.cert_types.proofs.query.places_all_but.Given as goal

abbrev pub invariant-loop-t : goal.invariant-loop-t
invariant-loop-t l = list_all (λ t. (t == l.tested) || has_station l.map t) (drop l.t-index l.set) ≡ list_all (λ t. (t == l.tested) || has_station l.map t) l.set
