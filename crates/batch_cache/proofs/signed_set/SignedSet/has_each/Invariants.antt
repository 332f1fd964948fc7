-- The stations that are left are all in the set exactly if all are.
use Rattle.std.proofs.Common.{◌≡◌, drop}
use Rattle.std.specs.List.{list_all}
use Rattle.pack_defs.specs.Lists.{is_in}
use Rattle.batch_cache.proofs.signed_set.SignedSet.has_each.Given as goal

abbrev pub invariant-loop-place : goal.invariant-loop-place
invariant-loop-place l = list_all (is_in l.self) (drop l.place l.stations) ≡ list_all (is_in l.self) l.stations
