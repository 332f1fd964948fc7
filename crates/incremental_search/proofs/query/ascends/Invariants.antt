-- The entries from the last visited one on ascend exactly if all entries do.
use Rattle.std.proofs.Common.{◌≡◌, ◌-◌, drop, map}
use Rattle.pack_defs.specs.Lists.{is_ascending}
use Rattle.incremental_search.proofs.query.ascends.Given as goal

abbrev pub invariant-loop-i : goal.invariant-loop-i
invariant-loop-i l = is_ascending (map (λ x. x.0) (drop (l.i - 1) l.entries)) ≡ is_ascending (map (λ x. x.0) l.entries)
