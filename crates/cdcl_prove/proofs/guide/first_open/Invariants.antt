use Rattle.std.proofs.Common.{ℕ, ◌≡◌, ◌≤◌, true, is_some}
use Rattle.trail_prop.specs.Entries.{lits_of}
use Rattle.trail_prop.specs.Open.{value_known}
use Rattle.cdcl_prove.proofs.guide.first_open.Given as goal

abbrev pub invariant-loop-i : goal.invariant-loop-i
invariant-loop-i l = (v : ℕ) → 1 ≤ v → v ≤ l.i → is_some (value_known (lits_of l.trail.entries) v) ≡ true
