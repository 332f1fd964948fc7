use Rattle.std.proofs.Common.{◌≡◌, ℕ, List, ◌++◌, take}
use Rattle.rup_check.specs.Packed.{Spells}
use Rattle.rup_check.proofs.lines.push_hints.Given as goal

abbrev pub invariant-loop-hint : goal.invariant-loop-hint
invariant-loop-hint l = (more : List ℕ) × (l.bytes.items ≡ l.fn.bytes.items ++ more) × Spells more (take l.hint-index l.hints)
